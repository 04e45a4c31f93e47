-- The stores by the kind of a region, where code has asked which it is: what its own functions need and leave is what the kind's do. Assumes
-- nothing.
use Rattle.std.specs.Prelude.{Option, None, Some}
use Prim.Native.Nat.{ℕ, ◌+◌, ◌≤◌}
use mathlib.Core.Path.{◌≡◌, sym, ap, ◌∙◌}
use mathlib.Core.Bool.{Bool, true, false}
use mathlib.Core.List.{List}
use native.Mathlib.Nat.{add-zero}
use native.Mathlib.Omega.{arith}
use lib.Dec.{eqb, leb}
use lib.ListN.{length}
use mir.Syntax.{w64}
use mir.Val.{Fits}
use borrow.Author.Rules.{Fits-under}
use borrow.Author.Tests.{leb-true, ne_eqb}
use Rattle.arith.specs.Power.{level}
use Rattle.manager.specs.Kind.{Kind, allocate, held_from}
use Rattle.manager.specs.Map.{decode, draw, sound_map, total}
use Rattle.manager.specs.Paged.{apart, place_from, paged, reach_from, change_from}
use Rattle.manager.specs.Halves.{place_block, release_block, halves}
use Rattle.manager.specs.Region.{by_halves, kind_of}
use Rattle.manager.specs.declared.Need.{Need}
use Rattle.manager.specs.declared.Order.{Order}
use Rattle.manager.specs.declared.Order.TheVariants.{HalvesFifo}
use Rattle.manager.proofs.Laws.Kinds.{keeps}
use Rattle.manager.proofs.Laws.Shift.{shifted}
use Rattle.manager.proofs.Laws.Halves.Shift.{place_shift, take_shift}
use Rattle.manager.proofs.Laws.Map.{sound_tiled, redraw, total_decoded}
use Rattle.map.specs.Word.{held_word, some_pages}
use Rattle.map.proofs.Word.{one_word, said_is, said_none}
use Rattle.map.proofs.Order.{kind_halves, kind_pages}

module _ (o : Order) (b : Bool) (e : b ≡ by_halves o) (ws : List ℕ) (ok : sound_map (kind_of o).proper ws ≡ true) where
  tiles : total (decode ws) ≡ length ws
  tiles = total_decoded ws (sound_tiled (kind_of o).proper ws ok)

  -- by halves
  module _ (h : b ≡ true) where
    pub halves_sound : sound_map halves.proper ws ≡ true
    halves_sound = rw (kind_halves o b e h) at ok

    -- what is taken by the places of words is taken by the numbers of pages
    pub halves_takes : (n : Need) (first : ℕ) (q : Option ℕ) (out : List ℕ)
        → (q ≡ place_block n.pages 0 (decode ws)) × (out ≡ draw (allocate halves n 0 (decode ws)))
        → (shifted first q ≡ (kind_of o).place n first (decode ws)) × (out ≡ draw (allocate (kind_of o) n first (decode ws)))
    halves_takes n first q out x =
        rw (kind_halves o b e h) (
          ap (shifted first) x.0 ∙ sym (rw (add-zero first) at (place_shift first n.pages 0 (decode ws))),
          x.1 ∙ ap draw (sym (rw (add-zero first) at (take_shift first n 0 (decode ws)))),
        )

    -- the number of the page fits
    pub page_fits : (n : Need) (first i : ℕ) → Some i ≡ place_block n.pages 0 (decode ws) → first ≤ 65536 → length ws ≤ 16384 → 1 ≤ n.pages → Fits w64 (first + i)
    page_fits n first i x low few some =
        Fits-under w64 (first + i) 81921 (omega (arith, ((keeps HalvesFifo).place_in n 0 (decode ws) i some (sym x)).1, tiles)) tt

    pub halves_releases : (p : ℕ) (out : List ℕ) → out ≡ draw (release_block (level (length ws)) p 0 (decode ws)) → out ≡ draw ((kind_of o).change p 0 0 (decode ws))
    halves_releases p out x = rw (kind_halves o b e h, tiles) x

    module _ (p : ℕ) (w : Option ℕ) (x : w ≡ some_pages (held_word ws p)) where
      says : held_word ws p ≡ held_from p 0 (decode ws)
      says =
          let q : 0 + p ≡ p = omega arith in
          rw q at (one_word ws 0 p (sound_tiled (kind_of o).proper ws ok))

      pub halves_have : (k n : ℕ) → w ≡ Some n → eqb k n ≡ (kind_of o).can_have p k 0 (decode ws)
      halves_have k n y =
          ap (eqb k) ((said_is (held_word ws p) w x n y).0 ∙ says) ∙ ap (λ (K : Kind). K.can_have p k 0 (decode ws)) (sym (kind_halves o b e h))

      -- a held segment is said
      pub halves_said : (k : ℕ) → w ≡ None → 1 ≤ held_from p 0 (decode ws) → false ≡ (kind_of o).can_have p k 0 (decode ws)
      halves_said k y l = absurd (said_none (held_word ws p) (sym x ∙ y) (omega (arith, says)))

    pub halves_stays : (p k : ℕ) → 1 ≤ k → ws ≡ draw ((kind_of o).change p k 0 (decode ws))
    halves_stays p k l =
        let z : halves.change p k 0 (decode ws) ≡ decode ws = rw (ne_eqb k 0 (λ q. omega arith)) in
        sym (redraw ws (sound_tiled (kind_of o).proper ws ok)) ∙ ap draw (sym z) ∙ ap (λ (K : Kind). draw (K.change p k 0 (decode ws))) (sym (kind_halves o b e h))

  -- of pages
  module _ (h : b ≡ false) where
    pub pages_sound : sound_map apart ws ≡ true
    pages_sound = rw (kind_pages o b e h) at ok

    pub pages_takes : (n : Need) (first : ℕ) (q : Option ℕ) (out : List ℕ)
        → (q ≡ place_from n first (decode ws)) × (out ≡ draw (allocate paged n first (decode ws)))
        → (q ≡ (kind_of o).place n first (decode ws)) × (out ≡ draw (allocate (kind_of o) n first (decode ws)))
    pages_takes n first q out x = rw (kind_pages o b e h) x

    pub pages_changes : (p k : ℕ) (out : List ℕ) → out ≡ draw (change_from p k 0 (decode ws)) → out ≡ draw ((kind_of o).change p k 0 (decode ws))
    pages_changes p k out x = rw (kind_pages o b e h) x

    pub pages_have : (p k n : ℕ) → n ≡ reach_from p 0 (decode ws) → leb k n ≡ (kind_of o).can_have p k 0 (decode ws)
    pages_have p k n x = ap (leb k) x ∙ ap (λ (K : Kind). K.can_have p k 0 (decode ws)) (sym (kind_pages o b e h))

    pub pages_room : (p k : ℕ) → (kind_of o).can_have p k 0 (decode ws) ≡ true → k ≤ reach_from p 0 (decode ws)
    pages_room p k x = leb-true k (reach_from p 0 (decode ws)) (ap (λ (K : Kind). K.can_have p k 0 (decode ws)) (sym (kind_pages o b e h)) ∙ x)

pub ruleset kinds = (halves_sound, halves_releases, halves_have, halves_said, halves_stays, pages_sound, pages_changes, pages_have, pages_room)
