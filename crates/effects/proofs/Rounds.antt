-- Which words are written where every region's queue is served, one after the other: words of maps of live regions. Each region's map has
-- all its pages when its turn comes, since those before it wrote only in theirs. Assumes nothing.
use mathlib.Core.Path.{◌≡◌, sym, ap, ◌∙◌, subst}
use mathlib.Core.Bool.{true, false, cond}
use mathlib.Core.List.{List, [], ◌∷◌}
use Prim.Native.Nat.{ℕ, zero, suc, ◌+◌, ◌≤◌, ◌<◌}
use native.Mathlib.Omega.{arith}
use lib.ListN.{length, get_or}
use borrow.Author.Tests.{eqb-false}
use Rattle.manager.specs.Record.{slots, no_region, region_of, id_of, with_queue}
use Rattle.manager.specs.Map.{decode, total}
use Rattle.manager.specs.Region.{dead}
use Rattle.manager.specs.Queue.{after_tick}
use Rattle.manager.specs.Serve.{quiet, serve, serve_slot, serve_slots, serve_all, serve_after}
use Rattle.manager.specs.Sound.{sound, sound_areas}
use Rattle.manager.specs.Words.{MapWord, Only}
use Rattle.manager.specs.declared.Manager.{Manager}
use Rattle.manager.specs.declared.Region.{Region}
use Rattle.manager.specs.declared.Notice.{Notice}
use Rattle.manager.proofs.Laws.Appended.{by_case}
use Rattle.manager.proofs.Laws.Ids.{slot_object}
use Rattle.manager.proofs.Laws.Areas.{regions_clear}
use Rattle.manager.proofs.Laws.Serve.{served_queue}
use Rattle.manager.proofs.Laws.Sites.{sound_sites}
use Rattle.manager.proofs.Laws.Words.{unchanged, only_wider, only_then, Mapped, sited_mapped, served_only, other_map, other_laid}
use Rattle.effects.specs.Effects.{Whole}

-- a word of the map of some live region
abbrev SomeMap : Manager → ℕ → Type 0
SomeMap d j = (id : ℕ) × (dead (region_of d id) ≡ false) × MapWord (region_of d id) j

-- the live regions from slot i on have all their pages, and the areas are apart
record Rest (m : List ℕ) (d : Manager) (i : ℕ) : Type 0 where
  mapped : (j : ℕ) → i ≤ j → j < slots → dead (get_or d.regions j no_region) ≡ false → Mapped m (get_or d.regions j no_region)
  areas : sound_areas d ≡ true
  size : length d.regions ≡ slots

module _ (m : List ℕ) (d : Manager) (i : ℕ) (h : i < slots) (v : Rest m d i) where
  abbrev here : Region
  here = get_or d.regions i no_region

  -- where it is live, its map alone is written; the regions behind it stay as they were
  module _ (live : dead here ≡ false) where
    abbrev id : ℕ
    id = id_of i here.generation

    found : region_of d id ≡ here
    found = slot_object (λ r. r.name) (λ r. r.generation) no_region d.regions i h (eqb-false here.name 0 live)

    only : Only (MapWord here) m (serve m d id).memory
    only =
        subst (λ (r : Region). Only (MapWord r) m (serve m d id).memory) found
        (served_only m d id (rw found (v.mapped i (omega arith) h live)))

    live_only : Only (SomeMap d) m (serve m d id).memory
    live_only = only_wider (λ j w. (id, rw found live, rw found w)) only

    behind_kept : Rest (serve m d id).memory (with_queue d (serve m d id).manager.waiters) (suc i)
    behind_kept =
        record {
          mapped = λ j l u named. (
              let x = get_or d.regions j no_region in
              let a = v.mapped j (omega arith) u named in
              let b = v.mapped i (omega arith) h live in
              let c = regions_clear d v.areas i j (omega (arith, v.size)) (omega (arith, v.size)) (λ e. omega arith) in
              record {
                laid = other_laid m here x a.laid b.laid c _ only;
                pages = ap (λ (ws : List ℕ). total (decode ws)) (other_map m here x a.laid b.laid c _ only) ∙ a.pages;
              }
              );
          areas = v.areas;
          size = v.size;
        }

  -- one slot
  record Turn (m' : List ℕ) (d' : Manager) : Type 0 where
    wrote : Only (SomeMap d) m m'
    rest : Rest m' d' (suc i)
    maps : (j : ℕ) → SomeMap d' j → SomeMap d j

  turn : Turn (serve_slot m d i).memory (serve_slot m d i).manager
  unfolding serve_slot
  turn =
      by_case (dead here) (λ b. Turn (cond b (quiet m d) (serve m d id')).memory (cond b (quiet m d) (serve m d id')).manager)
      (λ e. record {
        wrote = unchanged;
        rest = record { mapped = λ j l. v.mapped j (omega arith); areas = v.areas; size = v.size };
        maps = λ j w. w;
      })
      (λ e. record {
        wrote = live_only e;
        rest = subst (λ (x : Manager). Rest (serve m d id').memory x (suc i)) (sym (served_queue m d id')) (behind_kept e);
        maps = λ j w. subst (λ (x : Manager). SomeMap x j) (served_queue m d id') w;
      })
    where
      id' : ℕ
      id' = id_of i here.generation

-- so many slots
slots_only : (n : ℕ) (m : List ℕ) (d : Manager) (i : ℕ) → i + n ≤ slots → Rest m d i → Only (SomeMap d) m (serve_slots n m d i).memory
unfolding serve_slots
slots_only zero m d i h v = unchanged
slots_only (suc n) m d i h v =
    let t = turn m d i (omega arith) v in
    let s = serve_slot m d i in
    only_then t.wrote (only_wider t.maps (slots_only n s.memory s.manager (suc i) (omega arith) t.rest))

-- A TICK'S SERVING, by whom it sent away
pub after_only : (ns : List Notice) (m : List ℕ) (d : Manager) → sound m d ≡ true → Whole d → Only (SomeMap d) m (serve_after ns m (after_tick d)).memory
unfolding serve_all after_tick
after_only [] m d ok w = unchanged
after_only (n ∷ ns) m d ok w =
    let s = sound_sites m d ok w.regions in
    slots_only slots m (after_tick d) 0 (omega arith)
    (record {
      mapped = λ j l u e. sited_mapped m _ (s.sited j u (eqb-false (get_or d.regions j no_region).name 0 e));
      areas = s.areas;
      size = w.regions;
    })
