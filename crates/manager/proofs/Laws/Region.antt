-- The part of the memory that is a region's map, lent and put back: what the words of the map become, the memory has in their place. And
-- no held segment is larger than its region. Assumes nothing.
use Prim.Native.Nat.{ℕ, ◌+◌, ◌-◌, ◌*◌, ◌≤◌}
use mathlib.Core.Path.{◌≡◌, ap, sym, ◌∙◌}
use mathlib.Core.Bool.{Bool, true, false, cond}
use mathlib.Core.List.{List, ◌++◌}
use native.Mathlib.Nat.{zero-div}
use native.Mathlib.Omega.{arith}
use lib.ListN.{length, take, drop}
use lib.Seq.{drop-drop}
use borrow.Rule.Slice.PartMut.{put_mid}
use borrow.Author.Rules.{Fits-under}
use mir.Syntax.{w64}
use mir.Val.{Fits}
use Rattle.manager.specs.Map.{Segment, draw, total}
use Rattle.manager.specs.Kind.{held_from}
use Rattle.manager.proofs.Laws.Paged.{held_within}
use Rattle.manager.specs.Region.{layout_of, pages_of, first_page_of, map_at, map_words, segments, with_segments, starts_page, page_at, held_at, pages_asked, need_of}
use Rattle.arith.proofs.Laws.Round.{pages_some}
use Rattle.manager.proofs.Laws.Kinds.{keeps}
use Rattle.manager.specs.Sound.{Laid, Sited}
use Rattle.manager.proofs.Laws.Sound.{map_in_lem, map_long, pages_few, with_is, total_segments}
use Rattle.arith.specs.declared.Layout.{Layout}
use Rattle.manager.specs.declared.Region.{Region}

-- the words of a map, as the code lends them, and the memory with others in their place
abbrev pub lent : Layout → List ℕ → List ℕ
lent l m = take (l.map + l.pages - l.map) (drop l.map m)

abbrev pub put_back : Layout → List ℕ → List ℕ → List ℕ
put_back l m ws = put_mid l.map (l.map + l.pages - l.map) m ws

-- alignment 0 asks for pages anywhere
pub need_anywhere : (r : Region) (size : ℕ) → need_of r size 0 ≡ record { pages = pages_asked r size; every = 0 }
need_anywhere r size = rw (zero-div r.page)

module _ (r : Region) (l : Layout) (el : l ≡ layout_of r) (m : List ℕ) where
  lent_is : lent l m ≡ map_words m r
  lent_is = let e : l.map + l.pages - l.map ≡ l.pages = omega arith in rw (e, el)

  pub lent_in : Laid m r → l.map + l.pages ≤ length m
  lent_in h = rw el (map_in_lem m r h)

  pub lent_fits : Laid m r → Fits w64 (l.map + l.pages)
  lent_fits h = Fits-under w64 (l.map + l.pages) 16385 (omega (arith, lent_in h, h.words)) tt

  pub lent_bytes : Laid m r → Fits w64 (l.map * 4)
  lent_bytes h = Fits-under w64 (l.map * 4) 65537 (omega (arith, lent_in h, h.words)) tt

  pub lent_long : Laid m r → length (lent l m) ≡ pages_of r
  lent_long h = ap length lent_is ∙ map_long m r h

  pub lent_few : Laid m r → length (lent l m) ≤ 16384
  lent_few h = omega (arith, lent_long h, pages_few m r h)

  pub lent_some : Laid m r → 1 ≤ length (lent l m)
  lent_some h = omega (arith, lent_long h, h.some)

  pub put_back_lem : Laid m r → (t : List Segment) → total t ≡ pages_of r → put_back l m (draw t) ≡ with_segments m r t
  put_back_lem h t e =
      let z : map_at r + pages_of r - map_at r ≡ pages_of r = omega arith in
      rw (el, z) (ap (λ (w : List ℕ). take (map_at r) m ++ (draw t ++ w)) (drop-drop (pages_of r) (map_at r) m) ∙ sym (with_is m r h t e))

-- who asks for something is given a page
pub asked_some : (m : List ℕ) (r : Region) → Sited m r → (size : ℕ) → 1 ≤ size → 1 ≤ pages_asked r size
asked_some m r s size h = (keeps r.order).rounded_some _ (pages_some size r.page (omega (arith, s.laid.page_low)) h)

-- the pages that are held at an address
pub held_few : (m : List ℕ) (r : Region) (address : ℕ) → Sited m r → held_at m r address ≤ pages_of r
held_few m r address s = go (starts_page r address)
  where
    go : (b : Bool) → cond b (held_from (page_at r address) (first_page_of r) (segments m r)) 0 ≤ pages_of r
    go true = omega (arith, held_within (page_at r address) (first_page_of r) (segments m r), total_segments m r s)
    go false = omega arith
