-- Areas: two that share no byte, as the test of the record has it; the areas of a record by their places, so that those of two regions in
-- different slots share none; and tests over a list by its places. Assumes nothing.
use mathlib.Core.Path.{◌≡◌, refl, sym, ap, ◌∙◌}
use mathlib.Core.Bool.{Bool, true, false, not, ◌&&◌}
use mathlib.Core.List.{List, [], ◌∷◌}
use mathlib.Core.Logic.{◌⊎◌, inl, inr}
use Prim.Native.Nat.{ℕ, zero, suc, ◌+◌, ◌≤◌, ◌<◌}
use native.Mathlib.Omega.{arith}
use lib.ListN.{length, get_or, length-append, get_or-append}
use lib.Dec.{leb, ltb}
use borrow.Author.Tests.{leb-true, leb-false, ltb-false, le-ltb, not-true}
use Rattle.manager.specs.Record.{no_region, no_partition}
use Rattle.manager.specs.Lists.{every, any as someOf, pairwise}
use Rattle.manager.proofs.Laws.Lists.{and_first, and_second, every_at}
use Rattle.manager.specs.Region.{area_of, region_areas, partition_areas, areas, overlap}
use Rattle.manager.specs.Sound.{sound_areas}
use Rattle.manager.specs.declared.Area.{Area}
use Rattle.manager.specs.declared.Manager.{Manager}
use Rattle.manager.specs.declared.Region.{Region}
use Rattle.manager.specs.declared.Partition.{Partition}
use Rattle.manager.proofs.Laws.Appended.{or_first, or_second}

-- two numbers are equal, or one is below the other
pub same_or_apart : (a b : ℕ) → (a ≡ b) ⊎ ((a < b) ⊎ (b < a))
same_or_apart a b = go (leb a b) refl (leb b a) refl
  where
    go : (s : Bool) → leb a b ≡ s → (t : Bool) → leb b a ≡ t → (a ≡ b) ⊎ ((a < b) ⊎ (b < a))
    go true e true f = inl (omega (arith, leb-true a b e, leb-true b a f))
    go true e false f = inr (inl (leb-false b a f))
    go false e t f = inr (inr (leb-false a b e))

-- ---- tests over a list, by its places

module _ {A : Type 0} (z : A) where
  pub at_every : (t : A → Bool) (l : List A) → ((i : ℕ) → i < length l → t (get_or l i z) ≡ true) → every t l ≡ true
  unfolding every
  at_every t [] h = refl
  at_every t (x ∷ l) h = rw (h 0 (omega arith)) (at_every t l (λ i u. h (suc i) (omega arith)))

  pub pairwise_at : (t : A → A → Bool) (l : List A) (i j : ℕ) → pairwise t l ≡ true → i < j → j < length l → t (get_or l i z) (get_or l j z) ≡ true
  unfolding pairwise
  pairwise_at t [] i j e h u = absurd (omega arith)
  pairwise_at t (x ∷ l) i zero e h u = absurd (omega arith)
  pairwise_at t (x ∷ l) zero (suc j) e h u = every_at (t x) l j z (and_first (every (t x) l) (pairwise t l) e) (omega arith)
  pairwise_at t (x ∷ l) (suc i) (suc j) e h u = pairwise_at t l i j (and_second (every (t x) l) (pairwise t l) e) (omega arith) (omega arith)

  pub at_pairwise : (t : A → A → Bool) (l : List A) → ((i j : ℕ) → i < j → j < length l → t (get_or l i z) (get_or l j z) ≡ true) → pairwise t l ≡ true
  unfolding pairwise
  at_pairwise t [] h = refl
  at_pairwise t (x ∷ l) h =
      rw (at_every (t x) l (λ j u. h 0 (suc j) (omega arith) (omega arith)))
      (at_pairwise t l (λ i j u v. h (suc i) (suc j) (omega arith) (omega arith)))

  pub none_at : (t : A → Bool) (l : List A) (i : ℕ) → someOf t l ≡ false → i < length l → t (get_or l i z) ≡ false
  unfolding someOf
  none_at t [] i e h = absurd (omega arith)
  none_at t (x ∷ l) zero e h = or_first (t x) (someOf t l) e
  none_at t (x ∷ l) (suc i) e h = none_at t l i (or_second (t x) (someOf t l) e) (omega arith)

-- ---- two areas that share no byte

abbrev pub Clear : Area → Area → Type 0
Clear a b = (a.start + a.length ≤ b.start) ⊎ (b.start + b.length ≤ a.start)

pub clear_flip : (a b : Area) → Clear a b → Clear b a
clear_flip a b (inl h) = inr h
clear_flip a b (inr h) = inl h

-- as the record's test has it
pub clear_of : (a b : Area) → overlap a b ≡ false → Clear a b
clear_of a b e = go (ltb a.start (b.start + b.length)) refl (ltb b.start (a.start + a.length)) refl
  where
    go : (s : Bool) → ltb a.start (b.start + b.length) ≡ s → (t : Bool) → ltb b.start (a.start + a.length) ≡ t → Clear a b
    go false f t g = inr (ltb-false a.start (b.start + b.length) f)
    go true f false g = inl (ltb-false b.start (a.start + a.length) g)
    go true f true g = absurd (let x : ◌≡◌ {A = Bool} true false = sym (rw (f, g)) ∙ e in let q : ◌≡◌ {A = ℕ} 0 1 = cc in omega arith)

pub overlap_of : (a b : Area) → Clear a b → overlap a b ≡ false
overlap_of a b (inl h) = rw (le-ltb b.start (a.start + a.length) h) (and_none (ltb a.start (b.start + b.length)))
  where
    and_none : (s : Bool) → (s && false) ≡ false
    and_none true = refl
    and_none false = refl
overlap_of a b (inr h) = rw (le-ltb a.start (b.start + b.length) h)

-- ---- the areas of a record

-- the area of a region; an empty slot's has no byte
abbrev pub area_for : Region → Area
area_for r = record { start = r.start; length = r.length }

abbrev pub no_area : Area
no_area = area_for no_region

pub no_area_lem : (a : Area) → Clear no_area a
no_area_lem a = inl (omega arith)

-- the places of the areas in the list of all
pub length_regions : (rs : List Region) → length (region_areas rs) ≡ length rs
unfolding region_areas
length_regions [] = refl
length_regions (r ∷ rs) = ap suc (length_regions rs)

pub length_partitions : (ps : List Partition) → length (partition_areas ps) ≡ length ps
unfolding partition_areas
length_partitions [] = refl
length_partitions (p ∷ ps) = ap suc (length_partitions ps)

pub region_area_lem : (rs : List Region) (i : ℕ) → get_or (region_areas rs) i no_area ≡ area_for (get_or rs i no_region)
unfolding region_areas
region_area_lem [] i = refl
region_area_lem (r ∷ rs) zero = refl
region_area_lem (r ∷ rs) (suc i) = region_area_lem rs i

pub partition_area : (ps : List Partition) (i : ℕ) → get_or (partition_areas ps) i no_area ≡ area_of (get_or ps i no_partition)
unfolding partition_areas
partition_area [] i = refl
partition_area (p ∷ ps) zero = refl
partition_area (p ∷ ps) (suc i) = partition_area ps i

-- a region's area is at the place of its slot
pub region_place : (d : Manager) (i : ℕ) → i < length d.regions → get_or (areas d) i no_area ≡ area_for (get_or d.regions i no_region)
region_place d i h =
    get_or-append (region_areas d.regions) (partition_areas d.partitions) no_area i (omega (arith, length_regions d.regions))
    ∙ region_area_lem d.regions i

-- areas at two places
pub places_clear : (d : Manager) → sound_areas d ≡ true → (i j : ℕ) → i < length (areas d) → j < length (areas d) → ¬ (i ≡ j)
    → Clear (get_or (areas d) i no_area) (get_or (areas d) j no_area)
places_clear d e i j h k n = go (same_or_apart i j)
  where
    two : (i j : ℕ) → i < j → j < length (areas d) → Clear (get_or (areas d) i no_area) (get_or (areas d) j no_area)
    two i j l u =
        clear_of (get_or (areas d) i no_area) (get_or (areas d) j no_area)
        (not-true (overlap (get_or (areas d) i no_area) (get_or (areas d) j no_area)) (pairwise_at no_area (λ a b. not (overlap a b)) (areas d) i j e l u))

    go : (i ≡ j) ⊎ ((i < j) ⊎ (j < i)) → Clear (get_or (areas d) i no_area) (get_or (areas d) j no_area)
    go (inl q) = absurd (n q)
    go (inr (inl l)) = two i j l k
    go (inr (inr l)) = clear_flip (get_or (areas d) j no_area) (get_or (areas d) i no_area) (two j i l h)

-- TWO REGIONS IN DIFFERENT SLOTS SHARE NO BYTE
pub regions_clear : (d : Manager) → sound_areas d ≡ true → (i j : ℕ) → i < length d.regions → j < length d.regions → ¬ (i ≡ j)
    → Clear (area_for (get_or d.regions i no_region)) (area_for (get_or d.regions j no_region))
regions_clear d e i j h k n =
    let l = length-append (region_areas d.regions) (partition_areas d.partitions) in
    let c = places_clear d e i j (omega (arith, l, length_regions d.regions)) (omega (arith, l, length_regions d.regions)) n in
    rw (region_place d i h, region_place d j k) at c
