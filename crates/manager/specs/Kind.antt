-- Rule 5.4: a kind of region is one record of functions on maps, and the directives and the queue are stated over it. Assumes nothing.
use Rattle.std.specs.Prelude.{ℕ, ◌+◌, Bool, true, false, cond, List, [], ◌∷◌, eqb, Option, None, Some}
use Rattle.manager.specs.Map.{Segment, free, held}
use Rattle.manager.specs.declared.Need.{Need}

-- a kind of region
pub record Kind : Type 0 where
  -- the pages that are given for k pages asked for
  pub rounded : ℕ → ℕ
  -- how many pages a region may have, and which alignments, in bytes, it knows
  pub allowed : ℕ → Bool
  pub aligns : ℕ → Bool
  -- how the segments of a sound map stand
  pub proper : List Segment → Bool
  -- of a map that starts at page `at`, the argument before it: where the pages of a need are placed, and the map with the k pages from a page
  -- on held
  pub place : Need → ℕ → List Segment → Option ℕ
  pub occupy : ℕ → ℕ → ℕ → List Segment → List Segment
  -- whether the held segment at a page can have k pages, and the map with k pages for it (0: it is returned)
  pub can_have : ℕ → ℕ → ℕ → List Segment → Bool
  pub change : ℕ → ℕ → ℕ → List Segment → List Segment

-- by where a search ends
abbrev pub on_place : {A : Type 0} → Option ℕ → (ℕ → A) → A → A
on_place (Some p) f z = f p
on_place None f z = z

abbrev pub is_place : Option ℕ → Bool
is_place q = on_place q (λ p. true) false

-- Get: the pages are held where they are placed; where they are not, nothing changes
abbrev pub allocate : Kind → Need → ℕ → List Segment → List Segment
allocate K n at s = on_place (K.place n at s) (λ p. K.occupy p n.pages at s) s

-- in a map of every kind: the pages of the held segment that starts at page p, where the map starts at page `at`; 0 where none does
unfoldable pub held_from : ℕ → ℕ → List Segment → ℕ
held_from p at [] = 0
held_from p at (free n ∷ s) = held_from p (at + n) s
held_from p at (held n ∷ s) = cond (eqb at p) n (held_from p (at + n) s)
