-- Rules 5.5 to 5.10: how a region by halves places, frees and resizes segments. Its pages are one block of a power of two pages; a block is
-- free, or held, or cut into its two halves, and so on downwards. A block of 2^j pages can be halved j times. Assumes nothing.
use Rattle.std.specs.Prelude.{ℕ, zero, suc, ◌+◌, ◌-◌, ◌/◌, ◌^◌, ◌≡◌, ◌⊎◌, Bool, true, false, cond, not, ◌&&◌, ◌||◌, List, [], ◌∷◌, ◌++◌, eqb, leb, ltb, Option, None, Some}
use Rattle.arith.specs.Power.{level, power_up, is_power}
use Rattle.manager.specs.Map.{Segment, free, held, size_of, total}
use Rattle.manager.specs.Kind.{Kind, held_from}

-- the segments of the first n pages of a map, and those behind them
unfoldable pub low_of : ℕ → List Segment → List Segment
low_of n [] = []
low_of n (g ∷ s) = cond (eqb n 0) [] (g ∷ low_of (n - size_of g) s)

unfoldable pub high_of : ℕ → List Segment → List Segment
high_of n [] = []
high_of n (g ∷ s) = cond (eqb n 0) (g ∷ s) (high_of (n - size_of g) s)

-- a block that is one segment, and one that is wholly free
unfoldable pub is_whole : List Segment → Bool
is_whole [] = false
is_whole (g ∷ []) = true
is_whole (g ∷ h ∷ s) = false

unfoldable pub is_free : List Segment → Bool
is_free [] = false
is_free (held n ∷ s) = false
is_free (free n ∷ []) = true
is_free (free n ∷ g ∷ s) = false

-- Map: the segments of a block of 2^j pages that is got by halving: it is one segment, or two such halves, not both wholly free
unfoldable pub halved : ℕ → List Segment → Bool
halved zero s = is_whole s && eqb (total s) 1
halved (suc j) s =
    (is_whole s && eqb (total s) (2 ^ suc j))
    || (halved j (low_of (2 ^ j) s) && (halved j (high_of (2 ^ j) s) && not (is_free (low_of (2 ^ j) s) && is_free (high_of (2 ^ j) s))))

-- a free block of n pages at page p, of a map that starts at page `at`
unfoldable pub FreeAt : List Segment → ℕ → ℕ → ℕ → Type 0
FreeAt [] at p n = ⊥
FreeAt (held m ∷ s) at p n = FreeAt s (at + m) p n
FreeAt (free m ∷ s) at p n = ((at ≡ p) × (m ≡ n)) ⊎ FreeAt s (at + m) p n

-- Get: the pages of the smallest free block that has k or more; 0 where there is none
abbrev pub lesser : ℕ → ℕ → ℕ
lesser n m = cond (eqb m 0) n (cond (leb n m) n m)

unfoldable pub smallest : ℕ → List Segment → ℕ
smallest k [] = 0
smallest k (held n ∷ s) = smallest k s
smallest k (free n ∷ s) = cond (leb k n) (lesser n (smallest k s)) (smallest k s)

-- the lowest free block of b pages. Its first page, where the map starts at page `at`
unfoldable pub lowest_free : ℕ → ℕ → List Segment → Option ℕ
lowest_free b at [] = None
lowest_free b at (held n ∷ s) = lowest_free b (at + n) s
lowest_free b at (free n ∷ s) = cond (eqb n b) (Some at) (lowest_free b (at + n) s)

-- "the smallest free block that is large enough serves, lowest address first"
unfoldable pub place_block : ℕ → ℕ → List Segment → Option ℕ
place_block k at s = cond (eqb (smallest k s) 0) None (lowest_free (smallest k s) at s)

-- "the block is halved again and again until it has the asked size, the low half going on": a block of b pages that can be halved j times
unfoldable pub carve : ℕ → ℕ → ℕ → List Segment
carve zero k b = held b ∷ []
carve (suc j) k b = cond (leb b k) (held b ∷ []) (carve j k (b / 2) ++ (free (b - b / 2) ∷ []))

-- k pages of the free block at page p are held
unfoldable pub occupy_block : ℕ → ℕ → ℕ → List Segment → List Segment
occupy_block p k at [] = []
occupy_block p k at (held n ∷ s) = held n ∷ occupy_block p k (at + n) s
occupy_block p k at (free n ∷ s) = cond (eqb at p) (carve (level n) k n ++ s) (free n ∷ occupy_block p k (at + n) s)

-- the two halves of a block put together: where both are wholly free the block is
unfoldable pub join : List Segment → List Segment → List Segment
join a b = cond (is_free a && is_free b) (free (total a + total b) ∷ []) (a ++ b)

-- Return: "a returned block joins its other half while that is wholly free". Of a block of 2^j pages from page `at` on, in which the block at
-- page p is held: that is free from now on
unfoldable pub release_block : ℕ → ℕ → ℕ → List Segment → List Segment
release_block zero p at s = free (total s) ∷ []
release_block (suc j) p at s =
    cond (is_whole s) (free (total s) ∷ [])
    (cond (ltb p (at + 2 ^ j))
    (join (release_block j p at (low_of (2 ^ j) s)) (high_of (2 ^ j) s))
    (join (low_of (2 ^ j) s) (release_block j p (at + 2 ^ j) (high_of (2 ^ j) s))))

-- Get: it knows no alignment but 0. Resize: only where the size stays, and then nothing changes
abbrev pub halves : Kind
halves =
    record {
      rounded = power_up;
      allowed = is_power;
      aligns = λ alignment. eqb alignment 0;
      proper = λ s. halved (level (total s)) s;
      place = λ w. place_block w.pages;
      occupy = occupy_block;
      can_have = λ p k at s. eqb k (held_from p at s);
      change = λ p k at s. cond (eqb k 0) (release_block (level (total s)) p at s) s;
    }
