-- Rules 13: reading and writing a held segment. Assumes nothing.
use Rattle.std.specs.Prelude.{ℕ, ◌+◌, ◌*◌, ◌/◌, cond, not, ◌||◌, List, [], ◌∷◌, length, take, drop, eqb, ltb}
use Rattle.std.proofs.lemmas.List.Edits.{sets}
use Rattle.manager.specs.Record.{region_of}
use Rattle.manager.specs.Result.{Result, check, done}
use Rattle.manager.specs.Region.{dead, held_at}
use Rattle.manager.specs.Regions.{answered}
use Rattle.manager.specs.Sound.{sound}
use Rattle.manager.specs.declared.Manager.{Manager}
use Rattle.manager.specs.declared.Status.TheVariants.{InvalidId, InvalidSize, InvalidAddress}

-- the words of the held segment that starts at an address
abbrev pub words_in : List ℕ → Manager → ℕ → ℕ → ℕ
words_in m d id address = let r = region_of d id in held_at m r address * r.page / 4

-- Reading a segment hands back that part of the lent memory, or an empty part where the books, id or address are refused
unfoldable pub read_segment : List ℕ → Manager → ℕ → ℕ → List ℕ
read_segment m d id address =
    let r = region_of d id in
    cond (not (sound m d) || (dead r || eqb (held_at m r address) 0)) []
    (take (words_in m d id address) (drop (address / 4) m))

-- Writing lends on the part that starts at the given word of the segment and copies the given words there: 4, 9, then 8. A write
-- whose first word is past the segment's end is 8; no words at the very end is 0
unfoldable pub write_segment : List ℕ → Manager → ℕ → ℕ → ℕ → List ℕ → Result
write_segment m d id address first words =
    let r = region_of d id in
    answered (sound m d) m d
    (check (dead r) InvalidId
    ∷ check (eqb (held_at m r address) 0) InvalidAddress
    ∷ check (ltb (words_in m d id address) (first + length words)) InvalidSize
    ∷ [])
    (done (sets m (address / 4 + first) words) d 0)
