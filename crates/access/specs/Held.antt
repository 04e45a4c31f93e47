-- Where the words of a held segment stand. Assumes nothing.
use Rattle.std.specs.Prelude.{ℕ, ◌+◌, ◌/◌, cond, List, Ok, Err, eqb}
use Rattle.std.specs.declared.result.Result.{Result}
use Rattle.std.specs.declared.ops.Range.{Range}
use Rattle.manager.specs.Access.{words_in}
use Rattle.manager.specs.Record.{region_of}
use Rattle.manager.specs.Region.{dead, held_at}
use Rattle.manager.specs.Sound.{sound}
use Rattle.manager.specs.declared.Manager.{Manager}
use Rattle.manager.specs.declared.Status.{Status}
use Rattle.manager.specs.declared.Status.TheVariants.{InvalidId, InvalidAddress, InternalError}

-- of the one that starts at an address; 25, 4 and 9 where there is none
abbrev pub held_words : List ℕ → Manager → ℕ → ℕ → Result (Range ℕ) Status
held_words m d id address =
    let r = region_of d id in
    cond (sound m d)
    (cond (dead r) (Err InvalidId)
    (cond (eqb (held_at m r address) 0) (Err InvalidAddress)
    (Ok (record { start = address / 4; end = address / 4 + words_in m d id address }))))
    (Err InternalError)
