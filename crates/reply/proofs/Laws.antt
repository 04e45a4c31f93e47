-- The notices that are told, and what is performed by an answer with them. Assumes nothing.
use Prim.Native.Nat.{ℕ, ◌-◌}
use mathlib.Core.Path.{◌≡◌, refl, ap, ◌∙◌}
use mathlib.Core.List.{List}
use lib.ListN.{length, replicate}
use lib.Seq.{take_at}
use Rattle.std.specs.declared.result.Result.{Result}
use Rattle.manager.specs.Record.{tasks, no_notice, no_information}
use Rattle.manager.specs.Result.{Result as Left, Performs}
use Rattle.manager.specs.declared.Answer.{Answer}
use Rattle.manager.specs.declared.Manager.{Manager}
use Rattle.manager.specs.declared.Notice.{Notice}
use Rattle.reply.specs.Notices.{Notices, Padded, told}
use Rattle.reply.specs.Outcomes.{status_of, value_of, finished, answer_with}
use Rattle.reply.specs.declared.Noticed.{Noticed}
use Rattle.reply.specs.declared.Refusal.{Refusal}

-- the notices in the used places are those that there are
pub notices_told : (d : Manager) (ns : List Notice) (n : Noticed) → Notices d ns n → told n ≡ ns
notices_told d ns n x = rw (x.notices, x.count) (take_at ns (replicate (tasks - length ns) no_notice) (length ns) refl)

-- the answer with a record and its notices performs what left them
pub performs_told : (s : Left) (m : List ℕ) (n : Noticed) (r : Result ℕ Refusal) (a : Answer) → s ≡ finished m n r → Padded n
    → a ≡ answer_with n r → Performs s m a
performs_told s m n r a e x f =
    rw e
    (record {
      memory = refl;
      answer = f ∙ ap (λ (ns : List Notice). record { status = status_of r; value = value_of r; information = no_information; notices = ns; manager = n.manager }) x.notices;
    })

-- notices that are all told
pub padded : (d : Manager) (ns : List Notice) (n : Noticed) → Notices d ns n → Padded n
padded d ns n x = let t = notices_told d ns n x in record { manager = refl; notices = rw t x.notices; count = rw t x.count }
