-- What a directive came to, a value or a refusal, and what is then left. Assumes nothing.
use Rattle.std.specs.Prelude.{ℕ, List, Ok, Err}
use Rattle.std.specs.declared.result.Result.{Result}
use Rattle.manager.specs.Record.{no_information}
use Rattle.manager.specs.Result.{Result as Left, done, refused}
use Rattle.manager.specs.declared.Answer.{Answer}
use Rattle.manager.specs.declared.Manager.{Manager}
use Rattle.manager.specs.declared.Status.{Status}
use Rattle.manager.specs.declared.Status.TheVariants.{Successful}
use Rattle.reply.specs.Notices.{told}
use Rattle.reply.specs.declared.Noticed.{Noticed}
use Rattle.reply.specs.declared.Refusal.{Refusal}

-- over a memory and a record, as they are then, with nobody told anything
abbrev pub concluded : List ℕ → Manager → Result ℕ Status → Left
concluded m d (Ok v) = done m d v
concluded m d (Err s) = refused m d s

-- over a memory, and a record with notices
abbrev pub status_of : Result ℕ Refusal → Status
status_of (Ok v) = Successful
status_of (Err r) = r.status

abbrev pub value_of : Result ℕ Refusal → ℕ
value_of (Ok v) = v
value_of (Err r) = r.value

abbrev pub finished : List ℕ → Noticed → Result ℕ Refusal → Left
finished m n r =
    record { memory = m; status = status_of r; value = value_of r; information = no_information; notices = told n; manager = n.manager }

-- and the answer that says so
abbrev pub answer_with : Noticed → Result ℕ Refusal → Answer
answer_with n r = record { status = status_of r; value = value_of r; information = no_information; notices = n.notices; manager = n.manager }
