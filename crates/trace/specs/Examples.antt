-- The bench examples, answered by the receipts alone. The table is the one of the definitions; here no
-- memory and no record is kept, and each answer is entered into the receipts by which the next call is answered. Assumes nothing.
use Rattle.std.specs.Prelude.{Bool, true, ◌&&◌, List, [], ◌∷◌, ℕ, ◌+◌, eqb, Option, None, Some}
use Rattle.manager.specs.Status.{number_of}
use Rattle.manager.specs.Record.{most_words}
use Rattle.manager.specs.Map.{draw}
use Rattle.manager.specs.Examples.{Step, step, Row, layout, calls, words, later, same, told}
use Rattle.manager.specs.declared.Order.TheVariants.{Fifo}
use Rattle.trace.specs.Loans.{behind}
use Rattle.trace.specs.Receipts.{Receipts, RegionEntry, Reply, blank, pages_in, span_in, address_in, page_loans, reading}
use Rattle.trace.specs.Replies.{by_receipts, note}

-- an answer: status, value, and the notices (task, status, address)
abbrev right : Reply → ℕ → ℕ → List ℕ → Bool
right r status value notices = eqb (number_of r.status) status && (eqb r.value value && same (told r.notices) notices)

-- the answers are as said, and so are the receipts after them
abbrev follows : Receipts → List Step → (Receipts → Bool) → Bool
follows t [] after = after t
follows t (step c status value notices ∷ ss) after =
    let r = by_receipts most_words t c in
    right r status value notices && follows (note c r t) ss after

-- where an area's pages lie
abbrev lies : RegionEntry → ℕ → ℕ → ℕ → Bool
lies e n first last =
    eqb (pages_in e) n && (eqb (address_in e (span_in e).first) first && eqb (address_in e (behind (span_in e))) (last + 1))

-- the words of the map that is drawn from a region's loans
abbrev drawn_words : Option RegionEntry → List ℕ
drawn_words None = []
drawn_words (Some e) = draw ((reading e).drawn (span_in e) (page_loans e))

-- no object, and so many deletes of every slot
abbrev at_generation : ℕ → Receipts
at_generation g = record { regions = λ id. None; partitions = λ id. None; region_deletes = λ slot. g; partition_deletes = λ slot. g; waits = [] }

abbrev pub holds : Row → Bool
holds (layout start bytes page most n first last) =
    lies (record { name = 1; start = start; bytes = bytes; page = page; order = Fifo; loans = [] }) n first last
holds (calls ss) = follows blank ss (λ t. true)
holds (words ss ws) = follows blank ss (λ t. same (drawn_words (t.regions 1)) ws)
holds (later g ss) = follows (at_generation g) ss (λ t. true)
