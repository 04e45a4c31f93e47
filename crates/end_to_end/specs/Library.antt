-- WHAT THE LIBRARY ANSWERS, BY THE RECEIPTS ALONE: every list of its calls from a record of zeros, with clients writing what they like
-- into what they hold. The receipts are written from the abstract manager's replies, which are the library's. Assumes nothing.
use Rattle.std.specs.Prelude.{ℕ, ◌≤◌, ◌≡◌, List, ◌∷◌, length, replicate}
use Rattle.std.proofs.lemmas.List.Edits.{sets}
use Rattle.manager.specs.Record.{tasks, most_words, no_notice}
use Rattle.manager.specs.Result.{pad}
use Rattle.manager.specs.Status.{number_of}
use Rattle.manager.specs.declared.Call.{Call}
use Rattle.trace.specs.Receipts.{Receipts, Reply, blank}
use Rattle.trace.specs.Replies.{by_receipts, write_by_receipts, read_by_receipts, note}
use Rattle.trace.specs.Trace.{ClientsWrite}
use Rattle.packing.specs.Packing.{record_words, all_words}
use Rattle.firmware.specs.Exported.{answer_size, notice_words, called, segment_words, segment_written}

-- a reply as the words of an answer: its value, the six values of its information, its notices and unused places of them
unfoldable pub reply_words : Reply → List ℕ
reply_words r =
    r.value
    ∷ r.information.free_count
    ∷ r.information.free_largest
    ∷ r.information.free_total
    ∷ r.information.held_count
    ∷ r.information.held_largest
    ∷ r.information.held_total
    ∷ all_words notice_words (pad tasks no_notice r.notices)

-- what a caller keeps: the words of the record and the memory; and the receipts beside them
pub record Caller : Type 0 where
  pub state : List ℕ
  pub memory : List ℕ
  pub receipts : Receipts

-- a record of zeros over any memory
abbrev pub zeroed : List ℕ → Caller
zeroed m = record { state = replicate record_words 0; memory = m; receipts = blank }

-- a call, with room for its answer
abbrev pub after_call : Call → List ℕ → Caller → Caller
after_call c answer k =
    let o = called k.state k.memory answer c in
    record { state = o.state; memory = o.memory; receipts = note c (by_receipts (length k.memory) k.receipts c) k.receipts }

-- a write of a held segment; the record's words are not lent to it
abbrev pub after_write : ℕ → ℕ → ℕ → List ℕ → Caller → Caller
after_write id address first words k =
    record { state = k.state; memory = (segment_written k.state k.memory id address first words).memory; receipts = k.receipts }

-- EVERY LIST OF CALLS OF THE LIBRARY, and what clients write between them
pub data Calls : Caller → Caller → Type 0 where
  end : {k : Caller} → Calls k k
  call : {k l : Caller} (c : Call) (answer : List ℕ) → answer_size ≤ length answer → Calls (after_call c answer k) l → Calls k l
  write : {k l : Caller} (id address first : ℕ) (words : List ℕ) → Calls (after_write id address first words k) l → Calls k l
  clients : {k l : Caller} (m' : List ℕ) → ClientsWrite k.receipts k.memory m'
      → Calls (record { state = k.state; memory = m'; receipts = k.receipts }) l → Calls k l

-- what is answered next: a call, with room for its answer; a write; a read
pub record Answers (k : Caller) : Type 0 where
  pub status : (c : Call) (answer : List ℕ) → answer_size ≤ length answer
      → (called k.state k.memory answer c).status ≡ number_of (by_receipts (length k.memory) k.receipts c).status
  pub answer : (c : Call) (answer : List ℕ) → answer_size ≤ length answer
      → (called k.state k.memory answer c).answer ≡ sets answer 0 (reply_words (by_receipts (length k.memory) k.receipts c))
  pub written : (id address first : ℕ) (words : List ℕ)
      → number_of (segment_written k.state k.memory id address first words).status ≡ number_of (write_by_receipts k.receipts id address first words).status
  pub read : (id address : ℕ) → segment_words k.state k.memory id address ≡ read_by_receipts k.memory k.receipts id address

-- END TO END
abbrev pub LibraryByReceipts : Type 0
LibraryByReceipts = (m : List ℕ) → 1 ≤ length m → length m ≤ most_words → (k : Caller) → Calls (zeroed m) k → Answers k
