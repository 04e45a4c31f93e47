-- The library's answers by the receipts (`theorem_library`): the words that the caller keeps are those of the record that the list of
-- calls reaches, and unpacking gives that record back; demand 3 then says what is answered. Assumes nothing.
use mathlib.Core.Path.{◌≡◌, refl, ap, ◌∙◌, subst}
use mathlib.Core.Bool.{true}
use mathlib.Core.List.{List}
use Prim.Native.Nat.{ℕ, ◌≤◌}
use lib.ListN.{length}
use lib.Seq.{sets}
use borrow.Author.Tests.{le-leb}
use Rattle.manager.specs.Record.{tasks, most_words, fresh}
use Rattle.manager.specs.Result.{Result, answer_of}
use Rattle.manager.specs.Status.{number_of}
use Rattle.manager.specs.Access.{read_segment, write_segment}
use Rattle.manager.specs.Perform.{perform, defined}
use Rattle.manager.proofs.Laws.Queue.{length_pad}
use Rattle.manager.specs.declared.Manager.{Manager}
use Rattle.manager.specs.declared.Call.{Call}
use Rattle.trace.specs.Receipts.{Receipts, Reply, reply_of}
use Rattle.trace.specs.Queue.{in_line}
use Rattle.trace.specs.Replies.{note}
use Rattle.trace.specs.Claims.{Claims, waiters_of}
use Rattle.trace.specs.Trace.{State, ClientsWrite, Runs, start, after}
use Rattle.trace.specs.Trace as trace
use Rattle.trace.proofs.Invariant.{Inv}
use Rattle.trace.proofs.Start.{start_inv}
use Rattle.trace.proofs.Runs.{runs}
use Rattle.trace.proofs.Theorem.{theorem}
use Rattle.trace.proofs.Access.{writes}
use Rattle.trace.proofs.Regions.Queue.{sound_inv}
use Rattle.trace.proofs.Queue.Waiters.{line_fits}
use Rattle.packing.specs.Packing.{pack, unpack, well_formed, region_words, all_words}
use Rattle.packing.proofs.Inverse.{pack_formed, unpack_pack}
use Rattle.firmware.specs.Exported.{Outcome, answer_size, answer_words, called, performed, segment_words, segment_written}
use Rattle.end_to_end.specs.Library.{reply_words, Caller, zeroed, after_call, after_write, Calls, end, call, write, clients, Answers, LibraryByReceipts}
use Rattle.end_to_end.proofs.Program.{one_more}

-- the arrays of a record that a list of calls reaches are of the record's lengths, so that it can be packed and unpacked
module _ (m : List ℕ) (d : Manager) (t : Receipts) (v : Inv m d t) where
  so_many_waiters : length d.waiters ≡ tasks
  so_many_waiters = ap length v.waits.queue ∙ length_pad tasks (waiters_of (in_line t)) (line_fits d t v.waits)

  formed : well_formed (pack d) ≡ true
  formed = pack_formed d v.picture.region_slots v.picture.partition_slots so_many_waiters

  back : unpack (pack d) ≡ d
  back = unpack_pack d v.picture.region_slots v.picture.partition_slots so_many_waiters

-- what clients write then
written_more : {s u : State} → Runs defined s u → (m' : List ℕ) → ClientsWrite u.receipts u.memory m'
    → Runs defined s (record { memory = m'; manager = u.manager; receipts = u.receipts })
written_more trace.end m' w = trace.clients m' w trace.end
written_more (trace.ask b r) m' w = trace.ask b (written_more r m' w)
written_more (trace.clients n x r) m' w = trace.clients n x (written_more r m' w)

-- an answer's words are its reply's
answer_words_lem : (s : Result) → answer_words (answer_of s) ≡ reply_words (reply_of s)
unfolding answer_words reply_words
answer_words_lem s = refl

module _ (m : List ℕ) (some : 1 ≤ length m) (most : length m ≤ most_words) where
  -- the words are those of a record that a list of calls reaches
  record Stands (k : Caller) : Type 0 where
    manager : Manager
    words : k.state ≡ pack manager
    reached : Runs defined (start m) (record { memory = k.memory; manager = manager; receipts = k.receipts })

  module _ (k : Caller) (s : Stands k) where
    v : Inv k.memory s.manager k.receipts
    v = runs (start_inv m some most) s.reached

    claims : Claims defined (record { memory = k.memory; manager = s.manager; receipts = k.receipts })
    claims = theorem m some most _ s.reached

    called_is : (c : Call) (answer : List ℕ) → answer_size ≤ length answer
        → called k.state k.memory answer c ≡ performed answer (perform k.memory s.manager c)
    unfolding called
    called_is c answer h =
        rw (s.words, formed k.memory s.manager k.receipts v, le-leb answer_size (length answer) h, back k.memory s.manager k.receipts v)

    written_is : (id address first : ℕ) (words : List ℕ)
        → segment_written k.state k.memory id address first words ≡ write_segment k.memory s.manager id address first words
    unfolding segment_written
    written_is id address first words =
        rw (s.words, formed k.memory s.manager k.receipts v, back k.memory s.manager k.receipts v)

    read_is : (id address : ℕ) → segment_words k.state k.memory id address ≡ read_segment k.memory s.manager id address
    unfolding segment_words
    read_is id address = rw (s.words, formed k.memory s.manager k.receipts v, back k.memory s.manager k.receipts v)

    reached_call : (c : Call) (m' : List ℕ) → m' ≡ (perform k.memory s.manager c).memory → (r : Reply) → reply_of (perform k.memory s.manager c) ≡ r
        → Runs defined (start m) (record { memory = m'; manager = (perform k.memory s.manager c).manager; receipts = note c r k.receipts })
    unfolding after
    reached_call c m' e r f = rw (e, ← f) (one_more s.reached (trace.call c))

    reached_write : (id address first : ℕ) (words m' : List ℕ) → m' ≡ (write_segment k.memory s.manager id address first words).memory
        → Runs defined (start m) (record { memory = m'; manager = s.manager; receipts = k.receipts })
    unfolding after
    reached_write id address first words m' e =
        let w = writes k.memory s.manager k.receipts v (sound_inv _ _ _ v) id address first words in
        rw e
        (subst (λ (x : Manager). Runs defined (start m) (record { memory = (write_segment k.memory s.manager id address first words).memory; manager = x; receipts = k.receipts }))
        w.manager (one_more s.reached (trace.write id address first words)))

    -- what is answered next
    answers : Answers k
    answers =
        record {
          status = λ c answer h. ap (λ (o : Outcome). o.status) (called_is c answer h) ∙ ap (λ (r : Reply). number_of r.status) (claims.replies c);
          answer = λ c answer h.
              ap (λ (o : Outcome). o.answer) (called_is c answer h)
              ∙ ap (sets answer 0) (answer_words_lem (perform k.memory s.manager c) ∙ ap reply_words (claims.replies c));
          written = λ id address first words.
              ap (λ (r : Result). number_of r.status) (written_is id address first words)
              ∙ ap (λ (r : Reply). number_of r.status) (claims.replies_write id address first words);
          read = λ id address. read_is id address ∙ claims.reads id address;
        }

    -- and each of the list's steps keeps it so
    stands_call : (c : Call) (answer : List ℕ) → answer_size ≤ length answer → Stands (after_call c answer k)
    stands_call c answer h =
        let a = perform k.memory s.manager c in
        let o = called_is c answer h in
        record {
          manager = a.manager;
          words = ap (λ (x : Outcome). x.state) o;
          reached = reached_call c (called k.state k.memory answer c).memory (ap (λ (x : Outcome). x.memory) o) _ (claims.replies c);
        }

    stands_write : (id address first : ℕ) (words : List ℕ) → Stands (after_write id address first words k)
    stands_write id address first words =
        record {
          manager = s.manager;
          words = s.words;
          reached = reached_write id address first words (segment_written k.state k.memory id address first words).memory
              (ap (λ (r : Result). r.memory) (written_is id address first words));
        }

    stands_clients : (m' : List ℕ) → ClientsWrite k.receipts k.memory m' → Stands (record { state = k.state; memory = m'; receipts = k.receipts })
    stands_clients m' w = record { manager = s.manager; words = s.words; reached = written_more s.reached m' w }

  stand : (k l : Caller) → Stands k → Calls k l → Stands l
  stand k l s end = s
  stand k l s (call c answer h r) = stand (after_call c answer k) l (stands_call k s c answer h) r
  stand k l s (write id address first words r) = stand (after_write id address first words k) l (stands_write k s id address first words) r
  stand k l s (clients m' w r) = stand (record { state = k.state; memory = m'; receipts = k.receipts }) l (stands_clients k s m' w) r

  zero_words : Stands (zeroed m)
  unfolding pack all_words
  zero_words = record { manager = fresh; words = refl; reached = trace.end }

pub theorem_library : LibraryByReceipts
theorem_library m some most k r = answers m some most k (stand m some most (zeroed m) k (zero_words m some most) r)
