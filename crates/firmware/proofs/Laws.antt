-- What an exported function needs of the definitions, over plain variables: how an answer is put, and what is left where a call is refused
-- as it stands and where it is performed. Assumes nothing.
use mathlib.Core.Path.{◌≡◌, refl, ap, sym, ◌∙◌}
use mathlib.Core.Bool.{Bool, true, false, cond, ◌&&◌}
use mathlib.Core.List.{List, [], ◌∷◌, ◌++◌, append_assoc}
use Prim.Native.Nat.{ℕ, zero, suc, ◌+◌, ◌-◌, ◌*◌, ◌≤◌, ◌<◌}
use native.Mathlib.Omega.{arith}
use borrow.Author.Tests.{le-leb, lt-leb}
use borrow.Rule.Slice.PartMut.{put_mid}
use lib.Dec.{eqb, leb}
use lib.ListN.{length, set, take, drop, replicate, take-append-drop}
use lib.Seq.{sets, sets-eq}
use Rattle.std.proofs.lemmas.List.{set-get_or}
use Rattle.std.proofs.Common.{Some, None}
use Rattle.std.proofs.lemmas.List.{take_at, drop_at, drop_all, length-drop, append-nil}
use Rattle.std.proofs.lemmas.Option.{none-some, cond_some}
use Rattle.manager.proofs.Laws.Lists.{and_first}
use Rattle.manager.specs.Record.{slots, tasks, no_notice}
use Rattle.manager.specs.Result.{Performs, pad}
use Rattle.manager.specs.Status.{number_of}
use Rattle.manager.specs.declared.Answer.{Answer}
use Rattle.manager.specs.declared.Call.{Call}
use Rattle.manager.specs.declared.Manager.{Manager}
use Rattle.manager.specs.declared.Notice.{Notice}
use Rattle.packing.specs.Packing.{all_words, information_words, pack, packed, unpack, unpacked, well_formed, choices, record_words}
use Rattle.packing.proofs.Laws.{all_length}
use Rattle.firmware.specs.Exported.{perform, read_segment, write_segment, answer_size, notice_words, answer_words, called, Leaves, segment_words, Reads, segment_written, Writes}

-- AN ANSWER IN WORDS: behind the value the information, and behind this the notices
pub answer_put : (ws i ns : List ℕ) (told : List Notice) (a : Answer) → length ws ≡ answer_size → i ≡ information_words a.information
    → ns ≡ all_words notice_words told → told ≡ a.notices → put_mid 7 48 (put_mid 1 6 (set ws 0 a.value) i) ns ≡ answer_words a
unfolding answer_words
answer_put [] i ns told a some i-is ns-is t = absurd (omega arith)
answer_put (w ∷ ws) i ns told a some i-is ns-is t =
    let six : length i ≡ 6 = ap length i-is in
    let all : length (drop 6 ws) ≤ 48 = omega (arith, length-drop 6 ws, some) in
    rw (take_at i (drop 6 ws) 6 six, drop_at i (drop 6 ws) 6 six, drop_all 48 (drop 6 ws) all, append-nil, i-is, ns-is, t)

-- notices in which one is put back as it stands are the same notices
pub ruleset answering = (answer_put, set-get_or)

-- there are as many words as the header says
pub answer_length : (a : Answer) → length a.notices ≡ tasks → length (answer_words a) ≡ answer_size
unfolding answer_words
answer_length a h = let l : length (all_words notice_words a.notices) ≡ 3 * tasks = all_length notice_words 3 tasks (λ n. refl) a.notices h in omega arith

-- WORDS THAT SAY A RECORD, AND OTHERS
module _ (state : List ℕ) where
  formed : (d : Manager) → Some d ≡ unpacked state → (well_formed state ≡ true) × (unpack state ≡ d)
  formed d e = cond_some (well_formed state) (unpack state) d (sym e)

  malformed : None ≡ unpacked state → well_formed state ≡ false
  malformed e = by_test (well_formed state) e
    where
      by_test : (b : Bool) → None ≡ cond b (Some (unpack state)) None → b ≡ false
      by_test true h = absurd (none-some _ h)
      by_test false h = refl

-- A CALL
module _ (state m answer : List ℕ) (call : Call) where
  refused_so : (well_formed state && leb answer_size (length answer)) ≡ false → Leaves (called state m answer call) state m answer 25
  unfolding called
  refused_so h = rw h (record { words = refl; memory = refl; answered = refl; number = refl })

  and_false : (a b : Bool) → b ≡ false → (a && b) ≡ false
  and_false true b h = h
  and_false false b h = refl

  pub too_short : length answer < answer_size → Leaves (called state m answer call) state m answer 25
  too_short h = refused_so (and_false (well_formed state) _ (lt-leb answer_size (length answer) h))

  -- the first words of an answer that is long enough are as they were
  pub no_record : None ≡ unpacked state → (first : List ℕ) → first ≡ take answer_size answer → Leaves (called state m answer call) state m (first ++ drop answer_size answer) 25
  no_record e first f =
      let same : first ++ drop answer_size answer ≡ answer = rw f (take-append-drop answer_size answer) in
      rw same (refused_so (rw (malformed state e)))

  pub ran : answer_size ≤ length answer → (d : Manager) → Some d ≡ unpacked state → (m' : List ℕ) (a : Answer) → Performs (perform m d call) m' a
      → (state' words : List ℕ) → state' ≡ packed a.manager state → words ≡ answer_words a → length a.notices ≡ tasks
      → Leaves (called state m answer call) state' m' (words ++ drop answer_size answer) (number_of a.status)
  unfolding called
  ran h d u m' a p state' words es ew all =
      let w : well_formed state ≡ true = (formed state d u).0 in
      let q : Performs (perform m (unpack state) call) m' a = rw (formed state d u).1 p in
      let l : eqb (length state) record_words ≡ true = and_first (eqb (length state) record_words) (choices slots state 0) w in
      let s : state' ≡ pack a.manager = es ∙ rw l in
      let n : length words ≡ answer_size = ap length ew ∙ answer_length a all in
      let fits : 0 + length words ≤ length answer = omega (arith, n, h) in
      let past : answer_size ≡ 0 + length words = omega (arith, n) in
      let put : words ++ drop answer_size answer ≡ sets answer 0 (answer_words a)
      = ap (λ (k : ℕ). words ++ drop k answer) past ∙ sym (sets-eq words answer 0 fits) ∙ ap (sets answer 0) ew in
      rw (w, le-leb answer_size (length answer) h)
      (record { words = s ∙ rw q.answer; memory = q.memory; answered = put ∙ rw q.answer; number = rw q.answer })

pub ruleset calling = (too_short, no_record, ran)

-- THE WORDS OF A SEGMENT
module _ (state m : List ℕ) (id address : ℕ) where
  pub read_none : None ≡ unpacked state → (words : List ℕ) → Reads (segment_words state m id address) words words 0
  unfolding segment_words
  read_none e words = rw (malformed state e) (record { copied = refl; many = refl })

  pub read_some : (d : Manager) → Some d ≡ unpacked state → (part words out : List ℕ) → part ≡ read_segment m d id address
      → out ≡ sets words 0 part → Reads (segment_words state m id address) words out (length part)
  unfolding segment_words
  read_some d u part words out g f =
      let read : part ≡ read_segment m (unpack state) id address = rw (formed state d u).1 g in
      rw ((formed state d u).0, ← read) (record { copied = f; many = refl })

  module _ (first : ℕ) (words : List ℕ) where
    pub write_none : None ≡ unpacked state → Writes (segment_written state m id address first words) m 25
    unfolding segment_written
    write_none e = rw (malformed state e) (record { memory = refl; number = refl })

    pub write_some : (d : Manager) → Some d ≡ unpacked state → (m' : List ℕ) (a : Answer) (number : ℕ) → Performs (write_segment m d id address first words) m' a
        → number ≡ number_of a.status → Writes (segment_written state m id address first words) m' number
    unfolding segment_written
    write_some d u m' a number p g =
        let q : Performs (write_segment m (unpack state) id address first words) m' a = rw (formed state d u).1 p in
        rw (formed state d u).0 (record { memory = q.memory; number = g ∙ rw q.answer })

pub ruleset segments = (read_none, read_some, write_none, write_some)

-- THE WORDS OF AN ANSWER
notices_append : (l k : List Notice) → all_words notice_words (l ++ k) ≡ all_words notice_words l ++ all_words notice_words k
unfolding all_words
notices_append [] k = refl
notices_append (n ∷ l) k = rw (notices_append l k, append_assoc (notice_words n) (all_words notice_words l) (all_words notice_words k))

no_notices : (n : ℕ) → all_words notice_words (replicate n no_notice) ≡ replicate (3 * n) 0
unfolding all_words
no_notices zero = refl
no_notices (suc n) = let e : 3 * suc n ≡ suc (suc (suc (3 * n))) = omega arith in rw (e, no_notices n)

-- unused notices are zeros
pub unused_zero : (l : List Notice) → all_words notice_words (pad tasks no_notice l) ≡ all_words notice_words l ++ replicate (3 * (tasks - length l)) 0
unused_zero l = notices_append l (replicate (tasks - length l) no_notice) ∙ rw (no_notices (tasks - length l))
