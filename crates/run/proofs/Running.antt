-- The run in its loop. `Running` says what holds whenever the next call is to be read: what is written and what the rest of the script gives,
-- from the memory and the record as they are now, are the answers to the whole script. A call takes 10 bytes of the script or more and is
-- answered with at most `most_answer`, so what is written is at most `most_per_byte` bytes for each byte read. Assumes nothing.
use mathlib.Core.Path.{◌≡◌, refl, sym, ◌∙◌, ap}
use Prim.Native.Nat.{ℕ, suc, ◌*◌, ◌-◌, ◌≤◌, ◌<◌}
use mathlib.Core.List.{List, [], ◌++◌, append_assoc, append-nil}
use native.Mathlib.Omega.{arith}
use lib.ListN.{length}
use borrow.Author.Tests.{lt-ltb, le-ltb}
use Rattle.std.specs.Prelude.{Option, Some, None}
use Rattle.manager.specs.Record.{fresh}
use Rattle.manager.specs.Result.{answer_of, Performs}
use Rattle.manager.specs.declared.Manager.{Manager}
use Rattle.manager.specs.declared.Answer.{Answer}
use Rattle.manager.specs.Perform.{perform}
use Rattle.script.specs.Reading.{Script, whole, stops, follows, found, bad_at, no_more, read_call, read_from, read_all}
use Rattle.script.specs.declared.ReadCall.{ReadCall}
use Rattle.script.proofs.WrittenCalls.{read_sound, read_next}
use Rattle.script.proofs.WrittenScript.{from_end, from_bad, then_one}
use Rattle.run.specs.declared.output.Writer.{Writer}
use Rattle.run.specs.Output.{line, answer_text, line_number, most_bad, most_answer, Puts}
use Rattle.run.specs.Run.{answers, run_script, run_all, memory_after, memory_all, most_script, most_per_byte, most_answers, most_output}
use Rattle.run.specs.Writer.{Room, Wrote}
use Rattle.run.proofs.Writing.{wrote_append, wrote_most, wrote_nothing, room_left}

-- what is read from `at` on
abbrev pub rest_of : List ℕ → ℕ → Script
rest_of s at = read_from (suc (length s)) s at

pub record Running (src mem₀ : List ℕ) (w₀ : Writer) (mem : List ℕ) (w : Writer) (d : Manager) (at : ℕ) : Type 0 where
  pub text : List ℕ
  pub wrote : Wrote (most_per_byte * at) text w₀ w
  pub output : answers mem₀ fresh (read_all src).calls ≡ text ++ answers mem d (rest_of src at).calls
  pub memory : memory_after mem₀ fresh (read_all src).calls ≡ memory_after mem d (rest_of src at).calls
  pub bad : (read_all src).bad ≡ (rest_of src at).bad
  pub within : at ≤ length src

pub running_start : (src mem : List ℕ) (w : Writer) (d : Manager) → d ≡ fresh → Running src mem w mem w d 0
unfolding read_all
running_start src mem w d e =
    record { text = []; wrote = wrote_nothing _ w; output = rw e; memory = rw e; bad = refl; within = omega arith }

-- what `run_calls` ensures, where it stops at a bad line or at the end
pub record Ran (src mem₀ : List ℕ) (w₀ : Writer) (mem : List ℕ) (w : Writer) (bad : Option ℕ) : Type 0 where
  pub wrote : Wrote most_answers (answers mem₀ fresh (read_all src).calls) w₀ w
  pub stops : bad ≡ (read_all src).bad
  pub memory : mem ≡ memory_after mem₀ fresh (read_all src).calls

module _ {src mem₀ mem : List ℕ} {w₀ w : Writer} {d : Manager} {at : ℕ} (r : Running src mem₀ w₀ mem w d at) (l : length src ≤ most_script) where
  -- the answer of a call that was read is written, and the run goes on from the memory and the record that the call left
  module _ (c : ReadCall) (e : read_call src at ≡ found c.call c.six_values c.next) where
    next_calls : rest_of src at ≡ follows c.call (rest_of src c.next)
    next_calls = then_one src at c.call c.six_values c.next e

    next_answers : answers mem d (rest_of src at).calls ≡ answer_text c.six_values (answer_of (perform mem d c.call)) ++ answers (perform mem d c.call).memory (perform mem d c.call).manager (rest_of src c.next).calls
    unfolding answers
    next_answers = rw (next_calls, ← (read_sound src at c.call c.six_values c.next e).values)

    next_memory : memory_after mem d (rest_of src at).calls ≡ memory_after (perform mem d c.call).memory (perform mem d c.call).manager (rest_of src c.next).calls
    unfolding memory_after
    next_memory = rw next_calls

    pub running_one : {mem' : List ℕ} {a : Answer} {w' : Writer} →
        Performs (perform mem d c.call) mem' a →
        Wrote most_answer (answer_text c.six_values a) w w' →
        Running src mem₀ w₀ mem' w' a.manager c.next
    running_one {mem'} {a} {w'} g p =
        let f = read_next src at c.call c.six_values c.next e in
        let far = f.far in
        let em : (perform mem d c.call).memory ≡ mem' = sym g.memory in
        let ea : answer_of (perform mem d c.call) ≡ a = sym g.answer in
        let ed : (perform mem d c.call).manager ≡ a.manager = ap (λ (y : Answer). y.manager) ea in
        record {
          text = r.text ++ answer_text c.six_values a;
          wrote = wrote_most (omega arith) (wrote_append r.wrote p);
          output = r.output ∙ rw (next_answers, ea, em, ed) (sym (append_assoc r.text (answer_text c.six_values a) (answers mem' a.manager (rest_of src c.next).calls)));
          memory = r.memory ∙ next_memory ∙ rw (em, ed);
          bad = r.bad ∙ ap (λ (y : Script). y.bad) next_calls;
          within = f.within;
        }

    -- room for its answer, and a step forward
    pub room_one : Room most_answers w₀ → Room most_answer w
    room_one h =
        let f = read_next src at c.call c.six_values c.next e in
        let far = f.far in
        let y = f.within in
        room_left most_answer r.wrote (omega arith) h

    pub forward : length src - c.next < length src - at
    forward =
        let f = read_next src at c.call c.six_values c.next e in
        let far = f.far in
        let y = f.within in
        omega arith

  -- ---- the end

  module _ (t : Script) (n : t.calls ≡ []) (e : rest_of src at ≡ t) where
    ends : Ran src mem₀ w₀ mem w t.bad
    unfolding answers memory_after
    ends =
        let h = r.within in
        record {
          wrote = wrote_most {m = most_per_byte * at} {n = most_answers} (omega arith) (rw (r.output, e, n, append-nil) r.wrote);
          stops = sym (r.bad ∙ ap (λ (y : Script). y.bad) e);
          memory = sym (r.memory ∙ rw (e, n));
        }

  pub running_end : read_call src at ≡ no_more → Ran src mem₀ w₀ mem w None
  running_end h = ends (whole []) refl (from_end (suc (length src)) src at (omega arith) h)

  pub running_bad : (p : ℕ) → read_call src at ≡ bad_at p → Ran src mem₀ w₀ mem w (Some p)
  running_bad p h = ends (stops p) refl (from_bad (suc (length src)) src at p (omega arith) h)

-- ---- the whole program, in a buffer of which nothing was written: a script that is too long gives only `bad=0`

module _ (src mem : List ℕ) {out : List ℕ} {w₀ w : Writer} (o : w₀.out.now ≡ out) (z : w₀.len ≡ 0) where
  whole_puts : {m : ℕ} {text : List ℕ} → m ≤ most_output → Wrote m text w₀ w → run_all src mem ≡ text → Puts most_output out 0 (run_all src mem) w.out.now w.len
  whole_puts h p e = rw e (rw (o, z) at (wrote_most h p).puts)

  pub puts_long : most_script < length src → Wrote most_bad (line "bad=" 0) w₀ w → Puts most_output out 0 (run_all src mem) w.out.now w.len
  unfolding run_all
  puts_long h p = whole_puts (omega arith) p (rw (lt-ltb most_script (length src) h))

  module _ (h : length src ≤ most_script) where
    pub puts_bad : {v : Writer} (p k : ℕ) →
        Wrote most_answers (answers mem fresh (read_all src).calls) w₀ v →
        Some p ≡ (read_all src).bad →
        k ≡ line_number src p →
        Wrote most_bad (line "bad=" k) v w →
        Puts most_output out 0 (run_all src mem) w.out.now w.len
    unfolding run_all run_script
    puts_bad p k a s n b = whole_puts (omega arith) (wrote_append a b) (rw (le-ltb most_script (length src) h, ← s, ← n))

    pub puts_end : Wrote most_answers (answers mem fresh (read_all src).calls) w₀ w → None ≡ (read_all src).bad → Puts most_output out 0 (run_all src mem) w.out.now w.len
    unfolding run_all run_script
    puts_end a s = whole_puts (omega arith) a (rw (le-ltb most_script (length src) h, ← s) (append-nil (answers mem fresh (read_all src).calls)))

module _ (src mem : List ℕ) where
  pub memory_long : most_script < length src → mem ≡ memory_all src mem
  unfolding memory_all
  memory_long h = rw (lt-ltb most_script (length src) h)

  pub memory_run : {mem' : List ℕ} → length src ≤ most_script → mem' ≡ memory_after mem fresh (read_all src).calls → mem' ≡ memory_all src mem
  unfolding memory_all
  memory_run h e = rw (le-ltb most_script (length src) h) e
