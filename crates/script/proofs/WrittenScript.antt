-- THE ACCEPTANCE THEOREM (`accepts`): a script is read whole, as a list of calls, exactly when it is the written form of that list. Proved over
-- the table, by `read_complete` and `read_sound` of each call. Assumes nothing.
use mathlib.Core.Path.{◌≡◌, refl, sym, ◌∙◌, ap, subst}
use mathlib.Core.Logic.{◌↔◌}
use Prim.Native.Nat.{ℕ, zero, suc, ◌+◌, ◌-◌, ◌≤◌, ◌<◌}
use mathlib.Core.List.{List, [], ◌∷◌}
use mathlib.Core.Bool.{Bool, true, false, cond}
use native.Mathlib.Omega.{arith}
use lib.ListN.{length, drop, length-drop, drop_of_length-le}
use lib.Seq.{drop-drop, drop-append_seam}
use lib.Dec.{leb}
use borrow.Author.Tests.{leb-true}
use Rattle.std.specs.Prelude.{Option, Some, None, Ok, Err}
use Rattle.std.proofs.lemmas.Option.{none-some}
use Rattle.manager.specs.declared.Call.{Call}
use Rattle.script.specs.Table.{Row, calls, row_of}
use Rattle.script.specs.Reading.{find_row, Numbers, numbers, wrong, numbers_from, on_numbers, on_row, Read, found, bad_at, no_more, read_call, Script, whole, stops, follows, on_read, read_from, read_all}
use Rattle.script.specs.Written.{write, write_all, FitAll}
use Rattle.script.proofs.Laws.{read_end}
use Rattle.script.proofs.WrittenCalls.{read_complete, read_sound, read_next}

-- ---- one call more

pub from_end : (k : ℕ) (s : List ℕ) (at : ℕ) → 0 < k → read_call s at ≡ no_more → read_from k s at ≡ whole []
unfolding read_from
from_end zero s at z e = refl
from_end (suc k) s at z e = rw e

pub from_bad : (k : ℕ) (s : List ℕ) (at p : ℕ) → 0 < k → read_call s at ≡ bad_at p → read_from k s at ≡ stops p
unfolding read_from
from_bad zero s at p z e = absurd (omega arith)
from_bad (suc k) s at p z e = rw e

pub from_one : (k : ℕ) (s : List ℕ) (at : ℕ) (c : Call) (six : Bool) (q : ℕ) → read_call s at ≡ found c six q → read_from (suc k) s at ≡ follows c (read_from k s q)
unfolding read_from
from_one k s at c six q e = rw e

-- ---- bytes enough: more turns than there are bytes left change nothing

fuel_go : (k j : ℕ) (s : List ℕ) (at : ℕ) (r : Read) → read_call s at ≡ r → ((c : Call) (six : Bool) (q : ℕ) → read_call s at ≡ found c six q → read_from k s q ≡ read_from j s q) → on_read r (λ q. read_from k s q) ≡ on_read r (λ q. read_from j s q)
fuel_go k j s at (Ok (Some c)) e f = ap (λ (t : Script). follows c.call t) (f c.call c.six_values c.next e)
fuel_go k j s at (Err p) e f = refl
fuel_go k j s at (Ok None) e f = refl

pub fuel : (k j : ℕ) (s : List ℕ) (at : ℕ) → length s - at < k → length s - at < j → read_from k s at ≡ read_from j s at
unfolding read_from
fuel zero j s at h g = absurd (omega arith)
fuel (suc k) zero s at h g = absurd (omega arith)
fuel (suc k) (suc j) s at h g =
    fuel_go k j s at (read_call s at) refl
    (λ c six q e. let a = read_next s at c six q e in let f = a.far in let w = a.within in fuel k j s q (omega arith) (omega arith))

-- a call and the rest
pub then_one : (s : List ℕ) (at : ℕ) (c : Call) (six : Bool) (q : ℕ) → read_call s at ≡ found c six q → read_from (suc (length s)) s at ≡ follows c (read_from (suc (length s)) s q)
then_one s at c six q e =
    let a = read_next s at c six q e in
    let f = a.far in
    let w = a.within in
    from_one (length s) s at c six q e ∙ ap (λ (t : Script). follows c t) (fuel (length s) (suc (length s)) s q (omega arith) (omega arith))

-- ---- what is written is read back

back_from : (cs : List Call) (s : List ℕ) (at : ℕ) → FitAll cs → drop at s ≡ write_all cs → read_from (suc (length s)) s at ≡ whole cs
unfolding write_all FitAll
back_from [] s at f h = from_end (suc (length s)) s at (omega arith) (read_end s at (omega (arith, length-drop at s, ap (λ (x : List ℕ). length x) h)))
back_from (c ∷ cs) s at f h =
    let d : drop (at + length (write c)) s ≡ write_all cs = sym (drop-drop (length (write c)) at s) ∙ rw h (drop-append_seam (write c) (write_all cs)) in
    then_one s at c (row_of c).six_values (at + length (write c)) (read_complete s (write_all cs) at c f.0 h)
    ∙ ap (λ (t : Script). follows c t) (back_from cs s (at + length (write c)) f.1 d)

-- WHAT IS WRITTEN FROM A LIST OF CALLS READS BACK AS THAT LIST
pub reads_back : (cs : List Call) → FitAll cs → read_all (write_all cs) ≡ whole cs
unfolding read_all
reads_back cs f = back_from cs (write_all cs) 0 f refl

-- ---- what is accepted is written

one_end : (c : Call) (six : Bool) (q : ℕ) → found c six q ≡ no_more → ⊥
one_end c six q e = let z : ◌≡◌ {A = ℕ} 0 1 = cc in absurd (omega arith)

bad_end : (p : ℕ) → bad_at p ≡ no_more → ⊥
bad_end p e = let z : ◌≡◌ {A = ℕ} 0 1 = cc in absurd (omega arith)

numbers_end : (n : Numbers) (r : Row) → on_numbers n r ≡ no_more → ⊥
numbers_end (numbers vs q) r e = one_end (r.call vs) r.six_values q e
numbers_end (wrong p) r e = bad_end p e

row_end : (o : Option Row) (s : List ℕ) (at : ℕ) → on_row o s at ≡ no_more → ⊥
row_end (Some r) s at e = numbers_end (numbers_from s [] (at + length r.line) r.keys) r e
row_end None s at e = bad_end at e

ended_go : (s : List ℕ) (at : ℕ) (t : Bool) → leb (length s) at ≡ t → cond t no_more (on_row (find_row calls (drop at s)) s at) ≡ no_more → length s ≤ at
ended_go s at true e h = leb-true (length s) at e
ended_go s at false e h = absurd (row_end (find_row calls (drop at s)) s at h)

-- only at the end is nothing left
ended : (s : List ℕ) (at : ℕ) → read_call s at ≡ no_more → length s ≤ at
unfolding read_call
ended s at h = ended_go s at (leb (length s) at) refl h

cons_head : (b c : Call) (bs cs : List Call) → b ∷ bs ≡ c ∷ cs → b ≡ c
cons_head b c bs cs e = cc

cons_tail : (b c : Call) (bs cs : List Call) → b ∷ bs ≡ c ∷ cs → bs ≡ cs
cons_tail b c bs cs e = cc

nil_cons : {A : Type 0} (c : Call) (cs : List Call) → [] ≡ c ∷ cs → A
nil_cons c cs e = let z : ◌≡◌ {A = ℕ} 0 1 = cc in absurd (omega arith)

record WrittenFrom (cs : List Call) (s : List ℕ) (at : ℕ) : Type 0 where
  fit : FitAll cs
  text : drop at s ≡ write_all cs

one_go : (s : List ℕ) (at : ℕ) (c : Call) (six : Bool) (q : ℕ) (cs : List Call) (t : Script) → read_call s at ≡ found c six q → follows c t ≡ whole cs → ((ds : List Call) → t ≡ whole ds → WrittenFrom ds s q) → WrittenFrom cs s at
unfolding write_all FitAll
one_go s at c six q [] t e h f = nil_cons c t.calls (sym (ap (λ (x : Script). x.calls) h))
one_go s at c six q (d ∷ cs) t e h f =
    let r = read_sound s at c six q e in
    let ec : c ≡ d = cons_head c d t.calls cs (ap (λ (x : Script). x.calls) h) in
    let et : t.calls ≡ cs = cons_tail c d t.calls cs (ap (λ (x : Script). x.calls) h) in
    let eb : t.bad ≡ None = ap (λ (x : Script). x.bad) h in
    let w = f cs (ap (λ (x : List Call). record { calls = x; bad = t.bad }) et ∙ ap (λ (x : Option ℕ). record { calls = cs; bad = x }) eb) in
    record { fit = (rw (← ec) r.fit, w.fit); text = r.text ∙ rw (ec, w.text) }

only_go : (k : ℕ) (cs : List Call) (s : List ℕ) (at : ℕ) (r : Read) →
    length s - at < suc k →
    read_call s at ≡ r →
    on_read r (λ q. read_from k s q) ≡ whole cs →
    ((ds : List Call) (q : ℕ) → length s - q < k → read_from k s q ≡ whole ds → WrittenFrom ds s q) →
    WrittenFrom cs s at
unfolding write_all FitAll
only_go k cs s at (Ok (Some c)) g e h f =
    let a = read_next s at c.call c.six_values c.next e in
    let r = a.far in
    let w = a.within in
    one_go s at c.call c.six_values c.next cs (read_from k s c.next) e h (λ ds i. f ds c.next (omega arith) i)
only_go k cs s at (Err b) g e h f = absurd (none-some b.at (sym (ap (λ (x : Script). x.bad) h)))
only_go k cs s at (Ok None) g e h f =
    let n : [] ≡ cs = ap (λ (x : Script). x.calls) h in
    subst (λ (x : List Call). WrittenFrom x s at) n (record { fit = tt; text = drop_of_length-le s {i = at} (ended s at e) })

only_from : (k : ℕ) (cs : List Call) (s : List ℕ) (at : ℕ) → length s - at < k → read_from k s at ≡ whole cs → WrittenFrom cs s at
unfolding read_from
only_from zero cs s at g h = absurd (omega arith)
only_from (suc k) cs s at g h = only_go k cs s at (read_call s at) g refl h (λ ds q i j. only_from k ds s q i j)

-- WHAT IS READ WHOLE IS WHAT IS WRITTEN FROM THE CALLS READ
pub only_written : (s : List ℕ) (cs : List Call) → read_all s ≡ whole cs → FitAll cs × (s ≡ write_all cs)
unfolding read_all
only_written s cs h = let w = only_from (suc (length s)) cs s 0 (omega arith) h in (w.fit, w.text)

-- A SCRIPT IS ACCEPTED EXACTLY WHEN IT IS WRITTEN
pub accepts : (s : List ℕ) (cs : List Call) → (read_all s ≡ whole cs) ↔ (FitAll cs × (s ≡ write_all cs))
accepts s cs = (λ h. only_written s cs h, λ w. ap read_all w.1 ∙ reads_back cs w.0)
