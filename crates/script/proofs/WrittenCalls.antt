-- The call reader reads exactly the written form of a call: it reads each written call back (`read_complete`), and what it reads is one
-- (`read_sound`). Proved over the table: no clause here names a call or a key. Assumes nothing.
use mathlib.Core.Path.{◌≡◌, refl, sym, ◌∙◌, ap, subst}
use Prim.Native.Nat.{ℕ, zero, suc, ◌+◌, ◌-◌, ◌≤◌, ◌<◌}
use mathlib.Core.List.{List, [], ◌∷◌, ◌++◌, append_assoc, append-nil}
use mathlib.Core.Bool.{Bool, true, false, cond, true≢false}
use native.Mathlib.Nat.{add-zero, add_assoc}
use native.Mathlib.Omega.{arith}
use lib.ListN.{length, get_or, drop, length-append, length-drop}
use lib.Seq.{drop-drop, drop-append_seam, append_snoc}
use lib.Dec.{leb, ltb, eqb}
use borrow.Author.Tests.{leb-true, ltb-true, leb-false}
use Rattle.std.specs.Prelude.{Option, Some, None, Result, Ok}
use Rattle.std.proofs.lemmas.Option.{same_Some}
use Rattle.text.specs.Lines.{starts, took}
use Rattle.text.specs.Decimal.{line_of}
use Rattle.text.specs.declared.Entry.{Entry}
use Rattle.text.proofs.Laws.{starts_fits}
use Rattle.text.proofs.Digits.{length_line}
use Rattle.text.proofs.Numbers.{digits_some}
use Rattle.text.proofs.WrittenLines.{plain, starts_complete, starts_sound, field_complete, field_sound}
use Rattle.manager.specs.declared.Call.{Call}
use Rattle.script.specs.Table.{Key, Row, calls, no_row, row_of, arguments_of}
use Rattle.script.specs.Reading.{find_row, key_at, Numbers, numbers, wrong, on_entry, numbers_from, on_numbers, on_row, found, bad_at, no_more, read_call}
use Rattle.script.specs.declared.ReadCall.{ReadCall}
use Rattle.script.specs.Written.{write_fields, write, Fit}
use Rattle.script.proofs.Computed.{all_upto, both, all_upto_lem}
use Rattle.script.proofs.Laws.{find_starts, placed, read_row}
use Rattle.script.proofs.Rows.{Made, made, listed}

-- ---- the keys: none has a newline or more than 52 bytes, and every largest number is below 2 ^ 32

fine_key : Key → Bool
fine_key k = cond (plain k.text) (cond (leb (length k.text) 52) (ltb k.most 4294967296) false) false

record Fine (k : Key) : Type 0 where
  unbroken : plain k.text ≡ true
  short : length k.text ≤ 52
  small : k.most < 4294967296

fine_key_lem : (k : Key) → fine_key k ≡ true → Fine k
unfolding fine_key
fine_key_lem k h =
    let a = both (plain k.text) (cond (leb (length k.text) 52) (ltb k.most 4294967296) false) h in
    let b = both (leb (length k.text) 52) (ltb k.most 4294967296) a.1 in
    record { unbroken = a.0; short = leb-true (length k.text) 52 b.0; small = ltb-true k.most 4294967296 b.1 }

fine_keys : List Key → Bool
fine_keys [] = true
fine_keys (k ∷ ks) = cond (fine_key k) (fine_keys ks) false

fine_row : (k : ℕ) → k < length calls → fine_keys (get_or calls k no_row).keys ≡ true
unfolding all_upto fine_keys fine_key plain
fine_row k h = all_upto_lem (length calls) (λ j. fine_keys (get_or calls j no_row).keys) refl k h

-- ---- the lines: none starts another

-- the lists differ at a place that both have
apart : List ℕ → List ℕ → Bool
apart [] ys = false
apart (x ∷ xs) [] = false
apart (x ∷ xs) (y ∷ ys) = cond (eqb x y) (apart xs ys) true

apart_go : (x y : ℕ) (xs ys r : List ℕ) (t : Bool) → cond t (apart xs ys) true ≡ true → (apart xs ys ≡ true → starts xs (ys ++ r) ≡ false) → cond t (starts xs (ys ++ r)) false ≡ false
apart_go x y xs ys r true h f = f h
apart_go x y xs ys r false h f = refl

apart_starts : (xs ys r : List ℕ) → apart xs ys ≡ true → starts xs (ys ++ r) ≡ false
unfolding apart starts
apart_starts [] ys r h = absurd (true≢false (sym h))
apart_starts (x ∷ xs) [] r h = absurd (true≢false (sym h))
apart_starts (x ∷ xs) (y ∷ ys) r h = apart_go x y xs ys r (eqb x y) h (λ g. apart_starts xs ys r g)

apart_all : List ℕ → List Row → Bool
apart_all n [] = true
apart_all n (r ∷ rs) = cond (apart n r.line) (apart_all n rs) false

apart_at : (n : List ℕ) (rs : List Row) → apart_all n rs ≡ true → (j : ℕ) → j < length rs → apart n (get_or rs j no_row).line ≡ true
unfolding apart_all
apart_at n [] h j l = absurd (omega arith)
apart_at n (r ∷ rs) h zero l = (both (apart n r.line) (apart_all n rs) h).0
apart_at n (r ∷ rs) h (suc j) l = apart_at n rs (both (apart n r.line) (apart_all n rs) h).1 j (omega arith)

pairwise : List Row → Bool
pairwise [] = true
pairwise (r ∷ rs) = cond (apart_all r.line rs) (pairwise rs) false

find_read : (rs : List Row) (j : ℕ) (t : List ℕ) → pairwise rs ≡ true → j < length rs → find_row rs ((get_or rs j no_row).line ++ t) ≡ Some (get_or rs j no_row)
unfolding pairwise find_row
find_read [] j t h l = absurd (omega arith)
find_read (r ∷ rs) zero t h l = rw (starts_complete r.line t)
find_read (r ∷ rs) (suc j) t h l =
    let b = both (apart_all r.line rs) (pairwise rs) h in
    rw (apart_starts r.line (get_or rs j no_row).line t (apart_at r.line rs b.0 j (omega arith))) (find_read rs j t b.1 (omega arith))

find_complete : (j : ℕ) (t : List ℕ) → j < length calls → find_row calls ((get_or calls j no_row).line ++ t) ≡ Some (get_or calls j no_row)
unfolding pairwise apart_all apart
find_complete j t h = find_read calls j t refl h

-- ---- the lines of the keys

numbers_complete : (ks : List Key) (vs s acc rest : List ℕ) (p : ℕ) → fine_keys ks ≡ true → Fit ks vs → drop p s ≡ write_fields ks vs ++ rest → numbers_from s acc p ks ≡ numbers (acc ++ vs) (p + length (write_fields ks vs))
unfolding numbers_from write_fields Fit key_at fine_keys
numbers_complete [] [] s acc rest p t f h = rw (append-nil, add-zero)
numbers_complete [] (v ∷ vs) s acc rest p t f h = absurd f
numbers_complete (k ∷ ks) [] s acc rest p t f h = absurd f
numbers_complete (k ∷ ks) (v ∷ vs) s acc rest p t f h =
    let line = line_of k.text v in
    let b = both (fine_key k) (fine_keys ks) t in
    let i = fine_key_lem k b.0 in
    let m = i.small in
    let g : drop p s ≡ line ++ (write_fields ks vs ++ rest) = h ∙ append_assoc line (write_fields ks vs) rest in
    let e : key_at s p k ≡ took v (p + length line) = field_complete s k.text (write_fields ks vs ++ rest) p v k.most g i.unbroken i.short f.0 (omega (arith, f.0)) in
    let d : drop (p + length line) s ≡ write_fields ks vs ++ rest = sym (drop-drop (length line) p s) ∙ rw g (drop-append_seam line (write_fields ks vs ++ rest)) in
    rw e (numbers_complete ks vs s (acc ++ (v ∷ [])) rest (p + length line) b.1 f.1 d ∙ rw (append_snoc acc v vs, length-append, add_assoc))

record NumbersRead (s acc : List ℕ) (ks : List Key) (ws : List ℕ) (p q : ℕ) : Type 0 where
  vs : List ℕ
  are : ws ≡ acc ++ vs
  fit : Fit ks vs
  text : drop p s ≡ write_fields ks vs ++ drop q s
  within : q ≤ length s

wrong_numbers : {A : Type 0} (p q : ℕ) (ws : List ℕ) → wrong p ≡ numbers ws q → A
wrong_numbers p q ws e = let z : ◌≡◌ {A = ℕ} 0 1 = cc in absurd (omega arith)

numbers_list : (vs ws : List ℕ) (p q : ℕ) → numbers vs p ≡ numbers ws q → vs ≡ ws
numbers_list vs ws p q e = cc

numbers_next : (vs ws : List ℕ) (p q : ℕ) → numbers vs p ≡ numbers ws q → p ≡ q
numbers_next vs ws p q e = cc

more_go : (k : Key) (ks : List Key) (s acc ws : List ℕ) (p q : ℕ) (g : Option Entry) →
    key_at s p k ≡ g →
    on_entry g (wrong p) (λ v r. numbers_from s (acc ++ (v ∷ [])) r ks) ≡ numbers ws q →
    ((v r : ℕ) → r ≤ length s → numbers_from s (acc ++ (v ∷ [])) r ks ≡ numbers ws q → NumbersRead s (acc ++ (v ∷ [])) ks ws r q) →
    NumbersRead s acc (k ∷ ks) ws p q
unfolding write_fields Fit key_at
more_go k ks s acc ws p q (Some g) e h f =
    let v = g.value in
    let r = g.next in
    let a = field_sound s k.text p k.most v r e in
    let b = f v r a.within h in
    record {
      vs = v ∷ b.vs;
      are = b.are ∙ append_snoc acc v b.vs;
      fit = (a.small, b.fit);
      text = a.text ∙ rw b.text (sym (append_assoc (line_of k.text v) (write_fields ks b.vs) (drop q s)));
      within = b.within;
    }
more_go k ks s acc ws p q None e h f = wrong_numbers p q ws h

numbers_sound : (ks : List Key) (s acc ws : List ℕ) (p q : ℕ) → p ≤ length s → numbers_from s acc p ks ≡ numbers ws q → NumbersRead s acc ks ws p q
unfolding numbers_from write_fields Fit
numbers_sound [] s acc ws p q i h =
    let e : p ≡ q = numbers_next acc ws p q h in
    record { vs = []; are = sym (numbers_list acc ws p q h) ∙ sym (append-nil acc); fit = tt; text = rw e; within = omega arith }
numbers_sound (k ∷ ks) s acc ws p q i h = more_go k ks s acc ws p q (key_at s p k) refl h (λ v r j g. numbers_sound ks s (acc ++ (v ∷ [])) ws r q j g)

-- ---- a call takes 10 bytes or more

fields_least : List Key → ℕ
fields_least [] = 0
fields_least (k ∷ ks) = length k.text + 2 + fields_least ks

fields_least_lem : (ks : List Key) (vs : List ℕ) → Fit ks vs → fields_least ks ≤ length (write_fields ks vs)
unfolding fields_least write_fields Fit
fields_least_lem [] vs f = omega arith
fields_least_lem (k ∷ ks) [] f = absurd f
fields_least_lem (k ∷ ks) (v ∷ vs) f =
    omega (arith, length-append (line_of k.text v) (write_fields ks vs), length_line k.text v, digits_some (suc v) v (omega arith), fields_least_lem ks vs f.1)

row_least : (k : ℕ) → k < length calls → 10 ≤ length (get_or calls k no_row).line + fields_least (get_or calls k no_row).keys
unfolding all_upto fields_least
row_least k h = leb-true 10 (length (get_or calls k no_row).line + fields_least (get_or calls k no_row).keys) (all_upto_lem (length calls) (λ j. leb 10 (length (get_or calls j no_row).line + fields_least (get_or calls j no_row).keys)) refl k h)

pub write_least : (c : Call) → Fit (row_of c).keys (arguments_of c) → 10 ≤ length (write c)
unfolding write
write_least c f =
    let l = listed c in
    let m = row_least l.place l.known in
    let n : 10 ≤ length (row_of c).line + fields_least (row_of c).keys = subst (λ (r : Row). 10 ≤ length r.line + fields_least r.keys) l.is m in
    omega (arith, length-append (row_of c).line (write_fields (row_of c).keys (arguments_of c)), fields_least_lem (row_of c).keys (arguments_of c) f)

-- ---- a call

same_Ok : {A E : Type 0} (x y : A) → ◌≡◌ {A = Result A E} (Ok x) (Ok y) → x ≡ y
same_Ok x y e = cc

-- A WRITTEN CALL IS READ BACK
pub read_complete : (s rest : List ℕ) (at : ℕ) (c : Call) → Fit (row_of c).keys (arguments_of c) → drop at s ≡ write c ++ rest → read_call s at ≡ found c (row_of c).six_values (at + length (write c))
unfolding write
read_complete s rest at c f h =
    let line = (row_of c).line in
    let fields = write_fields (row_of c).keys (arguments_of c) in
    let l = listed c in
    let g : drop at s ≡ line ++ (fields ++ rest) = h ∙ append_assoc line fields rest in
    let w = write_least c f in
    let n : length (drop at s) ≡ length (line ++ fields) + length rest = ap (λ (x : List ℕ). length x) h ∙ length-append (line ++ fields) rest in
    let i : at < length s = omega (arith, length-drop at s) in
    let there : find_row calls (drop at s) ≡ Some (row_of c) = rw g (subst (λ (r : Row). find_row calls (r.line ++ (fields ++ rest)) ≡ Some r) l.is (find_complete l.place (fields ++ rest) l.known)) in
    let fine : fine_keys (row_of c).keys ≡ true = subst (λ (r : Row). fine_keys r.keys ≡ true) l.is (fine_row l.place l.known) in
    let d : drop (at + length line) s ≡ fields ++ rest = sym (drop-drop (length line) at s) ∙ rw g (drop-append_seam line (fields ++ rest)) in
    let e : numbers_from s [] (at + length line) (row_of c).keys ≡ numbers (arguments_of c) (at + length line + length fields) = numbers_complete (row_of c).keys (arguments_of c) s [] rest (at + length line) fine f d in
    read_row s at i
    ∙ ap (λ (o : Option Row). on_row o s at) there
    ∙ ap (λ (x : Numbers). on_numbers x (row_of c)) e
    ∙ ap (λ (x : Call). found x (row_of c).six_values (at + length line + length fields)) l.remade
    ∙ ap (λ (x : ℕ). found c (row_of c).six_values x) (omega (arith, length-append line fields))

pub record CallRead (s : List ℕ) (at : ℕ) (c : Call) (six : Bool) (q : ℕ) : Type 0 where
  pub values : six ≡ (row_of c).six_values
  pub fit : Fit (row_of c).keys (arguments_of c)
  pub text : drop at s ≡ write c ++ drop q s
  pub before : at < length s
  pub within : q ≤ length s

end_one : {A : Type 0} (c : Call) (six : Bool) (q : ℕ) → no_more ≡ found c six q → A
end_one c six q e = let z : ◌≡◌ {A = ℕ} 0 1 = cc in absurd (omega arith)

bad_one : {A : Type 0} (p : ℕ) (c : Call) (six : Bool) (q : ℕ) → bad_at p ≡ found c six q → A
bad_one p c six q e = let z : ◌≡◌ {A = ℕ} 0 1 = cc in absurd (omega arith)

record SameOne (b c : Call) (u t : Bool) (p q : ℕ) : Type 0 where
  call : b ≡ c
  six : u ≡ t
  next : p ≡ q

same_one : (b c : Call) (u t : Bool) (p q : ℕ) → found b u p ≡ found c t q → SameOne b c u t p q
same_one b c u t p q e =
    let r = same_Some _ _ (same_Ok _ _ e) in
    record { call = ap (λ (x : ReadCall). x.call) r; six = ap (λ (x : ReadCall). x.six_values) r; next = ap (λ (x : ReadCall). x.next) r }

module _ (s : List ℕ) (at : ℕ) (c : Call) (six : Bool) (q : ℕ) (i : at < length s) where
  numbers_go : (r : Row) (n : Numbers) → find_row calls (drop at s) ≡ Some r → numbers_from s [] (at + length r.line) r.keys ≡ n → on_numbers n r ≡ found c six q → CallRead s at c six q
  unfolding write
  numbers_go r (numbers ws p) o e h =
      let st = find_starts calls (drop at s) r o in
      let pl = placed calls (drop at s) r o in
      let f = numbers_sound r.keys s [] ws (at + length r.line) p (starts_fits r.line s at (omega arith) st) e in
      let o1 = same_one (r.call ws) c r.six_values six p q h in
      let ec : r.call ws ≡ c = o1.call in
      let eq : p ≡ q = o1.next in
      let fw : Fit r.keys ws = rw f.are f.fit in
      let m = subst (λ (x : Row). Fit x.keys ws → Made x ws) pl.is (made pl.place pl.known ws) fw in
      let er : r ≡ row_of c = sym (ap row_of (sym ec) ∙ m.its_row) in
      let ea : ws ≡ arguments_of c = sym (ap arguments_of (sym ec) ∙ m.its_numbers) in
      let ft : drop (at + length r.line) s ≡ write_fields r.keys ws ++ drop p s = rw f.are f.text in
      let t : drop at s ≡ (r.line ++ write_fields r.keys ws) ++ drop p s = starts_sound r.line (drop at s) st ∙ ap (λ (x : List ℕ). r.line ++ x) (drop-drop (length r.line) at s ∙ ft) ∙ sym (append_assoc r.line (write_fields r.keys ws) (drop p s)) in
      record {
        values = sym o1.six ∙ ap (λ (x : Row). x.six_values) er;
        fit = subst (λ (x : List ℕ). Fit (row_of c).keys x) ea (subst (λ (x : Row). Fit x.keys ws) er fw);
        text = t
            ∙ ap (λ (x : Row). (x.line ++ write_fields x.keys ws) ++ drop p s) er
            ∙ ap (λ (x : List ℕ). ((row_of c).line ++ write_fields (row_of c).keys x) ++ drop p s) ea
            ∙ ap (λ (n : ℕ). ((row_of c).line ++ write_fields (row_of c).keys (arguments_of c)) ++ drop n s) eq;
        before = i;
        within = subst (λ (n : ℕ). n ≤ length s) eq f.within;
      }
  numbers_go r (wrong p) o e h = bad_one p c six q h

  row_go : (o : Option Row) → find_row calls (drop at s) ≡ o → on_row o s at ≡ found c six q → CallRead s at c six q
  row_go (Some r) e h = numbers_go r (numbers_from s [] (at + length r.line) r.keys) e refl h
  row_go None e h = bad_one at c six q h

sound_go : (s : List ℕ) (at : ℕ) (c : Call) (six : Bool) (q : ℕ) (t : Bool) → leb (length s) at ≡ t → cond t no_more (on_row (find_row calls (drop at s)) s at) ≡ found c six q → CallRead s at c six q
sound_go s at c six q true e h = end_one c six q h
sound_go s at c six q false e h = row_go s at c six q (leb-false (length s) at e) (find_row calls (drop at s)) refl h

-- WHAT IS READ IS A WRITTEN CALL
pub read_sound : (s : List ℕ) (at : ℕ) (c : Call) (six : Bool) (q : ℕ) → read_call s at ≡ found c six q → CallRead s at c six q
unfolding read_call
read_sound s at c six q h = sound_go s at c six q (leb (length s) at) refl h

-- the next line starts where the written call ends, 10 bytes on or more
pub record Advances (s : List ℕ) (at q : ℕ) (n : ℕ) : Type 0 where
  pub next : q ≡ at + n
  pub far : at + 10 ≤ q
  pub within : q ≤ length s

pub read_next : (s : List ℕ) (at : ℕ) (c : Call) (six : Bool) (q : ℕ) → read_call s at ≡ found c six q → Advances s at q (length (write c))
read_next s at c six q h =
    let r = read_sound s at c six q h in
    let b = r.before in
    let w = r.within in
    let l = write_least c r.fit in
    let n : length (drop at s) ≡ length (write c) + length (drop q s) = ap (λ (x : List ℕ). length x) r.text ∙ length-append (write c) (drop q s) in
    let m : length s - at ≡ length (write c) + (length s - q) = sym (length-drop at s) ∙ n ∙ ap (λ (k : ℕ). length (write c) + k) (length-drop q s) in
    record { next = omega arith; far = omega arith; within = w }
