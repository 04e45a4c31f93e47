-- The line reader reads exactly a key, a decimal number and a newline: it reads each such line back (`field_complete`), and what it reads is
-- one (`field_sound`). Assumes nothing.
use mathlib.Core.Path.{◌≡◌, refl, sym, ◌∙◌, ap}
use Prim.Native.Nat.{ℕ, zero, suc, ◌+◌, ◌-◌, ◌/◌, ◌%◌, ◌≤◌, ◌<◌}
use mathlib.Core.List.{List, [], ◌∷◌, ◌++◌, append_assoc}
use mathlib.Core.Bool.{Bool, true, false, cond, true≢false}
use native.Mathlib.Nat.{add-suc, suc-add, add-zero}
use native.Mathlib.Numerals.{add-one}
use native.Mathlib.Omega.{arith}
use native.Mathlib.Decide.{dec_lt}
use lib.ListN.{length, get_or, take, drop, length-append, length-drop, take-append-drop}
use lib.Seq.{drop-cons, drop-drop, take-append_seam, drop-append_seam, get_or-drop}
use lib.Dec.{ltb, eqb}
use borrow.Author.Tests.{le-ltb, ltb-false, eq-eqb, ne_eqb, eqb-true, eqb-false}
use Rattle.std.proofs.lemmas.Option.{none-some, same_Some}
use Rattle.text.specs.declared.Entry.{Entry}
use Rattle.std.specs.Prelude.{Option, Some, None, option_and_then}
use Rattle.text.specs.Lines.{part, number_of, line_from, line_at, starts, took, field_at}
use Rattle.text.specs.Decimal.{decimal, line_of}
use Rattle.text.proofs.Laws.{line_found, starts_part}
use Rattle.text.proofs.Digits.{decimal_small, decimal_big, length_line, length_decimal}
use Rattle.text.proofs.Numbers.{number_complete, number_sound}

-- ---- lists without a newline

unfoldable pub plain : List ℕ → Bool
plain [] = true
plain (b ∷ bs) = cond (eqb b 10) false (plain bs)

plain_go : (b : ℕ) (bs : List ℕ) (t : Bool) → eqb b 10 ≡ t → cond t false (plain bs) ≡ true → (b ≡ 10 → ⊥) × (plain bs ≡ true)
plain_go b bs true e h = absurd (true≢false (sym h))
plain_go b bs false e h = (eqb-false b 10 e, h)

plain_step : (b : ℕ) (bs : List ℕ) → plain (b ∷ bs) ≡ true → (b ≡ 10 → ⊥) × (plain bs ≡ true)
unfolding plain
plain_step b bs h = plain_go b bs (eqb b 10) refl h

pub plain_append : (xs ys : List ℕ) → plain xs ≡ true → plain ys ≡ true → plain (xs ++ ys) ≡ true
unfolding plain
plain_append [] ys h g = g
plain_append (x ∷ xs) ys h g =
    let s = plain_step x xs h in
    rw (ne_eqb x 10 s.0) (plain_append xs ys s.1 g)

pub plain_decimal : (k n : ℕ) → n < k → plain (decimal n) ≡ true
unfolding plain
plain_decimal zero n h = absurd (omega arith)
plain_decimal (suc k) n h = go (dec_lt n 10) (λ g. plain_decimal k (n / 10) (omega arith))
  where
    go : Dec (n < 10) → (10 ≤ n → plain (decimal (n / 10)) ≡ true) → plain (decimal n) ≡ true
    go (yes l) f = rw (decimal_small n l, ne_eqb (48 + n) 10 (λ e. omega arith))
    go (no l) f =
        rw (decimal_big n (omega arith))
        (plain_append (decimal (n / 10)) ((48 + n % 10) ∷ []) (f (omega arith)) (rw (ne_eqb (48 + n % 10) 10 (λ e. omega arith))))

-- ---- a line's end

line_complete : (xs r : List ℕ) (k p : ℕ) → plain xs ≡ true → length xs < k → line_from k p (xs ++ (10 ∷ r)) ≡ Some (p + length xs)
unfolding line_from
line_complete xs r zero p h g = absurd (omega arith)
line_complete [] r (suc k) p h g = rw add-zero
line_complete (x ∷ xs) r (suc k) p h g =
    let s = plain_step x xs h in
    rw (ne_eqb x 10 s.0) (line_complete xs r k (suc p) s.1 (omega arith) ∙ rw (add-suc, suc-add))

-- ---- a key

pub starts_complete : (ks r : List ℕ) → starts ks (ks ++ r) ≡ true
unfolding starts
starts_complete [] r = refl
starts_complete (k ∷ ks) r = rw (eq-eqb k k refl) (starts_complete ks r)

starts_go : (k b : ℕ) (ks bs : List ℕ) (t : Bool) → eqb k b ≡ t → cond t (starts ks bs) false ≡ true → (starts ks bs ≡ true → bs ≡ ks ++ drop (length ks) bs) → b ∷ bs ≡ (k ∷ ks) ++ drop (length ks) bs
starts_go k b ks bs true e h f = let q : k ≡ b = eqb-true k b e in rw (← f h, q)
starts_go k b ks bs false e h f = absurd (true≢false (sym h))

pub starts_sound : (ks bs : List ℕ) → starts ks bs ≡ true → bs ≡ ks ++ drop (length ks) bs
unfolding starts
starts_sound [] bs h = refl
starts_sound (k ∷ ks) [] h = absurd (true≢false (sym h))
starts_sound (k ∷ ks) (b ∷ bs) h = starts_go k b ks bs (eqb k b) refl h (λ g. starts_sound ks bs g)

-- what a first part of a list starts with, the list starts with
starts_take_go : (k b : ℕ) (ks bs : List ℕ) (n : ℕ) (t : Bool) → cond t (starts ks (take n bs)) false ≡ true → (starts ks (take n bs) ≡ true → starts ks bs ≡ true) → cond t (starts ks bs) false ≡ true
starts_take_go k b ks bs n true h f = f h
starts_take_go k b ks bs n false h f = h

starts_take : (ks bs : List ℕ) (n : ℕ) → starts ks (take n bs) ≡ true → starts ks bs ≡ true
unfolding starts
starts_take [] bs n h = refl
starts_take (k ∷ ks) [] zero h = h
starts_take (k ∷ ks) [] (suc n) h = h
starts_take (k ∷ ks) (b ∷ bs) zero h = absurd (true≢false (sym h))
starts_take (k ∷ ks) (b ∷ bs) (suc n) h = starts_take_go k b ks bs n (eqb k b) h (λ g. starts_take ks bs n g)

-- ---- a line of a key and a number

pub line_open : (k : List ℕ) (n : ℕ) (r : List ℕ) → line_of k n ++ r ≡ k ++ (decimal n ++ (10 ∷ r))
unfolding line_of
line_open k n r = simp append_assoc

module _ (s key rest : List ℕ) (at v m : ℕ) (h : drop at s ≡ line_of key v ++ rest) where
  as_line : drop at s ≡ (key ++ decimal v) ++ (10 ∷ rest)
  unfolding line_of
  as_line = h ∙ simp append_assoc

  -- the bytes of the line, and those after its key
  as_part : part s at (at + length (key ++ decimal v)) ≡ key ++ decimal v
  as_part =
      let e : at + length (key ++ decimal v) - at ≡ length (key ++ decimal v) = omega arith in
      rw (e, as_line) (take-append_seam (key ++ decimal v) (10 ∷ rest))

  as_number : part s (at + length key) (at + length (key ++ decimal v)) ≡ decimal v
  as_number =
      let e : at + length (key ++ decimal v) - (at + length key) ≡ length (decimal v) = omega (arith, length-append key (decimal v)) in
      let d : drop (at + length key) s ≡ decimal v ++ (10 ∷ rest) = sym (drop-drop (length key) at s) ∙ rw (h, line_open) (drop-append_seam key (decimal v ++ (10 ∷ rest))) in
      rw (e, d) (take-append_seam (decimal v) (10 ∷ rest))

  -- A WRITTEN LINE IS READ BACK
  pub field_complete : plain key ≡ true → length key ≤ 52 → v ≤ m → v < 4294967296 → field_at s at key m ≡ took v (at + length (line_of key v))
  unfolding field_at
  field_complete pk lk hm hv =
      let d = length_decimal v hv in
      let w = length_line key v in
      let l : length (key ++ decimal v) ≡ length key + length (decimal v) = length-append key (decimal v) in
      let q : line_at s at ≡ Some (at + length (key ++ decimal v)) = rw as_line (line_complete (key ++ decimal v) rest 64 at (plain_append key (decimal v) pk (plain_decimal (suc v) v (omega arith))) (omega arith)) in
      let b : starts key (part s at (at + length (key ++ decimal v))) ≡ true = rw as_part (starts_complete key (decimal v)) in
      let n : number_of (part s (at + length key) (at + length (key ++ decimal v))) ≡ Some v = rw as_number (number_complete v hv) in
      rw (q, b, n, le-ltb m v hm) (ap (λ (e : ℕ). took v e) (omega arith))

took_v : (v q w r : ℕ) → took v q ≡ took w r → v ≡ w
took_v v q w r e = ap (λ (t : Entry). t.value) (same_Some _ _ e)

took_q : (v q w r : ℕ) → took v q ≡ took w r → q ≡ r
took_q v q w r e = ap (λ (t : Entry). t.next) (same_Some _ _ e)

pub record FieldRead (s key : List ℕ) (at m v q : ℕ) : Type 0 where
  pub text : drop at s ≡ line_of key v ++ drop q s
  pub small : v ≤ m
  pub within : q ≤ length s

module _ (s key : List ℕ) (at m v q : ℕ) where
  last_go : (e w : ℕ) (b : Bool) → line_at s at ≡ Some e → starts key (part s at e) ≡ true → number_of (part s (at + length key) e) ≡ Some w → ltb m w ≡ b → cond b None (took w (e + 1)) ≡ took v q → FieldRead s key at m v q
  last_go e w true le st nu lt h = absurd (none-some _ h)
  last_go e w false le st nu lt h =
      let f = line_found (drop at s) 64 at e le in
      let f1 = f.past in
      let f2 : e - at < length s - at = rw length-drop at f.inside in
      let lk = starts_part key s at e f1 st in
      let ev : w ≡ v = took_v w (e + 1) v q h in
      let eq : e + 1 ≡ q = took_q w (e + 1) v q h in
      let z : at + (e - at) ≡ e = omega arith in
      let ten : get_or s e 0 ≡ 10 = rw (get_or-drop, z) at f.here in
      let x : at + length key + (e - (at + length key)) ≡ e = omega arith in
      let dr : drop (e - (at + length key)) (drop (at + length key) s) ≡ 10 ∷ drop q s = rw (drop-drop, x, drop-cons s e 0 (omega arith), ten, ← eq, add-one) in
      let all : drop at s ≡ key ++ drop (at + length key) s = starts_sound key (drop at s) (starts_take key (drop at s) (e - at) st) ∙ rw drop-drop in
      let cut : drop (at + length key) s ≡ decimal w ++ (10 ∷ drop q s) = sym (take-append-drop (e - (at + length key)) (drop (at + length key) s)) ∙ rw (← (number_sound _ w nu).0, dr) in
      record { text = all ∙ rw (cut, ev) (sym (line_open key v (drop q s))); small = rw ev at (ltb-false m w lt); within = omega arith }

  num_go : (e : ℕ) (w : Option ℕ) → line_at s at ≡ Some e → starts key (part s at e) ≡ true → number_of (part s (at + length key) e) ≡ w → option_and_then (λ x. cond (ltb m x) None (took x (e + 1))) w ≡ took v q → FieldRead s key at m v q
  num_go e (Some w) le st nu h = last_go e w (ltb m w) le st nu refl h
  num_go e None le st nu h = absurd (none-some _ h)

  key_go : (e : ℕ) (t : Bool) → line_at s at ≡ Some e → starts key (part s at e) ≡ t → cond t (option_and_then (λ x. cond (ltb m x) None (took x (e + 1))) (number_of (part s (at + length key) e))) None ≡ took v q → FieldRead s key at m v q
  key_go e true le st h = num_go e (number_of (part s (at + length key) e)) le st refl h
  key_go e false le st h = absurd (none-some _ h)

  line_go : (l : Option ℕ) → line_at s at ≡ l → option_and_then (λ e. cond (starts key (part s at e)) (option_and_then (λ x. cond (ltb m x) None (took x (e + 1))) (number_of (part s (at + length key) e))) None) l ≡ took v q → FieldRead s key at m v q
  line_go (Some e) le h = key_go e (starts key (part s at e)) le refl h
  line_go None le h = absurd (none-some _ h)

  -- WHAT IS READ IS A WRITTEN LINE
  pub field_sound : field_at s at key m ≡ took v q → FieldRead s key at m v q
  unfolding field_at
  field_sound h = line_go (line_at s at) refl h
