-- How each definition of specs/Lines.antt goes one byte on, said at a position of the whole list, as the loops use it.
-- Assumes nothing.
use mathlib.Core.Path.{◌≡◌, refl, sym, ◌∙◌, ap}
use Prim.Native.Nat.{ℕ, zero, suc, ◌+◌, ◌-◌, ◌*◌, ◌≤◌, ◌<◌}
use mathlib.Core.Logic.{inl, inr}
use mathlib.Core.List.{List, [], ◌∷◌}
use mathlib.Core.Bool.{Bool, true, false, cond, not, ◌&&◌, true≢false}
use native.Mathlib.Numerals.{add-one}
use native.Mathlib.Omega.{arith}
use lib.ListN.{length, get_or, take, drop, drop_of_length-le, length-take, length-drop}
use Rattle.std.proofs.lemmas.List.{drop-take}
use lib.Seq.{drop-cons, drop-drop, take_all}
use lib.Dec.{eqb, ltb}
use borrow.Author.Tests.{eq-eqb, ne_eqb, eqb-true, lt-ltb, le-ltb}
use Rattle.std.specs.Prelude.{Option, Some, None, option_map}
use Rattle.std.specs.Char.{IsAsciiDigit, IsNotAsciiDigit}
use Rattle.std.specs.List.{position, position_or_len, slice_range, starts_with}
use Rattle.std.proofs.lemmas.Option.{none-some, same_Some}
use Rattle.text.specs.Lines.{number_after, number_of, line_from, line_at, starts, part, took, field_at}

-- ---- a line's end

-- the first newline among the first bytes, counted from where they start
line_go : (t : Bool) (p l : ℕ) (bs : List ℕ) (r : Option ℕ) → r ≡ cond (ltb l (length bs)) (Some (suc p + l)) None → cond t (Some p) r ≡ cond (ltb (cond (not t) (1 + l) 0) (suc (length bs))) (Some (p + cond (not t) (1 + l) 0)) None
line_go true p l bs r e = grind arith
line_go false p l bs r e = grind arith

line_is : (k p : ℕ) (bs : List ℕ) → line_from k p bs ≡ cond (ltb (position_or_len (λ b. eqb b 10) (take k bs)) (length (take k bs))) (Some (p + position_or_len (λ b. eqb b 10) (take k bs))) None
unfolding line_from
line_is zero p bs = refl
line_is (suc k) p [] = refl
line_is (suc k) p (b ∷ bs) = line_go (eqb b 10) p (position_or_len (λ c. eqb c 10) (take k bs)) (take k bs) (line_from k (suc p) bs) (line_is k (suc p) bs)

mapped : (t : Bool) (p l : ℕ) → cond t (Some (p + l)) None ≡ option_map (λ i. p + i) (cond t (Some l) None)
mapped true p l = refl
mapped false p l = refl

line_position : (s : List ℕ) (at : ℕ) → line_at s at ≡ option_map (λ i. at + i) (position (λ b. eqb b 10) (take 64 (drop at s)))
line_position s at = line_is 64 at (drop at s) ∙ mapped _ at _

-- the end of a line, by where the first newline is behind its start
pub line_out : (s : List ℕ) (at : ℕ) → length s ≤ at → None ≡ line_at s at
unfolding line_from
line_out s at h = rw (drop_of_length-le s {i = at} h)

module _ (s : List ℕ) (at : ℕ) {rest : List ℕ} (r : rest ≡ slice_range s at (length s)) where
  by_rest : line_at s at ≡ option_map (λ i. at + i) (position (λ b. eqb b 10) (take 64 rest))
  by_rest = line_position s at ∙ rw (r, take_all (length s - at) (drop at s) (omega (arith, length-drop at s)))

  pub line_missing : None ≡ position (λ b. eqb b 10) (take 64 rest) → None ≡ line_at s at
  line_missing h = sym (by_rest ∙ ap (option_map (λ i. at + i)) (sym h))

  pub line_ends : (n : ℕ) → Some n ≡ position (λ b. eqb b 10) (take 64 rest) → Some (at + n) ≡ line_at s at
  line_ends n h = sym (by_rest ∙ ap (option_map (λ i. at + i)) (sym h))

-- a line that ends does so at a newline among the bytes
pub record Found (bs : List ℕ) (p e : ℕ) : Type 0 where
  pub past : p ≤ e
  pub inside : e - p < length bs
  pub here : get_or bs (e - p) 0 ≡ 10

found_go : (b : ℕ) (bs : List ℕ) (k p e : ℕ) (t : Bool) → eqb b 10 ≡ t → cond t (Some p) (line_from k (suc p) bs) ≡ Some e → (line_from k (suc p) bs ≡ Some e → Found bs (suc p) e) → Found (b ∷ bs) p e
found_go b bs k p e true q h f =
    let s : p ≡ e = same_Some p e h in
    let z : e - p ≡ 0 = omega arith in
    record { past = omega arith; inside = omega arith; here = rw z (eqb-true b 10 q) }
found_go b bs k p e false q h f =
    let r = f h in
    let a = r.past in
    let i = r.inside in
    let z : e - p ≡ suc (e - suc p) = omega arith in
    record { past = omega arith; inside = omega arith; here = rw z r.here }

pub line_found : (bs : List ℕ) (k p e : ℕ) → line_from k p bs ≡ Some e → Found bs p e
unfolding line_from
line_found bs zero p e h = absurd (none-some e h)
line_found [] (suc k) p e h = absurd (none-some e h)
line_found (b ∷ bs) (suc k) p e h = found_go b bs k p e (eqb b 10) refl h (λ g. line_found bs k (suc p) e g)

-- the same at a position
pub line_within : (s : List ℕ) (at e : ℕ) → Some e ≡ line_at s at → (at ≤ e) × (e < length s)
line_within s at e h =
    let f = line_found (drop at s) 64 at e (sym h) in
    let a = f.past in
    let g : e - at < length s - at = rw length-drop at f.inside in
    (a, omega arith)

-- ---- a key

key_go : (t u r : Bool) → t ≡ u → (t && r) ≡ cond u r false
key_go true true r e = refl
key_go false false r e = refl
key_go true false r e = absurd (true≢false e)
key_go false true r e = absurd (true≢false (sym e))

-- the slice's own test
pub starts_same : (ks bs : List ℕ) → starts_with eqb bs ks ≡ starts ks bs
unfolding starts
starts_same [] bs = refl
starts_same (k ∷ ks) [] = refl
starts_same (k ∷ ks) (b ∷ bs) = rw (starts_same ks bs) (key_go (eqb k b) (eqb k b) (starts ks bs) refl)

-- the same where what it is given is the whole key
pub starts_whole : (ks p bs : List ℕ) (b : Bool) → p ≡ ks → b ≡ starts_with eqb bs p → b ≡ starts ks bs
starts_whole ks p bs b q e = e ∙ rw q (starts_same ks bs)

starts_go : (k b : ℕ) (ks bs : List ℕ) (t : Bool) → cond t (starts ks bs) false ≡ true → (starts ks bs ≡ true → length ks ≤ length bs) → length (k ∷ ks) ≤ length (b ∷ bs)
starts_go k b ks bs true e f = let h : length ks ≤ length bs = f e in omega arith
starts_go k b ks bs false e f = absurd (true≢false (sym e))

-- what starts with ks is as long
pub starts_long : (ks bs : List ℕ) → starts ks bs ≡ true → length ks ≤ length bs
unfolding starts
starts_long [] bs e = omega arith
starts_long (k ∷ ks) [] e = absurd (true≢false (sym e))
starts_long (k ∷ ks) (b ∷ bs) e = starts_go k b ks bs (eqb k b) e (λ u. starts_long ks bs u)

-- and what is shorter does not start with it
short_go : (t r : Bool) → false ≡ r → false ≡ cond t r false
short_go true r e = e
short_go false r e = refl

pub starts_short : (ks bs : List ℕ) → length bs < length ks → false ≡ starts ks bs
unfolding starts
starts_short [] bs h = absurd (omega arith)
starts_short (k ∷ ks) [] h = refl
starts_short (k ∷ ks) (b ∷ bs) h = short_go (eqb k b) (starts ks bs) (starts_short ks bs (omega arith))

pub ruleset starting = (starts_whole, starts_short, take_all)

-- the same of a part, and of the rest from a position on
pub starts_part : (ks s : List ℕ) (at e : ℕ) → at ≤ e → starts ks (part s at e) ≡ true → at + length ks ≤ e
starts_part ks s at e h u =
    let g : length ks ≤ length (part s at e) = starts_long ks (part s at e) u in
    let l = length-take (e - at) (drop at s) in
    omega arith

pub starts_fits : (ks s : List ℕ) (at : ℕ) → at ≤ length s → starts ks (drop at s) ≡ true → at + length ks ≤ length s
starts_fits ks s at h e = let g : length ks ≤ length s - at = rw length-drop at (starts_long ks (drop at s) e) in omega arith

-- ---- a number

pub num_end : (s : List ℕ) (a i : ℕ) → length s ≤ i → number_after a (drop i s) ≡ Some a
unfolding number_after
num_end s a i h = rw (drop_of_length-le s {i = i} h)

module _ (s : List ℕ) (a i : ℕ) (h : i < length s) where
  pub num_low : get_or s i 0 < 48 → number_after a (drop i s) ≡ None
  unfolding number_after
  num_low l = rw (drop-cons s i 0 h, lt-ltb _ _ l)

  pub num_high : 57 < get_or s i 0 → number_after a (drop i s) ≡ None
  unfolding number_after
  num_high l = rw (drop-cons s i 0 h, le-ltb (get_or s i 0) 48 (omega arith), lt-ltb _ _ l)

  pub num_over : 48 ≤ get_or s i 0 → get_or s i 0 ≤ 57 → 4294967295 < a * 10 + (get_or s i 0 - 48) → number_after a (drop i s) ≡ None
  unfolding number_after
  num_over l m o = rw (drop-cons s i 0 h, le-ltb _ _ l, le-ltb _ _ m, lt-ltb _ _ o)

  pub num_more : 48 ≤ get_or s i 0 → get_or s i 0 ≤ 57 → a * 10 + (get_or s i 0 - 48) ≤ 4294967295 → number_after a (drop i s) ≡ number_after (a * 10 + (get_or s i 0 - 48)) (drop (i + 1) s)
  unfolding number_after
  num_more l m o = rw (drop-cons s i 0 h, le-ltb _ _ l, le-ltb _ _ m, le-ltb _ _ o, add-one)

pub number_none : (s : List ℕ) → length s ≡ 0 → number_of s ≡ None
unfolding number_of
number_none [] h = refl
number_none (b ∷ bs) h = absurd (omega arith)

-- one digit alone may be zero
pub number_one : (s : List ℕ) → 0 < length s → length s ≤ 1 → number_of s ≡ number_after 0 s
unfolding number_of
number_one [] h g = absurd (omega arith)
number_one (b ∷ []) h g = refl
number_one (b ∷ c ∷ bs) h g = absurd (omega arith)

pub number_zero : (s : List ℕ) → 1 < length s → get_or s 0 0 ≡ 48 → number_of s ≡ None
unfolding number_of
number_zero [] h e = absurd (omega arith)
number_zero (b ∷ []) h e = absurd (omega arith)
number_zero (b ∷ c ∷ bs) h e = rw (eq-eqb b 48 e)

pub number_many : (s : List ℕ) → 1 < length s → (get_or s 0 0 ≡ 48 → ⊥) → number_of s ≡ number_after 0 s
unfolding number_of
number_many [] h e = absurd (omega arith)
number_many (b ∷ []) h e = absurd (omega arith)
number_many (b ∷ c ∷ bs) h e = rw (ne_eqb b 48 e)

-- ---- the loop of `number`: the digits before i have been read, as a

pub record NumberLeft (s : List ℕ) (a i : ℕ) : Type 0 where
  pub rest : number_of s ≡ number_after a (drop i s)
  pub passed : i ≤ length s
  pub small : a ≤ 4294967295

pub left_one : (s : List ℕ) → 0 < length s → length s ≤ 1 → NumberLeft s 0 0
left_one s h g = record { rest = number_one s h g; passed = omega arith; small = omega arith }

pub left_many : (s : List ℕ) → 1 < length s → (get_or s 0 0 ≡ 48 → ⊥) → NumberLeft s 0 0
left_many s h e = record { rest = number_many s h e; passed = omega arith; small = omega arith }

module _ {s : List ℕ} {a i : ℕ} (n : NumberLeft s a i) where
  pub number_end : length s ≤ i → Some a ≡ number_of s
  number_end h = sym (n.rest ∙ num_end s a i h)

  module _ (h : i < length s) where
    pub number_bad : IsNotAsciiDigit (get_or s i 0) → None ≡ number_of s
    number_bad (inl l) = sym (n.rest ∙ num_low s a i h l)
    number_bad (inr m) = sym (n.rest ∙ num_high s a i h m)

    module _ (d : IsAsciiDigit (get_or s i 0)) where
      pub number_over : (a * 10 + (get_or s i 0 - 48) < 4294967296 → ⊥) → None ≡ number_of s
      number_over o = sym (n.rest ∙ num_over s a i h d.0 (omega arith) (omega arith))

      pub number_more : (b : ℕ) → b ≡ a * 10 + (get_or s i 0 - 48) → b < 4294967296 → NumberLeft s b (i + 1)
      number_more b e o = record { rest = n.rest ∙ num_more s a i h d.0 (omega arith) (omega arith) ∙ rw e; passed = omega arith; small = omega arith }

-- ---- a line of a key and a number: each way through `field_at`

module _ (s key : List ℕ) (at most : ℕ) where
  pub field_never : None ≡ line_at s at → None ≡ field_at s at key most
  unfolding field_at
  field_never l = rw (← l)

  module _ (e : ℕ) (l : Some e ≡ line_at s at) where
    pub field_key : false ≡ starts key (part s at e) → None ≡ field_at s at key most
    unfolding field_at
    field_key k = rw (← l, ← k)

    module _ (k : true ≡ starts key (part s at e)) where
      pub field_fits : at + length key ≤ e
      field_fits = starts_part key s at e (line_within s at e l).0 (sym k)

      pub field_not : None ≡ number_of (part s (at + length key) e) → None ≡ field_at s at key most
      unfolding field_at
      field_not n = rw (← l, ← k, ← n)

      module _ (v : ℕ) (n : Some v ≡ number_of (part s (at + length key) e)) where
        pub field_over : most < v → None ≡ field_at s at key most
        unfolding field_at
        field_over h = rw (← l, ← k, ← n, lt-ltb most v h)

        pub field_took : v ≤ most → took v (e + 1) ≡ field_at s at key most
        unfolding field_at
        field_took h = rw (← l, ← k, ← n, le-ltb most v h)
