-- How the definitions of specs/Reading.antt go on by one call or key, as the code's search and loop use them; and each way through
-- `read_call`. Assumes nothing.
use mathlib.Core.Path.{◌≡◌, refl, sym, ◌∙◌, ap, subst}
use Prim.Native.Nat.{ℕ, suc, ◌+◌, ◌-◌, ◌≤◌, ◌<◌}
use mathlib.Core.List.{List, [], ◌∷◌, ◌++◌, map}
use mathlib.Core.Bool.{Bool, true, false, cond}
use native.Mathlib.Numerals.{add-one}
use native.Mathlib.Omega.{arith}
use lib.ListN.{length, get_or, take, drop, drop_of_length-le, length-drop}
use lib.Seq.{drop-cons, take_all}
use lib.Dec.{eqb, leb}
use borrow.Author.Tests.{le-leb, lt-leb, leb-true}
use Rattle.std.specs.Prelude.{Option, Some, None, option_map, Result, Ok, Err}
use Rattle.std.specs.List.{find, starts_with, slice_range}
use Rattle.std.proofs.lemmas.Option.{none-some, same_Some}
use Rattle.std.proofs.lemmas.List.{length-map, get_or-map}
use Rattle.text.specs.Lines.{starts}
use Rattle.text.specs.declared.Entry.{Entry}
use Rattle.text.proofs.Laws.{starts_same, starts_fits}
use Rattle.script.specs.Table.{Key, no_key, Row, calls, no_row}
use Rattle.script.specs.Shown.{shown, key_shown}
use Rattle.script.specs.Reading.{find_row, key_at, Numbers, numbers, wrong, numbers_from, found, bad_at, no_more, on_numbers, on_row, fields_of, read_call}
use Rattle.script.specs.declared.table.Key.{Key as CodeKey}
use Rattle.script.specs.declared.table.Row.{Row as CodeRow}
use Rattle.script.specs.declared.BadLine.{BadLine}
use Rattle.manager.specs.declared.Call.{Call}
use Rattle.script.proofs.Computed.{all_upto, all_upto_lem}
use Rattle.script.proofs.Rows.{whole}

-- ---- the call's row

find_go : (q r : Row) (rs : List Row) (bs : List ℕ) (t : Bool) → starts q.line bs ≡ t → cond t (Some q) (find_row rs bs) ≡ Some r → (find_row rs bs ≡ Some r → starts r.line bs ≡ true) → starts r.line bs ≡ true
find_go q r rs bs true e h f = ap (λ (x : Row). starts x.line bs) (sym (same_Some q r h)) ∙ e
find_go q r rs bs false e h f = f h

-- the line of the call that was found is there
pub find_starts : (rs : List Row) (bs : List ℕ) (r : Row) → find_row rs bs ≡ Some r → starts r.line bs ≡ true
unfolding find_row
find_starts [] bs r h = absurd (none-some r h)
find_starts (q ∷ rs) bs r h = find_go q r rs bs (starts q.line bs) refl h (λ g. find_starts rs bs r g)

-- the row that is found is one of the table
pub record Placed (rs : List Row) (r : Row) : Type 0 where
  pub place : ℕ
  pub known : place < length rs
  pub is : get_or rs place no_row ≡ r

placed_go : (q r : Row) (rs : List Row) (bs : List ℕ) (t : Bool) → cond t (Some q) (find_row rs bs) ≡ Some r → (find_row rs bs ≡ Some r → Placed rs r) → Placed (q ∷ rs) r
placed_go q r rs bs true h f = record { place = 0; known = omega arith; is = same_Some q r h }
placed_go q r rs bs false h f =
    let p = f h in
    let k = p.known in
    record { place = suc p.place; known = omega arith; is = p.is }

pub placed : (rs : List Row) (bs : List ℕ) (r : Row) → find_row rs bs ≡ Some r → Placed rs r
unfolding find_row
placed [] bs r h = absurd (none-some r h)
placed (q ∷ rs) bs r h = placed_go q r rs bs (starts q.line bs) h (λ g. placed rs bs r g)

-- what the code's search finds
shown_go : (t : Bool) (r : CodeRow) (o : Option CodeRow) → option_map shown (cond t (Some r) o) ≡ cond t (Some (shown r)) (option_map shown o)
shown_go true r o = refl
shown_go false r o = refl

find_shown : (rs : List CodeRow) (bs : List ℕ) → option_map shown (find (λ r. starts_with eqb bs r.line.now) rs) ≡ find_row (map shown rs) bs
unfolding find_row
find_shown [] bs = refl
find_shown (r ∷ rs) bs = shown_go (starts_with eqb bs r.line.now) r (find (λ q. starts_with eqb bs q.line.now) rs) ∙ rw (starts_same r.line.now bs, find_shown rs bs)

-- ---- the lines of the keys

module _ (s vs : List ℕ) (p i : ℕ) (ks : List Key) where
  numbers_end : length ks ≤ i → numbers_from s vs p (drop i ks) ≡ numbers vs p
  unfolding numbers_from
  numbers_end h = rw (drop_of_length-le ks {i = i} h)

  numbers_bad : i < length ks → key_at s p (get_or ks i no_key) ≡ None → numbers_from s vs p (drop i ks) ≡ wrong p
  unfolding numbers_from
  numbers_bad h k = rw (drop-cons ks i no_key h, k)

  numbers_more : (e : Entry) → i < length ks → key_at s p (get_or ks i no_key) ≡ Some e → numbers_from s vs p (drop i ks) ≡ numbers_from s (vs ++ (e.value ∷ [])) e.next (drop (i + 1) ks)
  unfolding numbers_from
  numbers_more e h k = rw (drop-cons ks i no_key h, k, add-one)

-- ---- the loop of `read_fields`: what is left to read after i of the keys

module _ (s vs : List ℕ) (p i : ℕ) (ks : List CodeKey) {all : Numbers} (r : all ≡ numbers_from s vs p (drop i (map key_shown ks))) where
  pub fields_all : length ks ≤ i → numbers vs p ≡ all
  fields_all h = sym (r ∙ numbers_end s vs p i (map key_shown ks) (omega (arith, length-map ks key_shown)))

  module _ (h : i < length ks) (d : CodeKey) where
    key_there : get_or (map key_shown ks) i no_key ≡ key_shown (get_or ks i d)
    key_there = get_or-map key_shown ks i d no_key h

    pub fields_wrong : None ≡ key_at s p (key_shown (get_or ks i d)) → wrong p ≡ all
    fields_wrong n = sym (r ∙ numbers_bad s vs p i (map key_shown ks) (omega (arith, length-map ks key_shown)) (rw key_there (sym n)))

    pub fields_more : (e : Entry) → Some e ≡ key_at s p (key_shown (get_or ks i d)) → all ≡ numbers_from s (vs ++ (e.value ∷ [])) e.next (drop (i + 1) (map key_shown ks))
    fields_more e n = r ∙ numbers_more s vs p i (map key_shown ks) e (omega (arith, length-map ks key_shown)) (rw key_there (sym n))

-- ---- a call

pub read_end : (s : List ℕ) (at : ℕ) → length s ≤ at → read_call s at ≡ no_more
unfolding read_call
read_end s at h = rw (le-leb (length s) at h)

pub read_row : (s : List ℕ) (at : ℕ) → at < length s → read_call s at ≡ on_row (find_row calls (drop at s)) s at
unfolding read_call
read_row s at h = rw (lt-leb (length s) at h)

-- no call has more than eight keys
few : (k : ℕ) → k < length calls → length (get_or calls k no_row).keys ≤ 8
unfolding all_upto
few k h = leb-true _ _ (all_upto_lem (length calls) (λ j. leb (length (get_or calls j no_row).keys) 8) refl k h)

-- what `read_call` answers, from what its search found in the code's rows

module _ (s : List ℕ) (at : ℕ) (i : at < length s) (rows : List CodeRow) (t : map shown rows ≡ calls) where
  searched : (rest : List ℕ) → rest ≡ slice_range s at (length s) → option_map shown (find (λ r. starts_with eqb rest r.line.now) rows) ≡ find_row calls (drop at s)
  searched rest e = find_shown rows rest ∙ rw (t, e, take_all (length s - at) (drop at s) (omega (arith, length-drop at s)))

  module _ (rest : List ℕ) (e : rest ≡ slice_range s at (length s)) where
    pub answers_none : None ≡ find (λ r. starts_with eqb rest r.line.now) rows → bad_at at ≡ read_call s at
    answers_none n = sym (read_row s at i ∙ rw (← (searched rest e), ← n))

    module _ (r : CodeRow) (f : Some r ≡ find (λ q. starts_with eqb rest q.line.now) rows) where
      there : find_row calls (drop at s) ≡ Some (shown r)
      there = sym (searched rest e) ∙ ap (option_map shown) (sym f)

      pub row_fits : at + length r.line.now ≤ length s
      row_fits = starts_fits r.line.now s at (omega arith) (find_starts calls (drop at s) (shown r) there)

      pub row_few : length r.keys.now ≤ 8
      row_few =
          let p = placed calls (drop at s) (shown r) there in
          let l = length-map r.keys.now key_shown in
          let h : length (shown r).keys ≤ 8 = subst (λ (q : Row). length q.keys ≤ 8) p.is (few p.place p.known) in
          omega arith

      module _ (x : Result ℕ BadLine) (out : List ℕ) (n : fields_of x out (length r.keys.now) ≡ numbers_from s [] (at + length r.line.now) (map key_shown r.keys.now)) where
        by_fields : read_call s at ≡ on_numbers (fields_of x out (length r.keys.now)) (shown r)
        by_fields = read_row s at i ∙ rw (there, ← n)

        pub answers_wrong : (b : BadLine) → x ≡ Err b → Err b ≡ read_call s at
        answers_wrong b h = sym (by_fields ∙ rw h)

        -- the numbers are the first of eight
        pub answers_call : (q : ℕ) (c : Call) → x ≡ Ok q → length out ≡ 8 → c ≡ (shown r).call out → found c r.six_values q ≡ read_call s at
        answers_call q c h l g =
            let p = placed calls (drop at s) (shown r) there in
            let w : (shown r).call (take (length (shown r).keys) out) ≡ (shown r).call out = subst (λ (y : Row). y.call (take (length y.keys) out) ≡ y.call out) p.is (whole p.place p.known out l) in
            let m : length r.keys.now ≡ length (shown r).keys = sym (length-map r.keys.now key_shown) in
            sym (by_fields ∙ rw (h, m, w, ← g))
