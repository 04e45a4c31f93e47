-- The tests over a whole list, as a loop over the places 0, 1, .. meets them. For each test a record says how far a loop has come:
-- what is left from place i on gives the answer `w` of the whole (`rest`). Its laws say how a loop starts, goes on by one place, and
-- ends early or at the list's end. `n` is the list's length, and the element at a place is `get_or l i z` for any z. Assumes nothing.
use Prim.Native.Nat.{ℕ, zero, suc, ◌+◌, ◌≤◌, ◌<◌}
use mathlib.Core.Path.{◌≡◌, refl, sym, ap, ◌∙◌}
use mathlib.Core.Bool.{Bool, true, false, cond, ◌&&◌, ◌||◌}
use mathlib.Core.List.{List, [], ◌∷◌}
use native.Mathlib.Numerals.{add-one}
use native.Mathlib.Omega.{arith}
use lib.ListN.{length, get_or, drop, drop_of_length-le}
use lib.Seq.{drop-cons}
use Rattle.manager.specs.Lists.{every, any, index_of, pairwise}

-- two tests, both true
pub and_first : (a b : Bool) → (a && b) ≡ true → a ≡ true
and_first true b e = refl
and_first false b e = e

pub and_second : (a b : Bool) → (a && b) ≡ true → b ≡ true
and_second true b e = e
and_second false b e = absurd (let z : ◌≡◌ {A = ℕ} 0 1 = cc in omega arith)

module _ {A : Type 0} where
  -- a place of a list has its element, whatever one past the end would be
  pub get_d_any : (l : List A) (i : ℕ) (x y : A) → i < length l → get_or l i x ≡ get_or l i y
  get_d_any [] i x y h = absurd (omega arith)
  get_d_any (a ∷ l) zero x y h = refl
  get_d_any (a ∷ l) (suc i) x y h = get_d_any l i x y (omega arith)

  -- the list from place i on
  pub rest_cons : (l : List A) (i : ℕ) (z : A) → i < length l → drop i l ≡ get_or l i z ∷ drop (i + 1) l
  rest_cons l i z h = rw (add-one i, drop-cons l i z h)

  module _ (t : A → Bool) (l : List A) (i : ℕ) where
    -- one place, and the end
    pub every_cons : (z : A) → i < length l → every t (drop i l) ≡ (t (get_or l i z) && every t (drop (i + 1) l))
    unfolding every
    every_cons z h = ap (every t) (rest_cons l i z h)

    pub every_none : length l ≤ i → every t (drop i l) ≡ true
    unfolding every
    every_none h = ap (every t) (drop_of_length-le l h)

    pub some_cons : (z : A) → i < length l → any t (drop i l) ≡ (t (get_or l i z) || any t (drop (i + 1) l))
    unfolding any
    some_cons z h = ap (any t) (rest_cons l i z h)

    pub some_none : length l ≤ i → any t (drop i l) ≡ false
    unfolding any
    some_none h = ap (any t) (drop_of_length-le l h)

    pub index_cons : (z : A) → i < length l
        → index_of t (drop i l) ≡ cond (t (get_or l i z)) 0 (suc (index_of t (drop (i + 1) l)))
    unfolding index_of
    index_cons z h = ap (index_of t) (rest_cons l i z h)

    pub index_none : length l ≤ i → index_of t (drop i l) ≡ 0
    unfolding index_of
    index_none h = ap (index_of t) (drop_of_length-le l h)

  module _ (t : A → A → Bool) (l : List A) (i : ℕ) where
    pub pairwise_cons : (z : A) → i < length l
        → pairwise t (drop i l) ≡ (every (t (get_or l i z)) (drop (i + 1) l) && pairwise t (drop (i + 1) l))
    unfolding pairwise
    pairwise_cons z h = ap (pairwise t) (rest_cons l i z h)

    pub pairwise_none : length l ≤ i → pairwise t (drop i l) ≡ true
    unfolding pairwise
    pairwise_none h = ap (pairwise t) (drop_of_length-le l h)

  -- HOW FAR A LOOP HAS COME
  -- every: no element before place i failed
  pub record Passing (t : A → Bool) (l : List A) (n : ℕ) (w : Bool) (i : ℕ) : Type 0 where
    pub size : length l ≡ n
    pub within : i ≤ n
    pub rest : every t (drop i l) ≡ w

  pub every_start : (t : A → Bool) (l : List A) (n : ℕ) → length l ≡ n → Passing t l n (every t l) 0
  every_start t l n e = record { size = e; within = omega arith; rest = refl }

  pub every_from : (t : A → Bool) (l : List A) (n k : ℕ) → length l ≡ n → k ≤ n → Passing t l n (every t (drop k l)) k
  every_from t l n k e h = record { size = e; within = h; rest = refl }

  module _ (t : A → Bool) (l : List A) (n : ℕ) (w : Bool) (i : ℕ) (v : Passing t l n w i) where
    pub every_next : i < n → (z : A) → t (get_or l i z) ≡ true → Passing t l n w (i + 1)
    every_next h z e =
        let c = every_cons t l i z (omega (arith, v.size)) in
        record { size = v.size; within = omega arith; rest = sym (rw e at c) ∙ v.rest }

    pub every_fail : i < n → (z : A) → t (get_or l i z) ≡ false → false ≡ w
    every_fail h z e = let c = every_cons t l i z (omega (arith, v.size)) in sym (rw e at c) ∙ v.rest

    -- the same, where the test was a call
    pub every_passed : i < n → (z : A) (b : Bool) → b ≡ t (get_or l i z) → b ≡ true → Passing t l n w (i + 1)
    every_passed h z b e g = every_next h z (sym e ∙ g)

    pub every_failed : i < n → (z : A) (b : Bool) → b ≡ t (get_or l i z) → b ≡ false → false ≡ w
    every_failed h z b e g = every_fail h z (sym e ∙ g)

    pub every_end : n ≤ i → true ≡ w
    every_end h = sym (every_none t l i (omega (arith, v.size))) ∙ v.rest

  -- some: no element before place i passed
  pub record Seeking (t : A → Bool) (l : List A) (n : ℕ) (w : Bool) (i : ℕ) : Type 0 where
    pub size : length l ≡ n
    pub within : i ≤ n
    pub rest : any t (drop i l) ≡ w

  pub some_start : (t : A → Bool) (l : List A) (n : ℕ) → length l ≡ n → Seeking t l n (any t l) 0
  some_start t l n e = record { size = e; within = omega arith; rest = refl }

  module _ (t : A → Bool) (l : List A) (n : ℕ) (w : Bool) (i : ℕ) (v : Seeking t l n w i) where
    pub some_next : i < n → (z : A) → t (get_or l i z) ≡ false → Seeking t l n w (i + 1)
    some_next h z e =
        let c = some_cons t l i z (omega (arith, v.size)) in
        record { size = v.size; within = omega arith; rest = sym (rw e at c) ∙ v.rest }

    pub some_here : i < n → (z : A) → t (get_or l i z) ≡ true → true ≡ w
    some_here h z e = let c = some_cons t l i z (omega (arith, v.size)) in sym (rw e at c) ∙ v.rest

    pub some_end : n ≤ i → false ≡ w
    some_end h = sym (some_none t l i (omega (arith, v.size))) ∙ v.rest

  -- index_of: the first that passes is not before place i
  pub record Placing (t : A → Bool) (l : List A) (n : ℕ) (w : ℕ) (i : ℕ) : Type 0 where
    pub size : length l ≡ n
    pub within : i ≤ n
    pub rest : i + index_of t (drop i l) ≡ w

  pub index_start : (t : A → Bool) (l : List A) (n : ℕ) → length l ≡ n → Placing t l n (index_of t l) 0
  index_start t l n e = record { size = e; within = omega arith; rest = omega arith }

  module _ (t : A → Bool) (l : List A) (n : ℕ) (w : ℕ) (i : ℕ) (v : Placing t l n w i) where
    pub index_next : i < n → (z : A) → t (get_or l i z) ≡ false → Placing t l n w (i + 1)
    index_next h z e =
        let c = index_cons t l i z (omega (arith, v.size)) in
        record { size = v.size; within = omega arith; rest = omega (arith, v.rest, rw e at c) }

    pub index_here : i < n → (z : A) → t (get_or l i z) ≡ true → i ≡ w
    index_here h z e = let c = index_cons t l i z (omega (arith, v.size)) in omega (arith, v.rest, rw e at c)

    pub index_missed : i < n → (z : A) (b : Bool) → b ≡ t (get_or l i z) → b ≡ false → Placing t l n w (i + 1)
    index_missed h z b e g = index_next h z (sym e ∙ g)

    pub index_found : i < n → (z : A) (b : Bool) → b ≡ t (get_or l i z) → b ≡ true → i ≡ w
    index_found h z b e g = index_here h z (sym e ∙ g)

    pub index_end : n ≤ i → i ≡ w
    index_end h = omega (arith, v.rest, index_none t l i (omega (arith, v.size)))

  -- pairwise: no element before place i failed with one behind it
  pub record Pairing (t : A → A → Bool) (l : List A) (n : ℕ) (w : Bool) (i : ℕ) : Type 0 where
    pub size : length l ≡ n
    pub within : i ≤ n
    pub rest : pairwise t (drop i l) ≡ w

  pub pairwise_start : (t : A → A → Bool) (l : List A) (n : ℕ) → length l ≡ n → Pairing t l n (pairwise t l) 0
  pairwise_start t l n e = record { size = e; within = omega arith; rest = refl }

  module _ (t : A → A → Bool) (l : List A) (n : ℕ) (w : Bool) (i : ℕ) (v : Pairing t l n w i) where
    pub pairwise_next : i < n → (z : A) (b : Bool) → b ≡ every (t (get_or l i z)) (drop (i + 1) l) → b ≡ true
        → Pairing t l n w (i + 1)
    pairwise_next h z b e g =
        let c = pairwise_cons t l i z (omega (arith, v.size)) in
        record { size = v.size; within = omega arith; rest = sym (rw (sym e ∙ g) at c) ∙ v.rest }

    pub pairwise_fail : i < n → (z : A) (b : Bool) → b ≡ every (t (get_or l i z)) (drop (i + 1) l) → b ≡ false → false ≡ w
    pairwise_fail h z b e g =
        let c = pairwise_cons t l i z (omega (arith, v.size)) in sym (rw (sym e ∙ g) at c) ∙ v.rest

    pub pairwise_end : n ≤ i → true ≡ w
    pairwise_end h = sym (pairwise_none t l i (omega (arith, v.size))) ∙ v.rest

  -- WHAT A TEST OVER THE LIST SAYS OF ONE ELEMENT
  pub every_at : (t : A → Bool) (l : List A) (i : ℕ) (z : A) → every t l ≡ true → i < length l → t (get_or l i z) ≡ true
  unfolding every
  every_at t [] i z e h = absurd (omega arith)
  every_at t (x ∷ l) zero z e h = and_first (t x) (every t l) e
  every_at t (x ∷ l) (suc i) z e h = every_at t l i z (and_second (t x) (every t l) e) (omega arith)

-- what is found passes the test
pub index_passes : {A : Type 0} (z : A) (t : A → Bool) (l : List A) → index_of t l < length l → t (get_or l (index_of t l) z) ≡ true
unfolding index_of
index_passes z t [] h = absurd (omega arith)
index_passes z t (x ∷ l) h = go (t x) refl h (λ u. index_passes z t l u)
  where
    go : (b : Bool) → t x ≡ b → cond b 0 (suc (index_of t l)) < suc (length l) → (index_of t l < length l → t (get_or l (index_of t l) z) ≡ true)
        → t (get_or (x ∷ l) (cond b 0 (suc (index_of t l))) z) ≡ true
    go true e h k = e
    go false e h k = k (omega arith)

-- and no later than any that passes
pub index_least : {A : Type 0} (z : A) (t : A → Bool) (l : List A) (i : ℕ) → i < length l → t (get_or l i z) ≡ true → index_of t l ≤ i
unfolding index_of
index_least z t [] i h e = absurd (omega arith)
index_least z t (x ∷ l) zero h e = rw e (omega arith)
index_least z t (x ∷ l) (suc i) h e = go (t x) (index_least z t l i (omega arith) e)
  where
    go : (b : Bool) → index_of t l ≤ i → cond b 0 (suc (index_of t l)) ≤ suc i
    go true k = omega arith
    go false k = omega arith

pub ruleset index_loop = (index_start, index_next, index_here, index_missed, index_found, index_end)
