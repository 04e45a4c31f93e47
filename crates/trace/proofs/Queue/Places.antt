-- The record's array of places: waiters in front, unused places behind. What entering, removing, seeking, ageing and the tests over all
-- places come to, said of the waiters alone. Assumes nothing.
use mathlib.Core.Path.{◌≡◌, refl, sym, ap, ◌∙◌}
use mathlib.Core.Bool.{Bool, true, false, cond, ◌||◌}
use mathlib.Core.List.{List, [], ◌∷◌, ◌++◌, append_assoc}
use mathlib.Core.Logic.{inl, inr}
use Prim.Native.Nat.{ℕ, zero, suc, ◌+◌, ◌-◌, ◌≤◌, ◌<◌}
use native.Mathlib.Omega.{arith}
use lib.ListN.{length, replicate, length-append, replicate-append-replicate}
use lib.Seq.{take-append_seam, drop-append_seam}
use Rattle.manager.specs.Record.{no_waiter}
use Rattle.manager.specs.Result.{pad}
use Rattle.manager.specs.Lists.{every, any, index_of, pairwise, adjacent, In}
use Rattle.manager.specs.Queue.{goes_before, insert, remove_at}
use Rattle.manager.proofs.Laws.Queue as places
use Rattle.manager.specs.declared.Waiter.{Waiter}
use Rattle.manager.specs.declared.Order.{Order}
use Rattle.manager.proofs.Laws.Lists.{and_first, and_second}
use Rattle.manager.proofs.Laws.Appended.{by_case}
use Rattle.trace.specs.Queue.{insert_by}
use Rattle.trace.proofs.Queue.Line.{true_false, keep, in_append}

-- ONE ENTERED
enter_insert : (o : Order) (w : Waiter) (l : List Waiter) → places.enter o w l ≡ insert_by (goes_before o) w l
unfolding places.enter insert_by
enter_insert o w [] = refl
enter_insert o w (x ∷ l) = ap (λ (r : List Waiter). cond (goes_before o w x) (w ∷ x ∷ l) (x ∷ r)) (enter_insert o w l)

pub insert_pad : (o : Order) (n : ℕ) (w : Waiter) (l : List Waiter) → length l < n
    → insert o w (pad n no_waiter l) ≡ pad n no_waiter (insert_by (goes_before o) w l)
insert_pad o n w l h = places.insert_pad o w n l h ∙ ap (pad n no_waiter) (enter_insert o w l)

-- ONE REMOVED: an unused place more
pub remove_pad : (n : ℕ) (a : List Waiter) (x : Waiter) (b : List Waiter) → length (a ++ (x ∷ b)) ≤ n
    → remove_at (length a) (pad n no_waiter (a ++ (x ∷ b))) ≡ pad n no_waiter (a ++ b)
unfolding remove_at
remove_pad n a x b h =
    let r = replicate (n - length (a ++ (x ∷ b))) no_waiter in
    let e : pad n no_waiter (a ++ (x ∷ b)) ≡ a ++ (x ∷ (b ++ r)) = append_assoc a (x ∷ b) r in
    let f : n - length (a ++ (x ∷ b)) + 1 ≡ n - length (a ++ b) = omega (arith, length-append a (x ∷ b), length-append a b) in
    rw (e, take-append_seam a (x ∷ (b ++ r)), drop-append_seam a (x ∷ (b ++ r)))
    (rw (append_assoc b r (no_waiter ∷ []), replicate-append-replicate (n - length (a ++ (x ∷ b))) 1 no_waiter, f) (sym (append_assoc a b _)))

-- THE FIRST THAT PASSES A TEST, and those before and behind it
module _ {A : Type 0} (p : A → Bool) where
  pub record First (l : List A) (x : A) (ks : List A) : Type 0 where
    pub front : List A
    pub rest : List A
    pub split : l ≡ front ++ (x ∷ rest)
    pub passes : p x ≡ true
    pub before : keep p front ≡ []
    pub after : keep p rest ≡ ks

  pub first_is : (l : List A) (x : A) (ks : List A) → keep p l ≡ x ∷ ks → First l x ks
  unfolding keep
  first_is [] x ks e = absurd (let z : ◌≡◌ {A = ℕ} 0 1 = cc in omega arith)
  first_is (y ∷ l) x ks e =
      by_case (p y) (λ t. p y ≡ t → cond t (y ∷ keep p l) (keep p l) ≡ x ∷ ks → First (y ∷ l) x ks)
      (λ t e f. let g : y ≡ x = cc in
      record { front = []; rest = l; split = ap (λ (z : A). z ∷ l) g; passes = ap p (sym g) ∙ t; before = refl; after = cc })
      (λ n e f. let ih = first_is l x ks f in
      record {
        front = y ∷ ih.front;
        rest = ih.rest;
        split = ap (◌∷◌ y) ih.split;
        passes = ih.passes;
        before = rw n ih.before;
        after = ih.after;
      })
      refl e

  pub first_at : (a : List A) (x : A) (b : List A) → keep p a ≡ [] → p x ≡ true → index_of p (a ++ (x ∷ b)) ≡ length a
  unfolding keep index_of
  first_at [] x b e f = rw f
  first_at (y ∷ a) x b e f =
      by_case (p y) (λ t. cond t (y ∷ keep p a) (keep p a) ≡ [] → cond t 0 (suc (index_of p (a ++ (x ∷ b)))) ≡ suc (length a))
      (λ t g. absurd (let z : ◌≡◌ {A = ℕ} 0 1 = cc in omega arith))
      (λ n g. ap suc (first_at a x b g f))
      e

  pub first_none : (l : List A) → keep p l ≡ [] → index_of p l ≡ length l
  unfolding keep index_of
  first_none [] e = refl
  first_none (y ∷ l) e =
      by_case (p y) (λ t. cond t (y ∷ keep p l) (keep p l) ≡ [] → cond t 0 (suc (index_of p l)) ≡ suc (length l))
      (λ t f. absurd (let z : ◌≡◌ {A = ℕ} 0 1 = cc in omega arith))
      (λ n f. ap suc (first_none l f))
      e

  -- none of many alike that fail
  pub keep_replicate : (k : ℕ) (z : A) → p z ≡ false → keep p (replicate k z) ≡ []
  unfolding keep
  keep_replicate zero z e = refl
  keep_replicate (suc k) z e = rw e (keep_replicate k z e)

-- TESTS OVER ALL PLACES
module _ {A : Type 0} where
  pub every_in : (t : A → Bool) (l : List A) → ((x : A) → In x l → t x ≡ true) → every t l ≡ true
  unfolding every In
  every_in t [] h = refl
  every_in t (x ∷ l) h = rw (h x (inl refl)) (every_in t l (λ y k. h y (inr k)))

  pub some_in : (t : A → Bool) (l : List A) (x : A) → In x l → t x ≡ true → any t l ≡ true
  unfolding any In
  some_in t [] x h e = absurd h
  some_in t (y ∷ l) x (inl f) e = rw (ap t f ∙ e)
  some_in t (y ∷ l) x (inr k) e = or_true (t y) (some_in t l x k e)
    where
      or_true : (b : Bool) → any t l ≡ true → (b || any t l) ≡ true
      or_true true h = refl
      or_true false h = h

  pub in_some : (t : A → Bool) (l : List A) → any t l ≡ true → (x : A) × In x l × (t x ≡ true)
  unfolding any In
  in_some t [] e = absurd (true_false false e refl)
  in_some t (y ∷ l) e =
      by_case (t y) (λ b. (b || any t l) ≡ true → t y ≡ b → (x : A) × In x (y ∷ l) × (t x ≡ true))
      (λ f k b. (y, inl refl, f))
      (λ f k b. let r = in_some t l k in (r.0, inr r.1, r.2))
      e refl

  pub in_replicate : (k : ℕ) (z x : A) → In x (replicate k z) → z ≡ x
  unfolding In
  in_replicate zero z x h = absurd h
  in_replicate (suc k) z x (inl e) = e
  in_replicate (suc k) z x (inr h) = in_replicate k z x h

  -- nobody goes before the one in front of him, and unused places go behind all
  pub adjacent_pad : (t : A → A → Bool) (z : A) → ((x : A) → t x z ≡ true) → (l : List A) (k : ℕ) → adjacent t l ≡ true
      → adjacent t (l ++ replicate k z) ≡ true
  unfolding adjacent
  adjacent_pad t z h [] zero e = refl
  adjacent_pad t z h [] (suc zero) e = refl
  adjacent_pad t z h [] (suc (suc k)) e = rw (h z) (adjacent_pad t z h [] (suc k) refl)
  adjacent_pad t z h (x ∷ []) zero e = refl
  adjacent_pad t z h (x ∷ []) (suc k) e = rw (h x) (adjacent_pad t z h [] (suc k) refl)
  adjacent_pad t z h (x ∷ y ∷ l) k e =
      rw (and_first (t x y) (adjacent t (y ∷ l)) e) (adjacent_pad t z h (y ∷ l) k (and_second (t x y) (adjacent t (y ∷ l)) e))

  pub in_every : (t : A → Bool) (l : List A) → every t l ≡ true → (x : A) → In x l → t x ≡ true
  unfolding every In
  in_every t [] e x h = absurd h
  in_every t (y ∷ l) e x (inl f) = ap t (sym f) ∙ and_first (t y) (every t l) e
  in_every t (y ∷ l) e x (inr k) = in_every t l (and_second (t y) (every t l) e) x k

  pub pairwise_pad : (t : A → A → Bool) (z : A) → ((x : A) → t z x ≡ true) → (l : List A) (k : ℕ) → pairwise t l ≡ true
      → ((x : A) → In x l → t x z ≡ true) → pairwise t (l ++ replicate k z) ≡ true
  unfolding pairwise In
  pairwise_pad t z h [] zero e f = refl
  pairwise_pad t z h [] (suc k) e f = rw (every_in (t z) (replicate k z) (λ x m. h x)) (pairwise_pad t z h [] k refl f)
  pairwise_pad t z h (x ∷ l) k e f =
      let p = and_first (every (t x) l) (pairwise t l) e in
      rw (every_in (t x) (l ++ replicate k z) (λ y m. elim ((in_append y l (replicate k z)).0 m) [
        | inl i ↦ in_every (t x) l p y i
        | inr i ↦ ap (t x) (sym (in_replicate k z y i)) ∙ f x (inl refl)
      ])) (pairwise_pad t z h l k (and_second (every (t x) l) (pairwise t l) e) (λ y m. f y (inr m)))
