-- An array of n places that is filled from the front: k places are done, the others are z, and `left` is what is yet to come of
-- `whole`. Laws: how filling starts, how one place is put, and what the array is when nothing is left. Assumes nothing.
use mathlib.Core.Path.{◌≡◌, refl, ap, sym, ◌∙◌}
use mathlib.Core.List.{List, [], ◌∷◌, ◌++◌, append-nil}
use Prim.Native.Nat.{ℕ, zero, suc, ◌+◌, ◌-◌, ◌≤◌, ◌<◌}
use native.Mathlib.Numerals.{add-one}
use native.Mathlib.Omega.{arith}
use lib.ListN.{length, take, drop, set, replicate, length-append, length-set, length-replicate, take-append-drop}
use lib.Seq.{take-suc-set, drop-set-lt, append_snoc, length-take-le, take_all, take_at, drop_at}
use Rattle.manager.specs.Result.{pad}

pub record Filling {A : Type 0} (z : A) (n : ℕ) (b : List A) (k : ℕ) (left whole : List A) : Type 0 where
  pub size : length b ≡ n
  pub within : k ≤ n
  pub room : drop k b ≡ replicate (n - k) z
  pub done : take k b ++ left ≡ whole

abbrev tail : {A : Type 0} → List A → List A
tail [] = []
tail (x ∷ xs) = xs

drop_tail : {A : Type 0} (n : ℕ) (l : List A) → drop (suc n) l ≡ tail (drop n l)
drop_tail zero [] = refl
drop_tail zero (x ∷ xs) = refl
drop_tail (suc n) [] = refl
drop_tail (suc n) (x ∷ xs) = drop_tail n xs

tail_replicate : {A : Type 0} (z : A) (n m : ℕ) → n ≡ suc m → tail (replicate n z) ≡ replicate m z
tail_replicate z n m e = rw e

module _ {A : Type 0} (z : A) (n : ℕ) where
  -- nothing is done
  pub fill_start : (l : List A) → Filling z n (replicate n z) 0 l l
  fill_start l =
      let e : n ≡ n - 0 = omega arith in
      record { size = length-replicate n z; within = omega arith; room = ap (λ (k : ℕ). replicate k z) e; done = refl }

  -- some are done already: the array has them and nothing else
  pub fill_from : (b : List A) (k : ℕ) (ns : List A) → b ≡ pad n z ns → k ≡ length ns → k ≤ n → (left : List A) → Filling z n b k left (ns ++ left)
  fill_from b k ns e f h left =
      let w = ap (drop k) e ∙ drop_at ns (replicate (n - length ns) z) k (sym f) in
      let t = ap (take k) e ∙ take_at ns (replicate (n - length ns) z) k (sym f) in
      record {
        size = ap length e ∙ length-append ns (replicate (n - length ns) z) ∙ omega (arith, length-replicate (n - length ns) z);
        within = h;
        room = w ∙ ap (λ (j : ℕ). replicate (n - j) z) (sym f);
        done = ap (λ (l : List A). l ++ left) t;
      }

  -- one place is put
  pub fill_put : (b : List A) (k : ℕ) (x : A) (left whole : List A) → k < n → Filling z n b k (x ∷ left) whole → Filling z n (set b k x) (k + 1) left whole
  fill_put b k x left whole h f =
      let h' : k < length b = omega (arith, f.size) in
      record {
        size = simp length-set f.size;
        within = omega arith;
        room = rw (add-one, drop-set-lt (suc k) b k x (omega arith), drop_tail k b, f.room) (tail_replicate z (n - k) (n - suc k) (omega arith));
        done = rw (add-one, take-suc-set b k x h', append_snoc) f.done;
      }

  -- nothing is left: so many are done, and the array is the padded whole
  pub fill_count : (b : List A) (k : ℕ) (whole : List A) → Filling z n b k [] whole → k ≡ length whole
  fill_count b k whole f = rw (← f.done, append-nil) (sym (length-take-le k b (omega (arith, f.size, f.within))))

  pub fill_end : (b : List A) (k : ℕ) (whole : List A) → Filling z n b k [] whole → b ≡ pad n z whole
  fill_end b k whole f =
      let e : take k b ≡ whole = sym (append-nil (take k b)) ∙ f.done in
      sym (take-append-drop k b) ∙ rw (f.room, e, fill_count b k whole f)

  -- no place is left: the array is the whole
  pub fill_full : (b : List A) (k : ℕ) (whole : List A) → Filling z n b k [] whole → n ≤ k → b ≡ whole
  fill_full b k whole f h = sym (take_all k b (omega (arith, f.size))) ∙ sym (append-nil (take k b)) ∙ f.done
