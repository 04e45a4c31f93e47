-- Values in their words, one behind the other: what a loop over them has read or written when it has come to value k. Assumes nothing.
use mathlib.Core.Path.{◌≡◌, refl, ◌∙◌}
use mathlib.Core.List.{List, [], ◌++◌, append-nil}
use Prim.Native.Nat.{ℕ, suc, ◌+◌, ◌-◌, ◌≤◌, ◌<◌}
use native.Mathlib.Omega.{arith}
use native.Mathlib.Numerals.{add-one}
use borrow.Author.Tests.{le-leb, lt-leb}
use lib.ListN.{length, take, drop, set, length-set}
use lib.Seq.{take-suc-set, append_snoc, take_all}
use Rattle.std.proofs.Common.{Option, Some, None}
use Rattle.packing.specs.Packing.{before, all_said}

-- VALUES READ
module _ {A : Type 0} where
  abbrev onto : List A → Option (List A) → Option (List A)
  onto l None = None
  onto l (Some m) = Some (l ++ m)

  onto_none : (o : Option (List A)) → o ≡ onto [] o
  onto_none None = refl
  onto_none (Some m) = refl

  onto_next : (all : List A) (k : ℕ) (x : A) → k < length all → (o : Option (List A)) → onto (take k all) (before (Some x) o) ≡ onto (take (suc k) (set all k x)) o
  onto_next all k x h None = refl
  onto_next all k x h (Some m) = rw (take-suc-set all k x h, append_snoc) refl

  module _ (f : List ℕ → Option A) (size n : ℕ) (ws : List ℕ) where
    -- k values are read, and the rest of the words says the others
    pub record Reading (all : List A) (rest : List ℕ) (k : ℕ) : Type 0 where
      pub same : length all ≡ n
      pub said : all_said f size n ws ≡ onto (take k all) (all_said f size (n - k) rest)

    pub read_start : (all : List A) → length all ≡ n → Reading all ws 0
    read_start all h = let e : n - 0 ≡ n = omega arith in record { same = h; said = rw e (onto_none (all_said f size n ws)) }

    module _ (all : List A) (rest : List ℕ) (k : ℕ) (v : Reading all rest k) where
      pub read_end : n ≤ k → all_said f size n ws ≡ Some all
      unfolding all_said
      read_end h =
          let none : n - k ≡ 0 = omega arith in
          let whole : take k all ≡ all = take_all k all (omega (arith, v.same)) in
          rw (none, whole, append-nil) at v.said

      module _ (h : k < n) where
        left : n - k ≡ suc (n - suc k)
        left = omega arith

        pub read_short : length rest < size → all_said f size n ws ≡ None
        unfolding all_said
        read_short s = rw (left, lt-leb size (length rest) s) at v.said

        pub read_none : size ≤ length rest → f (take size rest) ≡ None → all_said f size n ws ≡ None
        unfolding all_said
        read_none s e = rw (left, le-leb size (length rest) s, e) at v.said

        pub read_next : size ≤ length rest → (x : A) → f (take size rest) ≡ Some x → Reading (set all k x) (drop size rest) (k + 1)
        unfolding all_said
        read_next s x e =
            record {
              same = simp length-set v.same;
              said = rw add-one ((rw (left, le-leb size (length rest) s, e) at v.said) ∙ onto_next all k x (omega (arith, v.same)) (all_said f size (n - suc k) (drop size rest)));
            }

pub ruleset reads = (read_start, read_end, read_short, read_none, read_next)
