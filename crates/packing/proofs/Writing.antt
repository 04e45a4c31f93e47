-- Values written into their words, one behind the other: a loop over them that has come to value k. Assumes nothing.
use mathlib.Core.Path.{◌≡◌, refl, ap, sym, ◌∙◌}
use mathlib.Core.List.{List, [], ◌∷◌, ◌++◌, append-nil, append_assoc}
use Prim.Native.Nat.{ℕ, ◌+◌, ◌*◌, ◌≤◌, ◌<◌}
use native.Mathlib.Omega.{arith}
use lib.ListN.{length, take, get_or}
use lib.Seq.{take_all}
use Rattle.std.proofs.lemmas.List.{take_more}
use Rattle.std.proofs.lemmas.Slice.{take-put_mid}
use borrow.Rule.Slice.PartMut.{put_mid}
use Rattle.std.proofs.Math.Nat.{mul-le-mul_right}
use Rattle.packing.specs.Packing.{all_words}

module _ {A : Type 0} (f : A → List ℕ) where
  all_words_append : (l k : List A) → all_words f (l ++ k) ≡ all_words f l ++ all_words f k
  unfolding all_words
  all_words_append [] k = refl
  all_words_append (x ∷ l) k = rw (all_words_append l k, append_assoc (f x) (all_words f l) (all_words f k))

  words_of_one : (x : A) → all_words f (x ∷ []) ≡ f x
  unfolding all_words
  words_of_one x = append-nil (f x)

  module _ (size : ℕ) (all : List A) where
    -- there is room for the words of one more
    pub room_for_next : (words : List ℕ) (k : ℕ) → length words ≡ length all * size → k < length all → k * size + size ≤ length words
    room_for_next words k e h = let up : (k + 1) ≤ length all = omega arith in omega (arith, e, mul-le-mul_right size up)

    -- the words of the first k values are written
    pub record Writing (words : List ℕ) (k : ℕ) : Type 0 where
      pub within : k ≤ length all
      pub done : take (k * size) words ≡ all_words f (take k all)

    pub write_start : (words : List ℕ) → Writing words 0
    unfolding all_words
    write_start words = let z : 0 * size ≡ 0 = omega arith in record { within = omega arith; done = rw z }

    pub write_next : (words : List ℕ) (k n : ℕ) (x : A) → Writing words k → length words ≡ length all * size → k < length all → x ≡ get_or all k x → length (f x) ≡ size
        → (ys : List ℕ) → ys ≡ f x → Writing (put_mid (k * size) n words ys) (k + 1)
    write_next words k n x v e h at s ys is =
        let below : k * size ≤ length words = omega (arith, room_for_next words k e h) in
        let past : (k + 1) * size ≡ k * size + length (f x) = omega (arith, s) in
        let next : take (k + 1) all ≡ take k all ++ x ∷ [] = rw (← at) at (take_more all k x h) in
        record {
          within = omega arith;
          done = rw (is, take-put_mid (k * size) n words (f x) ((k + 1) * size) past below, v.done, next, all_words_append (take k all) (x ∷ []), words_of_one x);
        }

    pub write_end : (words : List ℕ) (k : ℕ) → Writing words k → length words ≡ length all * size → length all ≤ k → words ≡ all_words f all
    write_end words k v e h =
        let most : length all * size ≤ k * size = mul-le-mul_right size h in
        sym (take_all (k * size) words (omega (arith, e, most))) ∙ v.done ∙ ap (all_words f) (take_all k all h)

pub ruleset writes = (room_for_next, write_start, write_next, write_end)
