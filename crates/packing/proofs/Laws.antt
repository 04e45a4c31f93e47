-- A record in its words: what the words of its parts say is what they all say, and its parts' words are its own. Assumes nothing.
use mathlib.Core.Path.{◌≡◌, refl, ap, sym, ◌∙◌}
use mathlib.Core.Bool.{Bool, true, false, cond, ◌&&◌}
use mathlib.Core.List.{List, [], ◌∷◌, ◌++◌}
use Prim.Native.Nat.{ℕ, zero, suc, ◌+◌, ◌*◌, ◌≤◌, ◌<◌}
use native.Mathlib.Omega.{arith}
use borrow.Author.Tests.{le-leb, eq-eqb}
use lib.Dec.{leb}
use lib.ListN.{length, take, drop, get_or, length-append}
use Rattle.std.proofs.Common.{Option, Some, None}
use Rattle.std.proofs.lemmas.Option.{none-some, same_Some, cond_some}
use Rattle.std.proofs.lemmas.List.{take-take, drop-take, drop-drop, take_all, length-drop, length-take-le, get_or-take, get_or-drop}
use Rattle.manager.specs.Record.{slots, tasks, fresh}
use Rattle.manager.specs.declared.Manager.{Manager}
use Rattle.manager.specs.declared.Region.{Region}
use Rattle.manager.specs.declared.Partition.{Partition}
use Rattle.manager.specs.declared.Waiter.{Waiter}
use Rattle.packing.specs.Packing.{last_order, region_size, partition_size, waiter_size, region_words, partition_words, waiter_words, all_words, all_at, all_said, before, region_said, choices, region_at, partition_at, waiter_at, partitions_at, waiters_at, record_words, pack, packed, unpack, unpacked}

-- VALUES SAID ONE BEHIND THE OTHER are those that are read from their places, where each is one
module _ {A : Type 0} (f : List ℕ → Option A) (g : List ℕ → ℕ → A) (ok : List ℕ → ℕ → Bool) (size : ℕ) (ws : List ℕ)
    (one : (i : ℕ) → i + size ≤ length ws → f (take size (drop i ws)) ≡ cond (ok ws i) (Some (g ws i)) None) where
  abbrev pub all_ok : ℕ → ℕ → Bool
  all_ok zero i = true
  all_ok (suc n) i = ok ws i && all_ok n (i + size)

  joined : (a b : Bool) (x : A) (l : List A) → before (cond a (Some x) None) (cond b (Some l) None) ≡ cond (a && b) (Some (x ∷ l)) None
  joined false false x l = refl
  joined false true x l = refl
  joined true false x l = refl
  joined true true x l = refl

  pub all_is : (n i : ℕ) → i + size * n ≤ length ws → all_said f size n (take (size * n) (drop i ws)) ≡ cond (all_ok n i) (Some (all_at g size n ws i)) None
  unfolding all_said all_at
  all_is zero i h = refl
  all_is (suc n) i h =
      let m : size * suc n ≡ size + size * n = omega arith in
      let vs = drop i ws in
      let enough : i + (size + size * n) ≤ length ws = rw (← m) h in
      let fits : size + size * n ≤ length vs = omega (arith, length-drop i ws, enough) in
      let long : size ≤ length (take (size + size * n) vs) = omega (arith, length-take-le (size + size * n) vs fits) in
      let first : take size (take (size + size * n) vs) ≡ take size vs = take-take size (size + size * n) vs (omega arith) in
      let rest : drop size (take (size + size * n) vs) ≡ take (size * n) (drop (i + size) ws) = drop-take size (size * n) vs ∙ ap (take (size * n)) (drop-drop size i ws) in
      rw (m, le-leb _ _ long, first, rest, one i (omega (arith, enough)), all_is n (i + size) (omega (arith, enough))) (joined (ok ws i) (all_ok n (i + size)) (g ws i) (all_at g size n ws (i + size)))

module _ (ws : List ℕ) where
  at_place : (i n j : ℕ) → j < n → get_or (take n (drop i ws)) j 0 ≡ get_or ws (i + j) 0
  at_place i n j h = get_or-take n (drop i ws) j 0 h ∙ get_or-drop i ws j 0

  here : (i n : ℕ) → 0 < n → get_or (take n (drop i ws)) 0 0 ≡ get_or ws i 0
  here i n h = let e : i + 0 ≡ i = omega arith in at_place i n 0 h ∙ rw e

  abbrev an_order : List ℕ → ℕ → Bool
  an_order vs i = leb (get_or vs (i + 5) 0) last_order

  one_region : (i : ℕ) → i + region_size ≤ length ws → region_said (take region_size (drop i ws)) ≡ cond (an_order ws i) (Some (region_at ws i)) None
  one_region i h = rw (here i 6 (omega arith), at_place i 6 1 (omega arith), at_place i 6 2 (omega arith), at_place i 6 3 (omega arith), at_place i 6 4 (omega arith), at_place i 6 5 (omega arith))

  one_partition : (i : ℕ) → i + partition_size ≤ length ws → partition_at (take partition_size (drop i ws)) 0 ≡ partition_at ws i
  one_partition i h = rw (here i 8 (omega arith), at_place i 8 1 (omega arith), at_place i 8 2 (omega arith), at_place i 8 3 (omega arith), at_place i 8 4 (omega arith), at_place i 8 5 (omega arith), at_place i 8 6 (omega arith), at_place i 8 7 (omega arith))

  one_waiter : (i : ℕ) → i + waiter_size ≤ length ws → waiter_at (take waiter_size (drop i ws)) 0 ≡ waiter_at ws i
  one_waiter i h = rw (here i 6 (omega arith), at_place i 6 1 (omega arith), at_place i 6 2 (omega arith), at_place i 6 3 (omega arith), at_place i 6 4 (omega arith), at_place i 6 5 (omega arith))

  -- the parts of a record by the words of each
  choices_ok : (n i : ℕ) → all_ok region_said region_at an_order region_size ws one_region n i ≡ choices n ws i
  unfolding choices
  choices_ok zero i = refl
  choices_ok (suc n) i = rw (choices_ok n (i + region_size))

  regions_said : (n : ℕ) → region_size * n ≤ length ws
      → all_said region_said region_size n (take (region_size * n) ws) ≡ cond (choices n ws 0) (Some (all_at region_at region_size n ws 0)) None
  regions_said n h = rw (← choices_ok n 0) (all_is region_said region_at an_order region_size ws one_region n 0 (omega (arith, h)))

  module _ {A : Type 0} (g : List ℕ → ℕ → A) (size : ℕ) (one : (i : ℕ) → i + size ≤ length ws → g (take size (drop i ws)) 0 ≡ g ws i) where
    all_fine : (n i : ℕ) → all_ok (λ vs. Some (g vs 0)) g (λ vs i. true) size ws (λ i h. ap Some (one i h)) n i ≡ true
    all_fine zero i = refl
    all_fine (suc n) i = all_fine n (i + size)

    others_said : (n i : ℕ) → i + size * n ≤ length ws
        → all_said (λ vs. Some (g vs 0)) size n (take (size * n) (drop i ws)) ≡ Some (all_at g size n ws i)
    others_said n i h = all_is (λ vs. Some (g vs 0)) g (λ vs i. true) size ws (λ i h. ap Some (one i h)) n i h ∙ rw (all_fine n i)

  abbrev part_two : List ℕ
  part_two = take (partition_size * slots) (drop partitions_at ws)

  abbrev part_three : List ℕ
  part_three = drop (partition_size * slots) (drop partitions_at ws)

  -- a record's words: each part is said by its own
  module _ (e : length ws ≡ record_words) where
    first_is : all_said region_said region_size slots (take partitions_at ws) ≡ cond (choices slots ws 0) (Some (all_at region_at region_size slots ws 0)) None
    first_is = regions_said slots (omega (arith, e))

    second_is : all_said (λ vs. Some (partition_at vs 0)) partition_size slots part_two ≡ Some (all_at partition_at partition_size slots ws partitions_at)
    second_is = others_said partition_at partition_size one_partition slots partitions_at (omega (arith, e))

    third_is : all_said (λ vs. Some (waiter_at vs 0)) waiter_size tasks part_three ≡ Some (all_at waiter_at waiter_size tasks ws waiters_at)
    third_is =
        let same : part_three ≡ drop waiters_at ws = drop-drop (partition_size * slots) partitions_at ws in
        let whole : take (waiter_size * tasks) (drop waiters_at ws) ≡ drop waiters_at ws = take_all (waiter_size * tasks) (drop waiters_at ws) (omega (arith, e, length-drop waiters_at ws)) in
        rw (same, ← whole) (others_said waiter_at waiter_size one_waiter tasks waiters_at (omega (arith, e)))

    pub no_regions : all_said region_said region_size slots (take partitions_at ws) ≡ None → None ≡ unpacked ws
    no_regions h = rw (eq-eqb (length ws) record_words e) (by_choice (choices slots ws 0) (sym first_is ∙ h))
      where
        by_choice : (b : Bool) → cond b (Some (all_at region_at region_size slots ws 0)) None ≡ None → None ≡ cond b (Some (unpack ws)) None
        by_choice true h = absurd (none-some _ (sym h))
        by_choice false h = refl

    pub some_partitions : all_said (λ vs. Some (partition_at vs 0)) partition_size slots part_two ≡ None → None ≡ unpacked ws
    some_partitions h = absurd (none-some _ (sym h ∙ second_is))

    pub some_waiters : all_said (λ vs. Some (waiter_at vs 0)) waiter_size tasks part_three ≡ None → None ≡ unpacked ws
    some_waiters h = absurd (none-some _ (sym h ∙ third_is))

    -- d is the record that the parts are read into
    pub record_said : (d : Manager) → d ≡ fresh → (rs : List Region) (ps : List Partition) (qs : List Waiter) (one two three : List ℕ)
        → one ≡ take partitions_at ws → two ≡ part_two → three ≡ part_three
        → all_said region_said region_size (length d.regions) one ≡ Some rs → all_said (λ vs. Some (partition_at vs 0)) partition_size (length d.partitions) two ≡ Some ps
        → all_said (λ vs. Some (waiter_at vs 0)) waiter_size (length d.waiters) three ≡ Some qs → Some (record { regions = rs; partitions = ps; waiters = qs }) ≡ unpacked ws
    unfolding unpack
    record_said d new rs ps qs one two three e₁ e₂ e₃ h k l =
        let first : all_said region_said region_size slots (take partitions_at ws) ≡ Some rs = rw (new, e₁) at h in
        let second : all_said (λ vs. Some (partition_at vs 0)) partition_size slots part_two ≡ Some ps = rw (new, e₂) at k in
        let third : all_said (λ vs. Some (waiter_at vs 0)) waiter_size tasks part_three ≡ Some qs = rw (new, e₃) at l in
        let choice = cond_some (choices slots ws 0) (all_at region_at region_size slots ws 0) rs (sym first_is ∙ first) in
        rw (eq-eqb (length ws) record_words e, choice.0, choice.1, same_Some _ _ (sym second ∙ second_is), same_Some _ _ (sym third ∙ third_is))

pub ruleset unpacking = (no_regions, some_partitions, some_waiters)

-- A RECORD IN WORDS
pub words_put : (d : Manager) (ws : List ℕ) → length ws ≡ record_words → (rs ps qs : List ℕ) → rs ≡ all_words region_words d.regions
    → ps ≡ all_words partition_words d.partitions → qs ≡ all_words waiter_words d.waiters → rs ++ (ps ++ qs) ≡ packed d ws
unfolding pack
words_put d ws e rs ps qs e₁ e₂ e₃ = rw (eq-eqb (length ws) record_words e, e₁, e₂, e₃)

-- how many words the elements have
pub all_length : {A : Type 0} (f : A → List ℕ) (size n : ℕ) → ((x : A) → length (f x) ≡ size) → (l : List A) → length l ≡ n → length (all_words f l) ≡ size * n
unfolding all_words
all_length f size n h [] e = let z : size * n ≡ 0 = rw (sym e) (omega arith) in sym z
all_length f size zero h (x ∷ l) e = absurd (omega arith)
all_length f size (suc n) h (x ∷ l) e =
    omega (arith, length-append (f x) (all_words f l), h x, all_length f size n h l (omega arith))
