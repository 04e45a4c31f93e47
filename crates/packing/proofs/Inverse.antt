-- Packing and unpacking are inverse. Elements are packed one behind the other, so that an element is found behind the words of those before
-- it; and what is read of so many words, packed again, is those words. Both once for every kind of element. Assumes nothing.
use mathlib.Core.Path.{◌≡◌, refl, sym, ◌∙◌}
use mathlib.Core.Bool.{true}
use mathlib.Core.List.{List, [], ◌∷◌, ◌++◌, append_assoc, append-nil}
use Prim.Native.Nat.{ℕ, zero, suc, ◌+◌, ◌*◌, ◌≤◌, ◌<◌}
use native.Mathlib.Omega.{arith}
use native.Mathlib.Numerals.{add-one}
use borrow.Author.Tests.{le-leb, eq-eqb, leb-true, eqb-true}
use lib.Dec.{leb, eqb}
use lib.ListN.{length, take, drop, get_or, length-append}
use lib.Seq.{get_or-append-add, get_or-append_seam, drop-cons, take-add, take_all, drop-drop}
use Rattle.manager.specs.Record.{slots, tasks}
use Rattle.manager.proofs.Laws.Lists.{and_first, and_second}
use Rattle.manager.specs.declared.Manager.{Manager}
use Rattle.manager.specs.declared.Region.{Region}
use Rattle.manager.specs.declared.Partition.{Partition}
use Rattle.manager.specs.declared.Waiter.{Waiter}
use Rattle.manager.specs.declared.Order.{Order}
use Rattle.manager.specs.declared.Order.TheVariants.{Fifo, Priority, HalvesFifo, HalvesPriority}
use Rattle.packing.specs.Packing.{region_size, partition_size, waiter_size, last_order, order_word, order_at, region_words, partition_words, waiter_words, all_words, all_at, choices, region_at, partition_at, waiter_at, partitions_at, waiters_at, record_words, pack, unpack, well_formed}
use Rattle.packing.proofs.Laws.{all_length}

-- AN ORDER
order_of_word : (o : Order) → order_at (order_word o) ≡ o
order_of_word Fifo = refl
order_of_word Priority = refl
order_of_word HalvesFifo = refl
order_of_word HalvesPriority = refl

word_of_order : (w : ℕ) → w ≤ last_order → order_word (order_at w) ≡ w
word_of_order zero h = refl
word_of_order (suc zero) h = refl
word_of_order (suc (suc zero)) h = refl
word_of_order (suc (suc (suc zero))) h = refl
word_of_order (suc (suc (suc (suc w)))) h = absurd (omega arith)

choice_word : (o : Order) → order_word o ≤ last_order
choice_word Fifo = omega arith
choice_word Priority = omega arith
choice_word HalvesFifo = omega arith
choice_word HalvesPriority = omega arith

-- READING WHAT WAS PACKED
module _ {A : Type 0} (f : A → List ℕ) (g : List ℕ → ℕ → A) (size : ℕ) (some : (x : A) → length (f x) ≡ size)
    (back : (x : A) (pre post : List ℕ) → g (pre ++ (f x ++ post)) (length pre) ≡ x) where
  pub all_back : (l : List A) (n i : ℕ) (pre post : List ℕ) → length l ≡ n → length pre ≡ i → all_at g size n (pre ++ (all_words f l ++ post)) i ≡ l
  unfolding all_at all_words
  all_back [] n i pre post e p = rw (sym e)
  all_back (x ∷ l) zero i pre post e p = absurd (omega arith)
  all_back (x ∷ l) (suc n) i pre post e p =
      let next : length (pre ++ f x) ≡ i + size = omega (arith, length-append pre (f x), some x) in
      let shift : pre ++ (f x ++ (all_words f l ++ post)) ≡ (pre ++ f x) ++ (all_words f l ++ post) = sym (append_assoc pre (f x) (all_words f l ++ post)) in
      let join : f x ++ all_words f l ++ post ≡ f x ++ (all_words f l ++ post) = append_assoc (f x) (all_words f l) post in
      let here : g (pre ++ (f x ++ (all_words f l ++ post))) i ≡ x = rw (← p) (back x pre (all_words f l ++ post)) in
      let rest : all_at g size n (pre ++ (f x ++ (all_words f l ++ post))) (i + size) ≡ l = rw shift (all_back l n (i + size) (pre ++ f x) post (omega arith) next) in
      rw (join, here, rest)

module _ (pre post : List ℕ) where
  at_place : (ys : List ℕ) (j : ℕ) → get_or (pre ++ ys) (length pre + j) 0 ≡ get_or ys j 0
  at_place ys j = get_or-append-add pre ys j 0

  here : (y : ℕ) (ys : List ℕ) → get_or (pre ++ y ∷ ys) (length pre) 0 ≡ y
  here y ys = get_or-append_seam pre y ys 0

  region_back : (r : Region) → region_at (pre ++ (region_words r ++ post)) (length pre) ≡ r
  region_back r =
      let ws = region_words r ++ post in
      rw (here r.name _, at_place ws 1, at_place ws 2, at_place ws 3, at_place ws 4, at_place ws 5, order_of_word r.order)

  partition_back : (p : Partition) → partition_at (pre ++ (partition_words p ++ post)) (length pre) ≡ p
  partition_back p =
      let ws = partition_words p ++ post in
      rw (here p.name _, at_place ws 1, at_place ws 2, at_place ws 3, at_place ws 4, at_place ws 5, at_place ws 6, at_place ws 7)

  waiter_back : (q : Waiter) → waiter_at (pre ++ (waiter_words q ++ post)) (length pre) ≡ q
  waiter_back q = let ws = waiter_words q ++ post in rw (here q.task _, at_place ws 1, at_place ws 2, at_place ws 3, at_place ws 4, at_place ws 5)

-- the choices that were packed are choices
choices_back : (l : List Region) (n i : ℕ) (pre post : List ℕ) → length l ≡ n → length pre ≡ i → choices n (pre ++ (all_words region_words l ++ post)) i ≡ true
unfolding choices all_words
choices_back [] n i pre post e p = rw (sym e)
choices_back (x ∷ l) zero i pre post e p = absurd (omega arith)
choices_back (x ∷ l) (suc n) i pre post e p =
    let next : length (pre ++ region_words x) ≡ i + region_size = omega (arith, length-append pre (region_words x)) in
    let shift : pre ++ (region_words x ++ (all_words region_words l ++ post)) ≡ (pre ++ region_words x) ++ (all_words region_words l ++ post)
    = sym (append_assoc pre (region_words x) (all_words region_words l ++ post)) in
    let word : get_or (pre ++ (region_words x ++ (all_words region_words l ++ post))) (i + 5) 0 ≡ order_word x.order
    = rw (← p) (at_place pre post (region_words x ++ (all_words region_words l ++ post)) 5) in
    let rest : choices n (pre ++ (region_words x ++ (all_words region_words l ++ post))) (i + region_size) ≡ true
    = rw shift (choices_back l n (i + region_size) (pre ++ region_words x) post (omega arith) next) in
    rw (word, le-leb _ _ (choice_word x.order)) rest

module _ (d : Manager) (h₁ : length d.regions ≡ slots) (h₂ : length d.partitions ≡ slots) (h₃ : length d.waiters ≡ tasks) where
  rs : List ℕ
  rs = all_words region_words d.regions

  ps : List ℕ
  ps = all_words partition_words d.partitions

  qs : List ℕ
  qs = all_words waiter_words d.waiters

  so_many_regions : length rs ≡ partitions_at
  unfolding rs
  so_many_regions = all_length region_words region_size slots (λ r. refl) d.regions h₁

  so_many_partitions : length ps ≡ (partition_size * slots)
  unfolding ps
  so_many_partitions = all_length partition_words partition_size slots (λ p. refl) d.partitions h₂

  so_many_waiters : length qs ≡ (waiter_size * tasks)
  unfolding qs
  so_many_waiters = all_length waiter_words waiter_size tasks (λ q. refl) d.waiters h₃

  pub pack_length : length (pack d) ≡ record_words
  unfolding pack rs ps qs
  pack_length = omega (arith, length-append rs (ps ++ qs), length-append ps qs, so_many_regions, so_many_partitions, so_many_waiters)

  -- what is packed says a record
  pub pack_formed : well_formed (pack d) ≡ true
  unfolding pack rs ps qs
  pack_formed = rw (eq-eqb (length (pack d)) record_words pack_length) (choices_back d.regions slots 0 [] (ps ++ qs) h₁ refl)

  -- and it is the record that was packed
  pub unpack_pack : unpack (pack d) ≡ d
  unfolding pack unpack rs ps qs
  unpack_pack =
      let e₁ : all_at region_at region_size slots (rs ++ (ps ++ qs)) 0 ≡ d.regions
      = all_back region_words region_at region_size (λ r. refl) (λ x pre post. region_back pre post x) d.regions slots 0 [] (ps ++ qs) h₁ refl in
      let e₂ : all_at partition_at partition_size slots (rs ++ (ps ++ qs)) partitions_at ≡ d.partitions
      = all_back partition_words partition_at partition_size (λ p. refl) (λ x pre post. partition_back pre post x) d.partitions slots partitions_at rs qs h₂ so_many_regions in
      let last : (rs ++ ps) ++ (qs ++ []) ≡ rs ++ (ps ++ qs) = append_assoc rs ps (qs ++ []) ∙ rw (append-nil qs) in
      let before : length (rs ++ ps) ≡ waiters_at = omega (arith, length-append rs ps, so_many_regions, so_many_partitions) in
      let e₃ : all_at waiter_at waiter_size tasks (rs ++ (ps ++ qs)) waiters_at ≡ d.waiters
      = rw (← last) (all_back waiter_words waiter_at waiter_size (λ p. refl) (λ x pre post. waiter_back pre post x) d.waiters tasks waiters_at (rs ++ ps) [] h₃ before) in
      rw (e₁, e₂, e₃)

-- PACKING WHAT WAS READ
module _ (ws : List ℕ) where
  -- so many words from a place on, one by one
  words_from : (i n : ℕ) → i + suc n ≤ length ws → take (suc n) (drop i ws) ≡ get_or ws i 0 ∷ take n (drop (i + 1) ws)
  words_from i n h = rw (drop-cons ws i 0 (omega arith), add-one)

  six_from : (i : ℕ) → i + 6 ≤ length ws
      → take 6 (drop i ws) ≡ get_or ws i 0 ∷ get_or ws (i + 1) 0 ∷ get_or ws (i + 2) 0 ∷ get_or ws (i + 3) 0 ∷ get_or ws (i + 4) 0 ∷ get_or ws (i + 5) 0 ∷ []
  six_from i h =
      let e₁ : i + 1 + 1 ≡ i + 2 = omega arith in
      let e₂ : i + 2 + 1 ≡ i + 3 = omega arith in
      let e₃ : i + 3 + 1 ≡ i + 4 = omega arith in
      let e₄ : i + 4 + 1 ≡ i + 5 = omega arith in
      rw (words_from i 5 h, words_from (i + 1) 4 (omega arith), e₁, words_from (i + 2) 3 (omega arith), e₂, words_from (i + 3) 2 (omega arith), e₃, words_from (i + 4) 1 (omega arith), e₄, words_from (i + 5) 0 (omega arith))

  eight_from : (i : ℕ) → i + 8 ≤ length ws
      → take 8 (drop i ws)
      ≡ get_or ws i 0 ∷ get_or ws (i + 1) 0 ∷ get_or ws (i + 2) 0 ∷ get_or ws (i + 3) 0 ∷ get_or ws (i + 4) 0 ∷ get_or ws (i + 5) 0 ∷ get_or ws (i + 6) 0 ∷ get_or ws (i + 7) 0 ∷ []
  eight_from i h =
      let e₁ : i + 1 + 1 ≡ i + 2 = omega arith in
      let e₂ : i + 2 + 1 ≡ i + 3 = omega arith in
      let e₃ : i + 2 + 2 ≡ i + 4 = omega arith in
      let e₄ : i + 2 + 3 ≡ i + 5 = omega arith in
      let e₅ : i + 2 + 4 ≡ i + 6 = omega arith in
      let e₆ : i + 2 + 5 ≡ i + 7 = omega arith in
      rw (words_from i 7 h, words_from (i + 1) 6 (omega arith), e₁, six_from (i + 2) (omega arith), e₂, e₃, e₄, e₅, e₆)

  choice_at : (n i k : ℕ) → choices n ws i ≡ true → k < n → get_or ws (i + region_size * k + 5) 0 ≤ last_order
  unfolding choices
  choice_at zero i k e h = absurd (omega arith)
  choice_at (suc n) i zero e h = let at : i + region_size * 0 ≡ i = omega arith in rw at (leb-true _ _ (and_first (leb (get_or ws (i + 5) 0) last_order) (choices n ws (i + region_size)) e))
  choice_at (suc n) i (suc k) e h = let at : i + region_size * suc k ≡ i + region_size + region_size * k = omega arith in rw at (choice_at n (i + region_size) k (and_second (leb (get_or ws (i + 5) 0) last_order) _ e) (omega arith))

  region_again : (i : ℕ) → i + region_size ≤ length ws → get_or ws (i + 5) 0 ≤ last_order → region_words (region_at ws i) ≡ take region_size (drop i ws)
  region_again i h c = rw (six_from i h, word_of_order _ c)

  partition_again : (i : ℕ) → i + partition_size ≤ length ws → partition_words (partition_at ws i) ≡ take partition_size (drop i ws)
  partition_again i h = sym (eight_from i h)

  waiter_again : (i : ℕ) → i + waiter_size ≤ length ws → waiter_words (waiter_at ws i) ≡ take waiter_size (drop i ws)
  waiter_again i h = sym (six_from i h)

  module _ {A : Type 0} (f : A → List ℕ) (g : List ℕ → ℕ → A) (size : ℕ) where
    all_again : (n i : ℕ) → ((k : ℕ) → k < n → f (g ws (i + size * k)) ≡ take size (drop (i + size * k) ws))
        → all_words f (all_at g size n ws i) ≡ take (size * n) (drop i ws)
    unfolding all_at all_words
    all_again zero i h = let z : size * 0 ≡ 0 = omega arith in rw z
    all_again (suc n) i h =
        let at : i + size * 0 ≡ i = omega arith in
        let here : f (g ws i) ≡ take size (drop i ws) = rw at at (h 0 (omega arith)) in
        let rest : all_words f (all_at g size n ws (i + size)) ≡ take (size * n) (drop (i + size) ws)
        = all_again n (i + size) (λ k l. let e : i + size + size * k ≡ i + size * suc k = omega arith in rw e (h (suc k) (omega arith))) in
        let some : size * suc n ≡ size + size * n = omega arith in
        rw (here, rest, some, take-add size (size * n) (drop i ws), drop-drop size i ws)

  -- words that say a record are those that it is packed into
  pub pack_unpack : well_formed ws ≡ true → pack (unpack ws) ≡ ws
  unfolding pack unpack
  pack_unpack w =
      let l : length ws ≡ record_words = eqb-true (length ws) record_words (and_first (eqb (length ws) record_words) (choices slots ws 0) w) in
      let c : choices slots ws 0 ≡ true = and_second (eqb (length ws) record_words) (choices slots ws 0) w in
      let e₁ : all_words region_words (all_at region_at region_size slots ws 0) ≡ take partitions_at ws
      = all_again region_words region_at region_size slots 0 (λ k h. region_again (0 + region_size * k) (omega arith) (choice_at slots 0 k c h)) in
      let e₂ : all_words partition_words (all_at partition_at partition_size slots ws partitions_at) ≡ take (partition_size * slots) (drop partitions_at ws)
      = all_again partition_words partition_at partition_size slots partitions_at (λ k h. partition_again (partitions_at + partition_size * k) (omega arith)) in
      let e₃ : all_words waiter_words (all_at waiter_at waiter_size tasks ws waiters_at) ≡ take (waiter_size * tasks) (drop waiters_at ws)
      = all_again waiter_words waiter_at waiter_size tasks waiters_at (λ k h. waiter_again (waiters_at + waiter_size * k) (omega arith)) in
      rw (e₁, e₂, e₃) (joined l)
    where
      joined : length ws ≡ record_words → take partitions_at ws ++ (take (partition_size * slots) (drop partitions_at ws) ++ take (waiter_size * tasks) (drop waiters_at ws)) ≡ ws
      joined l =
          let a : take waiters_at ws ≡ take partitions_at ws ++ take (partition_size * slots) (drop partitions_at ws) = take-add partitions_at (partition_size * slots) ws in
          let b : take record_words ws ≡ take waiters_at ws ++ take (waiter_size * tasks) (drop waiters_at ws) = take-add waiters_at (waiter_size * tasks) ws in
          sym (append_assoc (take partitions_at ws) (take (partition_size * slots) (drop partitions_at ws)) (take (waiter_size * tasks) (drop waiters_at ws))) ∙ rw (← a, ← b) (take_all record_words ws (omega arith))
