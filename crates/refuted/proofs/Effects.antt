-- WRONG EFFECTS: the managers 32 to 46, each of which changes what it must not change, or does not check what it must, and for each one
-- call over one memory and record. So none of them meets demand 1. The managers 1 to 31, which don't meet demand 3, are in Answers; those
-- that are wrong about serving are in Serving. Assumes nothing.
use mathlib.Core.Path.{◌≡◌, refl, ap}
use mathlib.Core.Bool.{cond}
use mathlib.Core.List.{List, [], ◌∷◌, ◌++◌}
use mathlib.Core.Logic.{◌⊎◌, ⊎_elim}
use Prim.Native.Nat.{ℕ, ◌+◌, ◌-◌, ◌*◌, ◌/◌, ◌%◌, ◌≤◌}
use native.Mathlib.Omega.{arith}
use lib.ListN.{length, get_or, set, take, drop, replicate}
use lib.Seq.{sets}
use Rattle.manager.specs.Record.{slots, tasks, no_waiter, region_of, partition_of}
use Rattle.manager.specs.Result.{Result, refused, done}
use Rattle.manager.specs.Map.{largest_of, free_sizes}
use Rattle.manager.specs.Region.{first_page_of, address_of, map_at, pages_of, segments}
use Rattle.manager.proofs.Laws.Distinct.{On, on_nil, on_cases}
use Rattle.manager.specs.Access.{read_segment, write_segment}
use Rattle.manager.specs.Perform.{Implementation, perform, defined, asked}
use Rattle.manager.specs.declared.Manager.{Manager}
use Rattle.manager.specs.declared.Call.TheVariants.{IdentRegion, DeleteRegion, GetSegment, ResizeSegment, GetBuffer}
use Rattle.manager.specs.declared.Wait.TheVariants.{No, Yes}
use Rattle.manager.specs.declared.Status.TheVariants.{Timeout}
use Rattle.trace.specs.Trace.{Ask, State, start}
use Rattle.effects.specs.Effects.{refusing, Whole, Demand1}
use Rattle.refuted.proofs.Refute.{after_all, writes_other, refuses_otherwise, answers_otherwise, passes_unsound}
use Rattle.refuted.proofs.Calls.{create, get, wait, divide, everything}
use Rattle.refuted.proofs.Wrong.{segment_get, segment_resize, region_delete, buffer_get, answering, but, valued, leaving, keeping, emptied}

-- the memory and the record that the right manager has after a list of calls, over 64 words of 9
abbrev pub reached : List Ask → State
reached l = after_all defined l (start (replicate 64 9))

-- its slots and places are all there
pub whole : {d : Manager} → length d.regions ≡ slots → length d.partitions ≡ slots → length d.waiters ≡ tasks → Whole d
whole r p w = record { regions = r; partitions = p; waiters = w }

-- 32. A GET WRITES INTO THE SEGMENT THAT IT LENDS
abbrev clears_lent : Implementation
clears_lent = but segment_get 0 λ m d c a. leaving a (set a.memory (a.value / 4) 0)

not_clears_lent : ¬ Demand1 clears_lent
unfolding everything
not_clears_lent =
    let s = reached (create ∷ []) in
    writes_other clears_lent s.memory s.manager (GetSegment 1 64 0 No 0 0 0) 16 (whole refl refl refl) (λ x. omega arith) refl

-- 33. A GET WRITES INTO ANOTHER'S SEGMENT: the page before the one that it lends
abbrev clears_other : Implementation
clears_other = but segment_get 0 λ m d c a. leaving a (set a.memory (a.value / 4 - 16) 0)

not_clears_other : ¬ Demand1 clears_other
unfolding everything
not_clears_other =
    let s = reached (create ∷ get 64 ∷ []) in
    writes_other clears_other s.memory s.manager (GetSegment 1 64 0 No 0 0 0) 16 (whole refl refl refl) (λ x. omega arith) refl

-- 34. A DELETE CLEARS THE MAP
abbrev clears_map : Implementation
clears_map =
    but region_delete 0 λ m d c a.
    let r = region_of d (asked c).id in
    leaving a (sets m (map_at r) (replicate (pages_of r) 0))

not_clears_map : ¬ Demand1 clears_map
unfolding everything
not_clears_map = let s = reached (create ∷ []) in writes_other clears_map s.memory s.manager (DeleteRegion 1) 1 (whole refl refl refl) (λ x. x) refl

-- 35. A GET OF A BUFFER CLEARS IT WHOLE, and not its two link words only
abbrev clears_buffer : Implementation
clears_buffer = but buffer_get 0 λ m d c a. leaving a (sets a.memory (a.value / 4) (replicate ((partition_of d (asked c).id).size / 4) 0))

-- the buffers on the chain are at multiples of 16, so that word 6 is no link of theirs
chained : (a : ℕ) → On a (16 ∷ 32 ∷ 48 ∷ []) → a % 16 ≡ 0
chained a h =
    ⊎_elim (λ (e : a ≡ 16). omega arith)
    (λ u. ⊎_elim (λ (e : a ≡ 32). omega arith)
    (λ v. ⊎_elim (λ (e : a ≡ 48). omega arith) (λ w. absurd (on_nil a w)) (on_cases a 48 [] v))
    (on_cases a 32 (48 ∷ []) u))
    (on_cases a 16 (32 ∷ 48 ∷ []) h)

no_link : (a : ℕ) → On a (16 ∷ 32 ∷ 48 ∷ []) → ¬ ((6 ≡ a / 4) ⊎ (6 ≡ a / 4 + 1))
no_link a h x = ⊎_elim (λ (e : 6 ≡ a / 4). omega (arith, chained a h)) (λ (e : 6 ≡ a / 4 + 1). omega (arith, chained a h)) x

not_clears_buffer : ¬ Demand1 clears_buffer
unfolding everything
not_clears_buffer =
    let s = reached (divide ∷ []) in
    writes_other clears_buffer s.memory s.manager (GetBuffer 1) 6 (whole refl refl refl) (λ x. no_link x.0 x.1 x.2) refl

-- 36. A REFUSAL CHANGES A WORD
abbrev refusal_writes : Implementation
refusal_writes = answering λ m d c a. cond (refusing a.status) (leaving a (set m 0 1)) a

not_refusal_writes : ¬ Demand1 refusal_writes
unfolding everything
not_refusal_writes = let s = reached [] in refuses_otherwise refusal_writes s.memory s.manager (IdentRegion 0) (λ a. get_or a.memory 0 0) refl refl

-- 37. A REFUSAL CHANGES A FIELD: it empties the queue
abbrev refusal_empties : Implementation
refusal_empties = answering λ m d c a. cond (refusing a.status) (keeping a (emptied d)) a

not_refusal_empties : ¬ Demand1 refusal_empties
unfolding everything
not_refusal_empties =
    let s = reached (create ∷ get 192 ∷ wait 1 64 0 ∷ []) in
    refuses_otherwise refusal_empties s.memory s.manager (IdentRegion 0) (λ a. (get_or a.manager.waiters 0 no_waiter).task) refl refl

-- 38. A REFUSAL HAS A VALUE: a get that is answered 13 tells the largest run
abbrev refusal_with_value : Implementation
refusal_with_value =
    but segment_get 13 λ m d c a.
    let r = region_of d (asked c).id in
    valued a (largest_of (free_sizes (segments m r)) * r.page)

not_refusal_with_value : ¬ Demand1 refusal_with_value
unfolding everything
not_refusal_with_value =
    let s = reached (create ∷ get 64 ∷ []) in
    refuses_otherwise refusal_with_value s.memory s.manager (GetSegment 1 192 0 No 0 0 0) (λ a. a.value) refl refl

-- 39. A RESIZE WITH 13 DOESN'T SAY THE OLD LENGTH
abbrev resize_without_length : Implementation
resize_without_length = but segment_resize 13 λ m d c a. valued a 0

not_resize_without_length : ¬ Demand1 resize_without_length
unfolding everything
not_resize_without_length =
    let s = reached (create ∷ get 64 ∷ []) in
    refuses_otherwise resize_without_length s.memory s.manager (ResizeSegment 1 64 256) (λ a. a.value) refl refl

-- 40. A GET THAT WAITS ANSWERS 6, which stands in notices only
abbrev timeout_answered : Implementation
timeout_answered = but segment_get 255 λ m d c a. refused m d Timeout

not_timeout_answered : ¬ Demand1 timeout_answered
unfolding everything
not_timeout_answered =
    let s = reached (create ∷ get 192 ∷ []) in
    answers_otherwise timeout_answered s.memory s.manager (GetSegment 1 64 0 Yes 1 1 0) refl

-- 41. A DAMAGED RECORD ISN'T NOTICED: a get goes on where a map's word was overwritten
abbrev damage_unnoticed : Implementation
damage_unnoticed =
    but segment_get 25 λ m d c a.
    let r = region_of d (asked c).id in
    done m d (address_of r (first_page_of r))

not_damage_unnoticed : ¬ Demand1 damage_unnoticed
unfolding everything
not_damage_unnoticed =
    let s = reached (create ∷ []) in
    passes_unsound damage_unnoticed (set s.memory 1 8) s.manager (GetSegment 1 64 0 No 0 0 0) refl refl

-- 42. A WAIT CHANGES MORE THAN THE QUEUE: a word of the memory
abbrev wait_writes : Implementation
wait_writes = but segment_get 255 λ m d c a. leaving a (set m 0 1)

not_wait_writes : ¬ Demand1 wait_writes
unfolding everything
not_wait_writes h =
    let s = reached (create ∷ get 192 ∷ []) in
    let z : ◌≡◌ {A = ℕ} 1 9 = ap (λ (a : Result). get_or a.memory 0 0) ((h.call s.memory s.manager (GetSegment 1 64 0 Yes 1 1 0)).waits refl) in
    omega arith

-- 43. A WRITE GOES ONE WORD TOO FAR
abbrev writes_further : Implementation
writes_further = record { call = perform; read = read_segment; write = λ m d id address first words. write_segment m d id address first (words ++ (0 ∷ [])) }

not_writes_further : ¬ Demand1 writes_further
unfolding everything
not_writes_further h =
    let s = reached (create ∷ get 64 ∷ []) in
    let z : ◌≡◌ {A = ℕ} 0 9 = (h.write s.memory s.manager 1 64 0 (7 ∷ [])).only.same 17 (λ x. omega arith) in
    omega arith

-- 44. A WRITE EMPTIES THE QUEUE
abbrev write_empties : Implementation
write_empties =
    record {
      call = perform;
      read = read_segment;
      write = λ m d id address first words. let a = write_segment m d id address first words in keeping a (emptied a.manager);
    }

not_write_empties : ¬ Demand1 write_empties
unfolding everything
not_write_empties h =
    let s = reached (create ∷ get 192 ∷ wait 1 64 0 ∷ []) in
    let z : ◌≡◌ {A = ℕ} 0 1 = ap (λ (d : Manager). (get_or d.waiters 0 no_waiter).task) (h.write s.memory s.manager 1 64 0 []).keeps in
    omega arith

-- 45. A WRITE PAST THE END OF THE SEGMENT IS TAKEN
abbrev writes_past_end : Implementation
writes_past_end = record { call = perform; read = read_segment; write = λ m d id address first words. done (sets m (address / 4 + first) words) d 0 }

not_writes_past_end : ¬ Demand1 writes_past_end
unfolding everything
not_writes_past_end h =
    let s = reached (create ∷ get 64 ∷ []) in
    let z : 16 + 1 ≤ 16 = (h.write s.memory s.manager 1 64 16 (7 ∷ [])).inside refl in
    omega arith

-- 46. A READ OF DAMAGED RECORDS HANDS WORDS BACK
abbrev reads_unchecked : Implementation
reads_unchecked = record { call = perform; read = λ m d id address. take 16 (drop (address / 4) m); write = write_segment }

not_reads_unchecked : ¬ Demand1 reads_unchecked
unfolding everything
not_reads_unchecked h =
    let s = reached (create ∷ get 64 ∷ []) in
    let z : ◌≡◌ {A = ℕ} 16 0 = ap length ((h.read (set s.memory 1 8) s.manager 1 64).checks refl) in
    omega arith
