-- WRONG IDS: the managers 50 to 54, by which an old id opens another object, the queue goes by whole ids, or a generation is not checked.
-- The first two are refuted by what demand 3 claims of ids along every list. Assumes nothing.
use mathlib.Core.Path.{◌≡◌, refl, ap}
use mathlib.Core.Bool.{cond}
use mathlib.Core.List.{List, [], ◌∷◌}
use Prim.Native.Nat.{ℕ}
use native.Mathlib.Omega.{arith}
use lib.Dec.{leb}
use Rattle.manager.specs.Status.{number_of}
use Rattle.manager.specs.Record.{generations, slot_of, region_of, emptied_region, with_region}
use Rattle.manager.specs.Result.{done}
use Rattle.manager.specs.Queue.{leaving}
use Rattle.manager.specs.Regions.{region_id, new_region}
use Rattle.manager.specs.Perform.{Implementation, perform, asked}
use Rattle.manager.specs.declared.Manager.{Manager}
use Rattle.manager.specs.declared.Waiter.{Waiter}
use Rattle.manager.specs.declared.Call.TheVariants.{CreateRegion, IdentRegion, DeleteRegion, GetSegment}
use Rattle.manager.specs.declared.Order.TheVariants.{Fifo}
use Rattle.manager.specs.declared.Wait.TheVariants.{No, Yes}
use Rattle.trace.specs.Trace.{Ask, call, start, region}
use Rattle.trace.specs.Ids.{creates_region, deletes_region, by_get}
use Rattle.trace.specs.Claims.{Demand3}
use Rattle.effects.specs.Effects.{Demand1}
use Rattle.refuted.proofs.Refute.{words, after_all, ran, claimed, differs, passes_unsound}
use Rattle.refuted.proofs.Calls.{create, delete, clock, everything}
use Rattle.refuted.proofs.Wrong.{region_ident, region_delete, segment_get, clock_tick, but, noticing, keeping}
use Rattle.refuted.proofs.Effects.{reached}

-- 50. THE GENERATION IS NOT COMPARED: a get goes to the region that is in the id's slot now
abbrev opens_another : Implementation
opens_another = but segment_get 4 λ m d c a. perform m d (GetSegment (region_id d (slot_of (asked c).id)) (asked c).number 0 No 0 0 0)

-- what is deleted is not answered 4 ever after
not_opens_another : ¬ Demand3 opens_another
unfolding everything
not_opens_another h =
    let s = after_all opens_another (create ∷ delete ∷ []) (start words) in
    let g = (claimed opens_another h (create ∷ [])).ids.gone (DeleteRegion 1) (region 1) (deletes_region 1 refl) _ (ran opens_another (create ∷ []) s) in
    let z : ◌≡◌ {A = ℕ} 0 4 = ap number_of (g.calls (GetSegment 1 64 0 No 0 0 0) (by_get 1 64 0 No 0 0 0 (λ e. omega arith))) in
    omega arith

-- 51. AN ID IS USED AGAIN: a delete does not raise the generation
abbrev uses_again : Implementation
uses_again =
    but region_delete 0 λ m d c a.
    let id = (asked c).id in
    keeping a (with_region d (slot_of id) (emptied_region (region_of d id).generation))

-- a create answers an id that an earlier one answered
not_uses_again : ¬ Demand3 uses_again
unfolding everything
not_uses_again h =
    let c = CreateRegion 1 4 252 64 Fifo in
    let s = after_all uses_again (create ∷ []) (start words) in
    (claimed uses_again h []).ids.once c (region 1) (creates_region 1 4 252 64 Fifo refl) _ (ran uses_again (delete ∷ []) s) c (creates_region 1 4 252 64 Fifo refl)

-- 52. THE GENERATION IS LOST WHEN THE SLOT IS EMPTIED: the next one is 1, whatever it was
abbrev forgets_generations : Implementation
forgets_generations = but region_delete 0 λ m d c a. keeping a (with_region d (slot_of (asked c).id) (emptied_region 1))

not_forgets_generations : ¬ Demand3 forgets_generations
unfolding everything
not_forgets_generations = differs forgets_generations (create ∷ delete ∷ create ∷ call (DeleteRegion 17) ∷ create ∷ []) refl

-- 53. THE QUEUE GOES BY WHOLE IDS: the notices of a tick come by id, and region 17 in slot 1 behind region 2 in slot 2
abbrev sorted_in : Waiter → List Waiter → List Waiter
sorted_in w [] = w ∷ []
sorted_in w (x ∷ l) = cond (leb w.region x.region) (w ∷ x ∷ l) (x ∷ sorted_in w l)

abbrev by_region : List Waiter → List Waiter
by_region [] = []
by_region (w ∷ l) = sorted_in w (by_region l)

abbrev by_whole_id : Implementation
by_whole_id = but clock_tick 0 λ m d c a. noticing a (leaving (by_region d.waiters))

-- two regions of a page each, both full, and a task that waits for each
abbrev two_wait : List Ask
two_wait =
    call (CreateRegion 1 4 124 64 Fifo)
    ∷ call (DeleteRegion 1)
    ∷ call (CreateRegion 1 4 124 64 Fifo)
    ∷ call (CreateRegion 2 128 128 64 Fifo)
    ∷ call (GetSegment 17 64 0 No 0 0 0)
    ∷ call (GetSegment 2 64 0 No 0 0 0)
    ∷ call (GetSegment 2 64 0 Yes 1 1 1)
    ∷ call (GetSegment 17 64 0 Yes 2 1 1)
    ∷ clock
    ∷ []

not_by_whole_id : ¬ Demand3 by_whole_id
unfolding everything
not_by_whole_id = differs by_whole_id two_wait refl

-- 54. A GENERATION ISN'T CHECKED: an ident answers where a live slot is of generation 65,536, which no id has
abbrev generation_unchecked : Implementation
generation_unchecked = but region_ident 25 λ m d c a. done m d (region_id d 0)

abbrev beyond : Manager → Manager
beyond d = with_region d 0 (new_region generations 1 4 252 64 Fifo)

not_generation_unchecked : ¬ Demand1 generation_unchecked
unfolding everything
not_generation_unchecked =
    let s = reached (create ∷ []) in
    passes_unsound generation_unchecked s.memory (beyond s.manager) (IdentRegion 1) refl refl
