-- AN ID NEVER OPENS ANOTHER OBJECT. By the receipts alone: an id that was answered is there still, or its slot has left the id's generation
-- (`Used`). Every call keeps that so, and no create answers such an id; and one that was deleted is of a generation that its slot has left
-- (`Left`), so that the receipts never have it again. Assumes nothing.
use Rattle.std.specs.Prelude.{Option, None, Some}
use mathlib.Core.Path.{◌≡◌, refl, sym, ap, ◌∙◌}
use mathlib.Core.Bool.{Bool, true, cond, ◌&&◌, true≢false}
use mathlib.Core.List.{List, [], ◌∷◌}
use Prim.Native.Nat.{ℕ, zero, suc, ◌+◌, ◌≤◌, ◌<◌}
use native.Mathlib.Omega.{arith}
use borrow.Author.Tests.{leb-false, ne_eqb}
use lib.Dec.{ltb}
use Rattle.manager.specs.Record.{slots, generations, slot_of, generation_of}
use Rattle.manager.specs.Lists.{every}
use Rattle.manager.proofs.Laws.Appended.{by_case}
use Rattle.manager.proofs.Laws.Lists.{and_first}
use Rattle.manager.proofs.Laws.Ids.{slot_id, generation_id}
use Rattle.manager.proofs.Laws.Result.{Passed}
use Rattle.manager.specs.declared.Notice.{Notice}
use Rattle.manager.specs.declared.Order.{Order}
use Rattle.manager.specs.declared.Status.TheVariants.{Successful, InvalidId}
use Rattle.manager.specs.declared.Call.{Call}
use Rattle.manager.specs.declared.Call.TheVariants.{CreateRegion, IdentRegion, DeleteRegion, GetSegment, ReturnSegment, SegmentSize, ResizeSegment, RegionInformation, CreatePartition, IdentPartition, DeletePartition, GetBuffer, ReturnBuffer, Tick}
use Rattle.trace.specs.Receipts.{Receipts, Reply, update, deleted, map_option, on_region, lend, with_waits, without, wait_of, noticed, all_noticed, is_success, is_waiting}
use Rattle.trace.specs.Replies.{yes, decided, living, vacant, first_slot, id_now, new_slot, region_now, partition_now, new_region_slot, new_partition_slot, by_receipts, entered, waited, note}
use Rattle.trace.specs.Trace.{Object, region, partition}
use Rattle.trace.specs.Ids.{Names, by_delete, by_get, by_return, by_size, by_resize, by_information, by_delete_partition, by_get_buffer, by_return_buffer}
use Rattle.trace.proofs.Replies.Checks.{passed}
use Rattle.trace.proofs.Loans.Tests.{by_eqb}
use Rattle.trace.proofs.Slots.{deleted_here}
use Rattle.trace.proofs.Regions.Picture.{update_here, update_other}

-- ---- of either kind, by its entries and the deletes of its slots

-- the slot has left the id's generation
abbrev pub Left : (ℕ → ℕ) → ℕ → Type 0
Left deletes id = generation_of id < deletes (slot_of id)

-- the id was answered once: it is there still, or its slot has left it
pub data Used {A : Type 0} (entries : ℕ → Option A) (deletes : ℕ → ℕ) (id : ℕ) : Type 0 where
  there : (e : A) → entries id ≡ Some e → Used entries deletes id
  left : Left deletes id → Used entries deletes id

-- what comes after: what was there was answered once, and no slot has fewer deletes
pub record Moves {A : Type 0} (f : ℕ → Option A) (n : ℕ → ℕ) (f' : ℕ → Option A) (n' : ℕ → ℕ) : Type 0 where
  pub kept : (id : ℕ) (e : A) → f id ≡ Some e → Used f' n' id
  pub more : (i : ℕ) → n i ≤ n' i

module _ {A : Type 0} where
  pub used_moved : {f f' : ℕ → Option A} {n n' : ℕ → ℕ} → Moves f n f' n' → (id : ℕ) → Used f n id → Used f' n' id
  used_moved v id (there e q) = v.kept id e q
  used_moved v id (left h) = left (omega (arith, v.more (slot_of id)))

  moves_same : (f : ℕ → Option A) (n : ℕ → ℕ) → Moves f n f n
  moves_same f n = record { kept = λ id e q. there e q; more = λ i. omega arith }

  moves_on : {f g h : ℕ → Option A} {k l m : ℕ → ℕ} → Moves f k g l → Moves g l h m → Moves f k h m
  moves_on v w = record { kept = λ id e q. used_moved w id (v.kept id e q); more = λ i. omega (arith, v.more i, w.more i) }

  -- an entry made, changed or struck
  module _ (f : ℕ → Option A) (n : ℕ → ℕ) (id : ℕ) where
    moves_made : (x : A) → Moves f n (update id (Some x) f) n
    moves_made x =
        record {
          kept = λ j e q. by_eqb j id (λ b. Used (update id (Some x) f) n j)
              (λ h. there x (rw h (update_here id (Some x) f))) (λ h. there e (update_other id (Some x) f j h ∙ q));
          more = λ i. omega arith;
        }

    moves_changed : (g : A → A) → Moves f n (update id (map_option g (f id)) f) n
    moves_changed g =
        record {
          kept = λ j e q. by_eqb j id (λ b. Used (update id (map_option g (f id)) f) n j)
              (λ h. there (g e) (rw h (update_here id (map_option g (f id)) f) ∙ ap (map_option g) (ap f (sym h) ∙ q)))
              (λ h. there e (update_other id (map_option g (f id)) f j h ∙ q));
          more = λ i. omega arith;
        }

    moves_struck : ((e : A) → f id ≡ Some e → generation_of id ≡ n (slot_of id)) → Moves f n (update id None f) (deleted id n)
    moves_struck now =
        record {
          kept = λ j e q. by_eqb j id (λ b. Used (update id None f) (deleted id n) j)
              (λ h. left (rw h (struck e (ap f (sym h) ∙ q)))) (λ h. there e (update_other id None f j h ∙ q));
          more = λ i. by_eqb i (slot_of id) (λ b. n i ≤ cond b (suc (n i)) (n i)) (λ h. omega arith) (λ h. omega arith);
        }
      where
        struck : (e : A) → f id ≡ Some e → Left (deleted id n) id
        struck e q = let g = now e q in omega (arith, deleted_here id n)

-- ---- the receipts after a call

pub record Follows (t u : Receipts) : Type 0 where
  pub regions : Moves t.regions t.region_deletes u.regions u.region_deletes
  pub partitions : Moves t.partitions t.partition_deletes u.partitions u.partition_deletes

module _ (t : Receipts) where
  abbrev rs : Moves t.regions t.region_deletes t.regions t.region_deletes
  rs = moves_same t.regions t.region_deletes

  abbrev ps : Moves t.partitions t.partition_deletes t.partitions t.partition_deletes
  ps = moves_same t.partitions t.partition_deletes

  pub follows_same : Follows t t
  follows_same = record { regions = rs; partitions = ps }

pub follows_on : {t u w : Receipts} → Follows t u → Follows u w → Follows t w
follows_on f g = record { regions = moves_on f.regions g.regions; partitions = moves_on f.partitions g.partitions }

-- each entry is of the generation that its slot has, as the invariant says
pub record Generations (t : Receipts) : Type 0 where
  pub region : (id : ℕ) → ((e : _) → t.regions id ≡ Some e → generation_of id ≡ t.region_deletes (slot_of id))
  pub partition : (id : ℕ) → ((e : _) → t.partitions id ≡ Some e → generation_of id ≡ t.partition_deletes (slot_of id))

module _ (t : Receipts) (now : Generations t) where
  entered_follows : (c : Call) (v : ℕ) → Follows t (entered c v t)
  entered_follows (CreateRegion name start bytes page order) v = record { regions = moves_made t.regions t.region_deletes v _; partitions = ps t }
  entered_follows (DeleteRegion id) v = record { regions = moves_struck t.regions t.region_deletes id (now.region id); partitions = ps t }
  entered_follows (GetSegment id size alignment wait task priority ticks) v = record { regions = moves_changed t.regions t.region_deletes id _; partitions = ps t }
  entered_follows (ReturnSegment id address) v = record { regions = moves_changed t.regions t.region_deletes id _; partitions = ps t }
  entered_follows (ResizeSegment id address size) v = record { regions = moves_changed t.regions t.region_deletes id _; partitions = ps t }
  entered_follows (CreatePartition name start bytes size) v = record { regions = rs t; partitions = moves_made t.partitions t.partition_deletes v _ }
  entered_follows (DeletePartition id) v = record { regions = rs t; partitions = moves_struck t.partitions t.partition_deletes id (now.partition id) }
  entered_follows (GetBuffer id) v = record { regions = rs t; partitions = moves_changed t.partitions t.partition_deletes id _ }
  entered_follows (ReturnBuffer id address) v = record { regions = rs t; partitions = moves_changed t.partitions t.partition_deletes id _ }
  entered_follows Tick v = record { regions = rs t; partitions = ps t }
  entered_follows (IdentRegion name) v = follows_same t
  entered_follows (SegmentSize id address) v = follows_same t
  entered_follows (RegionInformation id) v = follows_same t
  entered_follows (IdentPartition name) v = follows_same t

  waited_follows : (c : Call) → Follows t (waited c t)
  waited_follows (GetSegment id size alignment wait task priority ticks) = record { regions = rs t; partitions = ps t }
  waited_follows (CreateRegion name start bytes page order) = follows_same t
  waited_follows (IdentRegion name) = follows_same t
  waited_follows (DeleteRegion id) = follows_same t
  waited_follows (ReturnSegment id address) = follows_same t
  waited_follows (SegmentSize id address) = follows_same t
  waited_follows (ResizeSegment id address size) = follows_same t
  waited_follows (RegionInformation id) = follows_same t
  waited_follows (CreatePartition name start bytes size) = follows_same t
  waited_follows (IdentPartition name) = follows_same t
  waited_follows (DeletePartition id) = follows_same t
  waited_follows (GetBuffer id) = follows_same t
  waited_follows (ReturnBuffer id address) = follows_same t
  waited_follows Tick = follows_same t

-- and after its notices
noticed_follows : (ns : List Notice) (t : Receipts) → Follows t (all_noticed ns t)
unfolding all_noticed
noticed_follows [] t = follows_same t
noticed_follows (n ∷ ns) t =
    let w = wait_of n.task t.waits in
    let u = with_waits (without n.task t.waits) t in
    let one : Follows t (noticed n t) =
    by_case (is_success n.status) (λ b. Follows t (cond b (on_region w.id (lend n.address w.size) u) u))
    (λ e. record { regions = moves_changed t.regions t.region_deletes w.id _; partitions = ps t }) (λ e. record { regions = rs t; partitions = ps t }) in
    follows_on one (noticed_follows ns (noticed n t))

-- AFTER EVERY CALL, WHATEVER IT IS ANSWERED
pub note_follows : (t : Receipts) → Generations t → (c : Call) (a : Reply) → Follows t (note c a t)
unfolding note
note_follows t now c a =
    let u = cond (is_success a.status) (entered c a.value t) (cond (is_waiting a.status) (waited c t) t) in
    let one : Follows t u =
    by_case (is_success a.status) (λ b. Follows t (cond b (entered c a.value t) (cond (is_waiting a.status) (waited c t) t)))
    (λ e. entered_follows t now c a.value)
    (λ e. by_case (is_waiting a.status) (λ b. Follows t (cond b (waited c t) t)) (λ f. waited_follows t now c) (λ f. follows_same t)) in
    follows_on one (noticed_follows a.notices u)

-- ---- A CREATE ANSWERS AN ID THAT WAS NEVER USED, and it is used from then on

-- what the first slot found passes
pub first_passes : (p : ℕ → Bool) (n k : ℕ) → first_slot p n k < k + n → p (first_slot p n k) ≡ true
unfolding first_slot
first_passes p zero k h = absurd (omega arith)
first_passes p (suc n) k h =
    by_case (p k) (λ b. p k ≡ b → cond b k (first_slot p n (suc k)) < k + suc n → p (cond b k (first_slot p n (suc k))) ≡ true)
    (λ e f u. e) (λ e f u. first_passes p n (suc k) (omega arith)) refl h

module _ {A : Type 0} (f : ℕ → Option A) (n : ℕ → ℕ) (h : new_slot f n < slots) where
  new_unused : ¬ Used f n (id_now n (new_slot f n))
  new_unused u = go u
    where
      i : ℕ
      i = new_slot f n

      empty : vacant (f (id_now n i)) ≡ true
      empty = and_first (vacant (f (id_now n i))) _ (first_passes (λ j. vacant (f (id_now n j)) && ltb (n j) generations) slots 0 (omega arith))

      go : Used f n (id_now n i) → ⊥
      go (there e q) = true≢false (sym empty ∙ ap vacant q)
      go (left l) = omega (arith, generation_id i (n i) h, ap n (slot_id i (n i) h))

module _ (k : ℕ) (t : Receipts) where
  pub region_unused : (name start bytes page : ℕ) (order : Order) → let a = by_receipts k t (CreateRegion name start bytes page order) in
      a.status ≡ Successful → ¬ Used t.regions t.region_deletes a.value
  unfolding by_receipts every Passed
  region_unused name start bytes page order e =
      let x = passed _ (yes (region_now t (new_region_slot t))) refl e in
      rw x.1 (new_unused t.regions t.region_deletes (leb-false slots (new_region_slot t) x.0.1.1.1.1.1.1.1.1.0))

  pub partition_unused : (name start bytes size : ℕ) → let a = by_receipts k t (CreatePartition name start bytes size) in
      a.status ≡ Successful → ¬ Used t.partitions t.partition_deletes a.value
  unfolding by_receipts every Passed
  partition_unused name start bytes size e =
      let x = passed _ (yes (partition_now t (new_partition_slot t))) refl e in
      rw x.1 (new_unused t.partitions t.partition_deletes (leb-false slots (new_partition_slot t) x.0.1.1.1.1.1.1.1.1.1.1.1.0))

-- ---- an object by its id, of either kind

abbrev pub UsedId : Receipts → Object → Type 0
UsedId t (region id) = Used t.regions t.region_deletes id
UsedId t (partition id) = Used t.partitions t.partition_deletes id

abbrev pub LeftId : Receipts → Object → Type 0
LeftId t (region id) = Left t.region_deletes id
LeftId t (partition id) = Left t.partition_deletes id

pub used_on : {t u : Receipts} → Follows t u → (o : Object) → UsedId t o → UsedId u o
used_on f (region id) h = used_moved f.regions id h
used_on f (partition id) h = used_moved f.partitions id h

pub left_on : {t u : Receipts} → Follows t u → (o : Object) → LeftId t o → LeftId u o
left_on f (region id) h = omega (arith, f.regions.more (slot_of id))
left_on f (partition id) h = omega (arith, f.partitions.more (slot_of id))

-- what a call of success enters comes ahead of its notices
entered_first : (c : Call) (a : Reply) (t : Receipts) → a.status ≡ Successful → Follows (entered c a.value t) (note c a t)
unfolding note
entered_first c a t e = rw (ap is_success e) (noticed_follows a.notices (entered c a.value t))

-- a create's id is used from then on, and a delete's has been left
pub region_used : (name start bytes page : ℕ) (order : Order) (a : Reply) (t : Receipts) → a.status ≡ Successful
    → UsedId (note (CreateRegion name start bytes page order) a t) (region a.value)
region_used name start bytes page order a t e =
    used_on (entered_first (CreateRegion name start bytes page order) a t e) (region a.value) (there _ (update_here a.value _ t.regions))

pub partition_used : (name start bytes size : ℕ) (a : Reply) (t : Receipts) → a.status ≡ Successful
    → UsedId (note (CreatePartition name start bytes size) a t) (partition a.value)
partition_used name start bytes size a t e =
    used_on (entered_first (CreatePartition name start bytes size) a t e) (partition a.value) (there _ (update_here a.value _ t.partitions))

-- what is under an id that is answered with success
living_some : {A : Type 0} (o : Option A) (f : A → Reply) → (living o f).status ≡ Successful → (e : A) × (o ≡ Some e)
living_some None f h = absurd (true≢false (sym (ap is_success h)))
living_some (Some e) f h = (e, refl)

module _ (k : ℕ) (t : Receipts) (now : Generations t) (id : ℕ) where
  pub region_left : (a : Reply) → a ≡ by_receipts k t (DeleteRegion id) → a.status ≡ Successful → LeftId (note (DeleteRegion id) a t) (region id)
  unfolding by_receipts
  region_left a e h =
      let x = living_some (t.regions id) _ (ap (λ (r : Reply). r.status) (sym e) ∙ h) in
      left_on (entered_first (DeleteRegion id) a t h) (region id) (omega (arith, deleted_here id t.region_deletes, now.region id x.0 x.1))

  pub partition_left : (a : Reply) → a ≡ by_receipts k t (DeletePartition id) → a.status ≡ Successful → LeftId (note (DeletePartition id) a t) (partition id)
  unfolding by_receipts
  partition_left a e h =
      let x = living_some (t.partitions id) _ (ap (λ (r : Reply). r.status) (sym e) ∙ h) in
      left_on (entered_first (DeletePartition id) a t h) (partition id) (omega (arith, deleted_here id t.partition_deletes, now.partition id x.0 x.1))

-- ---- WHAT IS LEFT IS IN NO RECEIPTS, and so it is answered 4

left_none : {A : Type 0} (f : ℕ → Option A) (n : ℕ → ℕ) (id : ℕ) → ((e : A) → f id ≡ Some e → generation_of id ≡ n (slot_of id)) → Left n id → f id ≡ None
left_none f n id now h = go (f id) refl
  where
    go : (o : Option _) → f id ≡ o → f id ≡ None
    go None q = q
    go (Some e) q = absurd (let g = now e q in omega arith)

abbrev pub Missing : Receipts → Object → Type 0
Missing t (region id) = t.regions id ≡ None
Missing t (partition id) = t.partitions id ≡ None

pub missing : (t : Receipts) → Generations t → (o : Object) → LeftId t o → Missing t o
missing t now (region id) h = left_none t.regions t.region_deletes id (now.region id) h
missing t now (partition id) h = left_none t.partitions t.partition_deletes id (now.partition id) h

module _ (k : ℕ) (t : Receipts) where
  pub answers_missing : (c : Call) (o : Object) → Names c o → Missing t o → (by_receipts k t c).status ≡ InvalidId
  unfolding by_receipts decided
  answers_missing c o (by_delete id) h = rw h
  answers_missing c o (by_get id size alignment wait task priority ticks n) h = rw (ne_eqb size 0 n, h)
  answers_missing c o (by_return id address) h = rw h
  answers_missing c o (by_size id address) h = rw h
  answers_missing c o (by_resize id address size n) h = rw (ne_eqb size 0 n, h)
  answers_missing c o (by_information id) h = rw h
  answers_missing c o (by_delete_partition id) h = rw h
  answers_missing c o (by_get_buffer id) h = rw h
  answers_missing c o (by_return_buffer id address) h = rw h
