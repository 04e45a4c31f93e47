-- The picture of the objects, without the waits: the memory and the record as the receipts say. A step in one region keeps the picture,
-- with the loans of that region changed. Assumes nothing.
use Rattle.std.specs.Prelude.{Option, Some}
use mathlib.Core.Path.{◌≡◌, refl, sym, ap, subst, fun_ext}
use mathlib.Core.Bool.{Bool, true, cond}
use mathlib.Core.List.{List}
use Prim.Native.Nat.{ℕ}
use native.Mathlib.Omega.{arith}
use lib.ListN.{length}
use borrow.Author.Tests.{eq-eqb, ne_eqb}
use Rattle.manager.specs.Record.{region_of, partition_of, with_queue}
use Rattle.manager.specs.Sound.{sound_length}
use Rattle.manager.specs.declared.Manager.{Manager}
use Rattle.manager.specs.declared.Region.{Region}
use Rattle.manager.specs.declared.Waiter.{Waiter}
use Rattle.manager.proofs.Laws.Areas.{area_for, Clear}
use Rattle.trace.specs.Loans.{Loan}
use Rattle.trace.specs.Receipts.{Receipts, RegionEntry, Wait, update, map_option, with_regions, on_region, with_waits, with_loans}
use Rattle.trace.specs.Trace.{Object, region, partition}
use Rattle.trace.proofs.Invariant.{Only, region_for, RegionSlot, live, Picture}
use Rattle.trace.proofs.Frame.{map_area}
use Rattle.trace.proofs.Areas.{area_in, sound_clear, region_kept, partition_kept}
use Rattle.trace.proofs.Loans.Tests.{by_eqb}
use Rattle.trace.proofs.Map.{Steps}
use Rattle.trace.proofs.Clients.{RegionAt, region_at_lem}

-- ---- an entry under an id

module _ {A : Type 0} (id : ℕ) (e : Option A) (f : ℕ → Option A) where
  pub update_here : update id e f id ≡ e
  update_here = rw (eq-eqb id id refl)

  pub update_other : (j : ℕ) → ¬ (j ≡ id) → update id e f j ≡ f j
  update_other j h = rw (ne_eqb j id h)

  pub update_again : (g : Option A) → update id e (update id g f) ≡ update id e f
  update_again g =
      fun_ext (λ j. by_eqb j id (λ (b : Bool). cond b e (cond b g (f j)) ≡ cond b e (f j)) (λ h. refl) (λ h. refl))

  pub update_same : f id ≡ e → update id e f ≡ f
  update_same q =
      fun_ext (λ j. by_eqb j id (λ (b : Bool). cond b e (f j) ≡ f j) (λ h. rw h (sym q)) (λ h. refl))

-- the receipts with another entry for a region, and with other loans of one
abbrev pub registering : ℕ → Option RegionEntry → Receipts → Receipts
registering id o t = with_regions (update id o t.regions) t

abbrev pub lending : ℕ → RegionEntry → List Loan → Receipts → Receipts
lending id e l t = registering id (Some (with_loans l e)) t

module _ (id : ℕ) (e : RegionEntry) (t : Receipts) where
  pub on_region_lem : (g : RegionEntry → RegionEntry) → t.regions id ≡ Some e → on_region id g t ≡ registering id (Some (g e)) t
  on_region_lem g q = ap (λ (o : Option RegionEntry). registering id (map_option g o) t) q

  pub lending_again : (l k : List Loan) → lending id e k (lending id e l t) ≡ lending id e k t
  lending_again l k = ap (λ (f : ℕ → Option RegionEntry). with_regions f t) (update_again id (Some (with_loans k e)) t.regions (Some (with_loans l e)))

  pub lending_same : (l : List Loan) → t.regions id ≡ Some (with_loans l e) → lending id e l t ≡ t
  lending_same l q = ap (λ (f : ℕ → Option RegionEntry). with_regions f t) (update_same id (Some (with_loans l e)) t.regions q)

-- ---- the picture

-- it does not rest on the queue, nor on the waits
pub any_queue : (m : List ℕ) (d : Manager) (t : Receipts) (q : List Waiter) (w : List Wait) → Picture m d t → Picture m (with_queue d q) (with_waits w t)
any_queue m d t q w v =
    record {
      words = v.words;
      region_slots = v.region_slots;
      partition_slots = v.partition_slots;
      regions = v.regions;
      partitions = v.partitions;
      region_is = v.region_is;
      partition_is = v.partition_is;
      region_names = v.region_names;
      partition_names = v.partition_names;
      areas = v.areas;
    }

-- the words of a memory of which only an area's words differ
pub words_same : (m m' : List ℕ) → length m' ≡ length m → sound_length m ≡ true → sound_length m' ≡ true
words_same m m' e h = rw e h

module _ (m : List ℕ) (d : Manager) (t : Receipts) (v : Picture m d t) (id : ℕ) (e : RegionEntry) (q : t.regions id ≡ Some e) where
  pub live_at : RegionAt m (region_of d id) e
  live_at = region_at_lem m (region_of d id) (t.regions id) e (v.regions id) q

  -- A STEP IN THE REGION: the picture of its other loans
  module _ (m' : List ℕ) (l : List Loan) (step : Steps m e m' l) where
    only : Only e.start e.bytes m m'
    only = map_area m e live_at.is m m' step.only

    clear : (x : Object) → ¬ (region id ≡ x) → Clear (area_for (region_for e)) (area_in d x)
    clear x n = subst (λ (r : Region). Clear (area_for r) (area_in d x)) live_at.region (sound_clear d v.region_slots v.partition_slots v.areas (region id) x n)

    slot_at : (j : ℕ) → RegionSlot m' (region_of d j) (update id (Some (with_loans l e)) t.regions j)
    slot_at j =
        by_eqb j id (λ (b : Bool). RegionSlot m' (region_of d j) (cond b (Some (with_loans l e)) (t.regions j)))
        (λ h. rw (h, live_at.region) (live live_at.generation (with_loans l e) step.is))
        (λ h. region_kept m m' (area_for (region_for e)) (region_of d j) (t.regions j) only
        (clear (region j) (λ (p : region id ≡ region j). h (let s : id ≡ j = cc in sym s))) (v.regions j))

    pub stepped : Picture m' d (lending id e l t)
    stepped =
        record {
          words = words_same m m' only.size v.words;
          region_slots = v.region_slots;
          partition_slots = v.partition_slots;
          regions = slot_at;
          partitions = λ j. partition_kept m m' (area_for (region_for e)) (partition_of d j) (t.partitions j) only
              (clear (partition j) (λ (p : region id ≡ partition j). let z : ◌≡◌ {A = ℕ} 0 1 = cc in omega arith)) (v.partitions j);
          region_is = v.region_is;
          partition_is = v.partition_is;
          region_names = v.region_names;
          partition_names = v.partition_names;
          areas = v.areas;
        }
