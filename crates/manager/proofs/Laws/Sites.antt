-- All regions of a record at once: each live one is sited, and a queue served in one of them leaves the others so. Assumes nothing.
use mathlib.Core.Path.{◌≡◌, sym, ap, ◌∙◌, subst}
use mathlib.Core.Bool.{true}
use mathlib.Core.List.{List}
use mathlib.Core.Logic.{⊎_elim}
use Prim.Native.Nat.{ℕ, ◌<◌}
use native.Mathlib.Omega.{arith}
use lib.ListN.{length, get_or}
use borrow.Author.Tests.{ne_eqb}
use Rattle.manager.specs.Record.{slots, no_region, region_of, id_of, with_queue}
use Rattle.manager.specs.Map.{sound_map}
use Rattle.manager.specs.Region.{kind}
use Rattle.manager.specs.Serve.{serve}
use Rattle.manager.specs.Words.{MapWord, Only}
use Rattle.manager.specs.Sound.{Sited, Sites, sound, sound_region}
use Rattle.manager.specs.declared.Manager.{Manager}
use Rattle.manager.specs.declared.Region.{Region}
use Rattle.manager.specs.declared.Waiter.{Waiter}
use Rattle.manager.proofs.Laws.Lists.{every_at}
use Rattle.manager.proofs.Laws.Distinct.{same_or_not}
use Rattle.manager.proofs.Laws.Ids.{slot_object}
use Rattle.manager.proofs.Laws.Areas.{regions_clear}
use Rattle.manager.proofs.Laws.Serve.{served_queue}
use Rattle.manager.proofs.Laws.Sound.{sound_regions, sound_areas_lem, sound_words, live_of, sited_of, region_most}
use Rattle.manager.proofs.Laws.Words.{sited_mapped, served_only, other_map, other_laid}

-- OF SOUND RECORDS
pub sound_sites : (m : List ℕ) (d : Manager) → sound m d ≡ true → length d.regions ≡ slots → Sites m d
sound_sites m d ok n =
    record {
      sited = λ i h live. (
          let r = get_or d.regions i no_region in
          let e = every_at (sound_region m) d.regions i no_region (sound_regions m d ok) (omega arith) in
          sited_of m r (sound_words m d ok) (live_of m r e (ne_eqb r.name 0 live))
          );
      generation = λ i h. region_most m d ok n i h;
      size = n;
      areas = sound_areas_lem m d ok;
    }

-- they don't rest on the queue
pub sites_queue : (m : List ℕ) (d : Manager) (q : List Waiter) → Sites m d → Sites m (with_queue d q)
sites_queue m d q s = record { sited = s.sited; generation = s.generation; size = s.size; areas = s.areas }

-- A CHANGE IN ONE REGION'S MAP, which leaves that region sited, leaves all so
pub sites_kept : (m : List ℕ) (d : Manager) → Sites m d → (i : ℕ) → i < slots → ¬ ((get_or d.regions i no_region).name ≡ 0)
    → (m' : List ℕ) → Only (MapWord (get_or d.regions i no_region)) m m' → Sited m' (get_or d.regions i no_region) → Sites m' d
sites_kept m d s i h live m' o here = record { sited = each; generation = s.generation; size = s.size; areas = s.areas }
  where
    each : (j : ℕ) → j < slots → ¬ ((get_or d.regions j no_region).name ≡ 0) → Sited m' (get_or d.regions j no_region)
    each j l named =
        let r = get_or d.regions i no_region in
        let x = get_or d.regions j no_region in
        ⊎_elim
        (λ (e : i ≡ j). subst (λ (k : ℕ). Sited m' (get_or d.regions k no_region)) e here)
        (λ (e : i ≡ j → ⊥).
        let c = regions_clear d s.areas i j (omega (arith, s.size)) (omega (arith, s.size)) e in
        let a = s.sited j l named in
        let b = s.sited i h live in
        record {
          laid = other_laid m r x a.laid b.laid c m' o;
          sound = ap (sound_map (kind x).proper) (other_map m r x a.laid b.laid c m' o) ∙ a.sound;
        })
        (same_or_not i j)

-- A QUEUE SERVED in the region of a slot, which stays sited, leaves all regions sited
pub sites_served : (m : List ℕ) (d : Manager) → Sites m d → (i : ℕ) → i < slots
    → ¬ ((get_or d.regions i no_region).name ≡ 0) → (id : ℕ) → id ≡ id_of i (get_or d.regions i no_region).generation
    → Sited (serve m d id).memory (get_or d.regions i no_region) → Sites (serve m d id).memory (serve m d id).manager
sites_served m d s i h live id e here =
    let r = get_or d.regions i no_region in
    let q : region_of d id ≡ r = ap (region_of d) e ∙ slot_object (λ r. r.name) (λ r. r.generation) no_region d.regions i h live in
    let o : Only (MapWord r) m (serve m d id).memory =
    subst (λ (x : Region). Only (MapWord x) m (serve m d id).memory) q (served_only m d id (rw q (sited_mapped m r (s.sited i h live)))) in
    subst (λ (x : Manager). Sites (serve m d id).memory x) (sym (served_queue m d id))
    (sites_queue (serve m d id).memory d (serve m d id).manager.waiters (sites_kept m d s i h live (serve m d id).memory o here))
