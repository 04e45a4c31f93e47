-- Information on a region: counts and sums over its runs of free pages and its loans, and nothing changes. Assumes nothing.
use mathlib.Core.Path.{◌≡◌, refl, ap, ◌∙◌}
use mathlib.Core.List.{List, [], ◌∷◌}
use Prim.Native.Nat.{ℕ, ◌+◌, max}
use lib.ListN.{length}
use Rattle.manager.specs.Lists.{every}
use Rattle.manager.specs.Map.{largest_of, sum_of}
use Rattle.manager.specs.Regions.{region_information, information_of, informed}
use Rattle.manager.specs.Region.{frees, helds, dead}
use Rattle.manager.specs.declared.Manager.{Manager}
use Rattle.manager.specs.declared.Information.{Information}
use Rattle.manager.specs.declared.Call.TheVariants.{RegionInformation}
use Rattle.manager.specs.Record.{region_of}
use Rattle.manager.specs.Result.{check, checked}
use Rattle.manager.specs.declared.Status.TheVariants.{InvalidId}
use Rattle.trace.specs.Loans.{loan_pages, most, sum}
use Rattle.trace.specs.Receipts.{Receipts, RegionEntry, unit, span_in, page_loans, reading, reply_of}
use Rattle.trace.specs.Replies.{information_in, informs, by_receipts}
use Rattle.trace.proofs.Invariant.{region_for, RegionIs, Inv}
use Rattle.trace.proofs.Regions.Checks.{Kept, kept_checked, Right, kept_answer}
use Rattle.trace.proofs.Regions.Queue.{sound_inv}
use Rattle.trace.proofs.Map.{shows}
use Rattle.trace.proofs.Replies.Checks.{answers, at_region}

-- the largest of a list of sizes, and their sum
most_is : (l : List ℕ) → largest_of l ≡ most l
unfolding largest_of most
most_is [] = refl
most_is (n ∷ l) = ap (max n) (most_is l)

sum_is : (l : List ℕ) → sum_of l ≡ sum l
unfolding sum_of sum
sum_is [] = refl
sum_is (n ∷ l) = ap (◌+◌ n) (sum_is l)

-- count, largest and total bytes over a map, by its loans
information_is : (m : List ℕ) (e : RegionEntry) → RegionIs m e
    → information_of (unit e) (frees m (region_for e)) (helds m (region_for e)) ≡ information_in e
information_is m e is =
    let s = shows m e is in
    let free = (reading e).runs (span_in e) (page_loans e) in
    let held = loan_pages e.loans in
    ap (information_of (unit e) (frees m (region_for e))) s.helds ∙ ap (λ (l : List ℕ). information_of (unit e) l held) s.frees
    ∙ rw (most_is free, sum_is free, most_is held, sum_is held)

module _ (m : List ℕ) (d : Manager) (t : Receipts) (v : Inv m d t) where
  keeps_information : (id : ℕ) → Kept (RegionInformation id) m t (region_information m d id)
  unfolding region_information every
  keeps_information id =
      kept_checked (RegionInformation id) m d t v _ _ (sound_inv m d t v) refl (λ c. kept_answer (RegionInformation id) m d t v 0 _ refl)

  replies_information : (id : ℕ) → reply_of (region_information m d id) ≡ by_receipts (length m) t (RegionInformation id)
  unfolding region_information by_receipts checked
  replies_information id =
      answers m d (check (dead (region_of d id)) InvalidId ∷ []) _ _ (sound_inv m d t v)
      (at_region m d (region_of d id) (t.regions id) (v.picture.regions id)
      (λ r. []) (λ r. informed m d (information_of r.page (frees m r) (helds m r))) _
      (λ _ e is q p. ap (λ (i : Information). informs i) (information_is m e is)))

  pub right : (id : ℕ) → Right (RegionInformation id) m t (region_information m d id)
  right id = record { kept = keeps_information id; replies = replies_information id }
