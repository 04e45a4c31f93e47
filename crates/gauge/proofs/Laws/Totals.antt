-- The two totals of a live region's information, in a sound record: together they are the bytes of its pages, of which there is one at
-- least. Assumes nothing.
use Prim.Native.Nat.{ℕ, ◌+◌, ◌*◌, ◌^◌, ◌≤◌, ◌<◌}
use mathlib.Core.Path.{◌≡◌, refl, sym, ap, ◌∙◌}
use mathlib.Core.Bool.{Bool, true, false}
use mathlib.Core.List.{List, [], ◌∷◌}
use native.Mathlib.Omega.{arith}
use native.Mathlib.Nat.{add-mul, mul-pos}
use lib.Ieee.{binary64, round}
use lib.Ieee.Scale.{round_same}
use Rattle.manager.specs.Map.{Segment, free, held, free_sizes, held_sizes, sum_of, total}
use Rattle.manager.specs.Record.{region_of}
use Rattle.manager.specs.Region.{dead, pages_of, frees, helds, segments}
use Rattle.manager.specs.Regions.{answered, information_of, informed, region_information}
use Rattle.manager.specs.Result.{check, checked}
use Rattle.manager.specs.Sound.{Sited, sound}
use Rattle.manager.specs.declared.Information.{Information}
use Rattle.manager.specs.declared.Manager.{Manager}
use Rattle.manager.specs.declared.Region.{Region}
use Rattle.manager.specs.declared.Status.TheVariants.{InvalidId}
use Rattle.manager.proofs.Laws.Sound.{sited, total_segments, pages_end}

-- what is free and what is held are all pages
all_pages : (s : List Segment) → sum_of (free_sizes s) + sum_of (held_sizes s) ≡ total s
unfolding free_sizes held_sizes sum_of total
all_pages [] = refl
all_pages (free n ∷ s) = let h = all_pages s in omega arith
all_pages (held n ∷ s) = let h = all_pages s in omega arith

-- what passes both checks is informed
passed : (ok gone : Bool) (m : List ℕ) (d : Manager) (i : Information) → ok ≡ true → gone ≡ false
    → answered ok m d (check gone InvalidId ∷ []) (informed m d i) ≡ informed m d i
unfolding checked
passed ok gone m d i e f = rw (e, f)

module _ (m : List ℕ) (d : Manager) (id : ℕ) (ok : sound m d ≡ true) (live : dead (region_of d id) ≡ false) where
  abbrev r : Region
  r = region_of d id

  abbrev i : Information
  i = (region_information m d id).information

  information_is : i ≡ information_of r.page (frees m r) (helds m r)
  unfolding region_information
  information_is = ap (λ s. s.information) (passed (sound m d) (dead r) m d (information_of r.page (frees m r) (helds m r)) ok live)

  abbrev sites : Sited m r
  sites = sited m d id ok live

  counted : sum_of (frees m r) + sum_of (helds m r) ≡ pages_of r
  counted = all_pages (segments m r) ∙ total_segments m r sites

  pub both_totals : i.free_total + i.held_total ≡ pages_of r * r.page
  both_totals =
      ap (λ (i : Information). i.free_total + i.held_total) information_is
      ∙ sym (add-mul (sum_of (frees m r)) (sum_of (helds m r)) r.page)
      ∙ ap (λ (n : ℕ). n * r.page) counted

  held_is : i.held_total ≡ sum_of (helds m r) * r.page
  held_is = ap (λ (i : Information). i.held_total) information_is

  some_pages : 0 < pages_of r
  some_pages = sites.laid.some

  some_page : 0 < r.page
  some_page = omega (arith, sites.laid.page_low)

  pub some_bytes : 0 < pages_of r * r.page
  some_bytes = mul-pos some_pages some_page

  pub few_bytes : pages_of r * r.page ≤ 2 ^ 53
  few_bytes = omega (arith, pages_end m r sites.laid)

  -- bytes over bytes are pages over pages
  pub by_pages : round binary64 false i.held_total (i.free_total + i.held_total) ≡ round binary64 false (sum_of (helds m r)) (pages_of r)
  by_pages =
      rw (both_totals, held_is)
      (round_same binary64 false (sum_of (helds m r) * r.page) (pages_of r * r.page) (sum_of (helds m r)) (pages_of r) some_bytes some_pages
      (omega arith))
