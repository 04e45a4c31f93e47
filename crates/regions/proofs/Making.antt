-- What the checks of create leave: the new region lies in the memory, and its slot has a generation. Assumes nothing.
use Prim.Native.Nat.{ℕ, ◌+◌, ◌*◌, ◌≤◌}
use mathlib.Core.Path.{◌≡◌}
use mathlib.Core.Bool.{true, false}
use mathlib.Core.List.{List}
use native.Mathlib.Omega.{arith}
use lib.ListN.{length, get_or}
use lib.Dec.{ltb}
use borrow.Author.Tests.{ltb-true, ltb-false}
use Rattle.arith.specs.Round.{round_up}
use Rattle.arith.proofs.Laws.Round.{round_ge, round_least}
use Rattle.manager.specs.Region.{pages_of}
use Rattle.manager.specs.Regions.{new_region}
use Rattle.manager.specs.Sound.{sound, sound_region, Laid}
use Rattle.manager.proofs.Laws.Sound.{sound_words, sound_regions, generation_most, region_generation_lem}
use Rattle.manager.specs.declared.Manager.{Manager}
use Rattle.manager.specs.declared.Region.{Region}
use Rattle.manager.specs.declared.Order.{Order}
use Rattle.manager.specs.Record.{generations, no_region}
use Rattle.manager.specs.Regions.{region_generation}
use Rattle.manager.proofs.Laws.Appended.{by_case}
use Rattle.manager.proofs.Laws.Lists.{every_at}
use Rattle.std.proofs.lemmas.List.{get_or_past}

-- ---- the page size of a new region

rounded_low : (page : ℕ) → (page ≡ 0 → ⊥) → 8 ≤ round_up page 8
rounded_low page z = omega (arith, round_ge page 8 (omega arith))

rounded_high : (page : ℕ) → page ≤ 4096 → round_up page 8 ≤ 4096
rounded_high page h = round_least page 8 512 (omega arith) (omega arith)

-- the new region, of whatever generation, lies in the memory where it has a page
module _ (m : List ℕ) (d : Manager) (s : sound m d ≡ true) (name start bytes page : ℕ) (order : Order) where
  pub new_laid : ltb (4 * length m) (start + bytes) ≡ false → 1 ≤ page → page ≤ 4096 → (r : Region) → r ≡ new_region 0 name start bytes page order
      → 1 ≤ pages_of r → (g : ℕ) → Laid m (record { name = r.name; generation = g; start = r.start; length = r.length; page = r.page; order = r.order })
  new_laid p low high r er o g =
      rw er
      (record {
        words = sound_words m d s;
        inside = ltb-false (4 * length m) (start + bytes) p;
        page_low = rounded_low page (omega arith);
        page_high = rounded_high page high;
        some = rw er at o;
      })

-- the generation of a slot, and past the slots
pub generation_is_small : (m : List ℕ) (d : Manager) → sound m d ≡ true → (i : ℕ) → region_generation d i ≤ generations
generation_is_small m d ok i =
    by_case (ltb i (length d.regions)) (λ b. region_generation d i ≤ generations)
    (λ e.
    let r = get_or d.regions i no_region in
    generation_most r.name r.generation
    (region_generation_lem m r (every_at (sound_region m) d.regions i no_region (sound_regions m d ok) (ltb-true i (length d.regions) e))))
    (λ e. let z : get_or d.regions i no_region ≡ no_region = get_or_past d.regions i no_region (ltb-false i (length d.regions) e) in rw (region_generation, z) (omega arith))
