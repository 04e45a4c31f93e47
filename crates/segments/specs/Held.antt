-- The held segment at an address, of a region that an id names. Assumes nothing.
use Rattle.std.specs.Prelude.{ℕ, ◌*◌, ◌≤◌, ◌≡◌, cond, List, Ok, Err, eqb, refl}
use Rattle.std.specs.declared.result.Result.{Result}
use Rattle.manager.specs.Record.{region_of}
use Rattle.manager.specs.Region.{dead, layout_of, held_at}
use Rattle.manager.specs.Sound.{Sited}
use Rattle.manager.specs.declared.Manager.{Manager}
use Rattle.manager.specs.declared.Region.{Region}
use Rattle.manager.specs.declared.Status.{Status}
use Rattle.manager.specs.declared.Status.TheVariants.{InvalidId, InvalidAddress}
use Rattle.segments.specs.declared.checks.Held.{Held}
use Rattle.segments.specs.declared.site.Site.{Site}

-- a region with its layout
abbrev pub site_of : Region → Site
site_of r = record { region = r; layout = layout_of r; laid = refl }

-- 4 and 9 where there is none
abbrev pub held_told : List ℕ → Manager → ℕ → ℕ → Result Held Status
held_told m d id address =
    let r = region_of d id in
    cond (dead r) (Err InvalidId)
    (cond (eqb (held_at m r address) 0) (Err InvalidAddress) (Ok (record { site = site_of r; pages = held_at m r address })))

-- it is of a live region, and has a page
pub record Holds (m : List ℕ) (d : Manager) (id address : ℕ) (s : Held) : Type 0 where
  pub region : s.site.region ≡ region_of d id
  pub pages : s.pages ≡ held_at m s.site.region address
  pub some : 1 ≤ s.pages
  pub sited : Sited m s.site.region
  pub short : s.pages * s.site.region.page ≤ 65536
