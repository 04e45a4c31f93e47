-- What the checks of delete and information leave: the region that an id names is a live one of sound records. Assumes nothing.
use Prim.Native.Nat.{ℕ, ◌≤◌, ◌<◌}
use mathlib.Core.Path.{◌≡◌, refl, sym}
use mathlib.Core.Bool.{true, false, not}
use mathlib.Core.List.{List}
use native.Mathlib.Omega.{arith}
use lib.ListN.{length}
use borrow.Author.Tests.{eqb-false}
use Rattle.manager.specs.Record.{generations, region_of}
use Rattle.manager.specs.Map.{tiled}
use Rattle.manager.specs.Region.{dead, layout_of, words_at, any_held}
use Rattle.map.specs.Word.{one_free}
use Rattle.map.proofs.Word.{free_of}
use Rattle.manager.specs.Sound.{sound, Sited}
use Rattle.manager.proofs.Laws.Sound.{generation_live, region_generation_lem, sound_slot, tiled_map, live_sited, map_long, pages_few}
use Rattle.manager.specs.declared.Manager.{Manager}

module _ (m : List ℕ) (d : Manager) (ok : sound m d ≡ true) (id : ℕ) (f : dead (region_of d id) ≡ false) where
  -- its generation can rise
  pub can_rise : (region_of d id).generation < generations
  can_rise =
      let r = region_of d id in
      generation_live r.name r.generation (region_generation_lem m r (sound_slot m d id ok f)) (eqb-false r.name 0 f)

  live : Sited m (region_of d id)
  live = live_sited m d ok id (region_of d id) refl (eqb-false (region_of d id).name 0 f)

  -- something is held exactly where its map is not one free segment
  pub held_is : any_held m (region_of d id) ≡ not (one_free m (layout_of (region_of d id)))
  held_is = sym (free_of m (region_of d id) live (layout_of (region_of d id)) refl (one_free m (layout_of (region_of d id))) refl)

  -- its map is tiled, and short
  abbrev words : List ℕ
  words = words_at m (layout_of (region_of d id))

  pub map_is : (words ≡ words) × (tiled words ≡ true) × (length words ≤ 16384) × ((region_of d id).page ≤ 4096)
  map_is =
      let r = region_of d id in
      (refl, tiled_map m r live, omega (arith, map_long m r live.laid, pages_few m r live.laid), live.laid.page_high)

pub ruleset reading = (held_is, can_rise, map_is)
