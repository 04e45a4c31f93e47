-- What the checks of a directive leave: the partition that an id names is a live one of sound records. Assumes nothing.
use Prim.Native.Nat.{ℕ, ◌+◌, ◌≤◌, ◌<◌}
use mathlib.Core.Path.{◌≡◌}
use mathlib.Core.Bool.{true, false}
use mathlib.Core.List.{List}
use native.Mathlib.Omega.{arith}
use native.Mathlib.Nat.{div-le_self}
use borrow.Author.Tests.{eqb-false}
use Rattle.manager.specs.Record.{generations, partition_of}
use Rattle.manager.specs.Sound.{sound, live_partition}
use Rattle.manager.specs.Partition.{dead_partition, buffers, is_buffer, is_free}
use Rattle.manager.proofs.Laws.Sound.{generation_live}
use Rattle.manager.proofs.Laws.Partition.Live.{live_laid, live_chain, partition_generation_lem, sound_slot, sound_live, sound_most}
use Rattle.manager.proofs.Laws.Partition.Repeats.{free_fewer}
use Rattle.manager.specs.declared.Manager.{Manager}

module _ (m : List ℕ) (d : Manager) (ok : sound m d ≡ true) (id : ℕ) (f : dead_partition (partition_of d id) ≡ false) where
  -- its generation can rise
  pub can_rise : (partition_of d id).generation < generations
  can_rise =
      let p = partition_of d id in
      generation_live p.name p.generation (partition_generation_lem m p (sound_slot m d ok id (eqb-false p.name 0 f))) (eqb-false p.name 0 f)

  live : live_partition m (partition_of d id) ≡ true
  live = sound_live m d ok id (eqb-false (partition_of d id).name 0 f)

  pub has_size : 0 < (partition_of d id).size
  has_size = omega (arith, (live_laid m (partition_of d id) live).shaped.big)

  -- one more is free, and the count fits
  pub can_return : (address : ℕ) → is_buffer (partition_of d id) address ≡ true → is_free m (partition_of d id) address ≡ false
      → (partition_of d id).free + 1 < 4294967296
  can_return a b o =
      let p = partition_of d id in
      let g = live_laid m p live in
      let w : buffers p ≤ p.length = div-le_self p.length p.size in
      omega (arith, free_fewer m p g.shaped (live_chain m p live) a b o, w, g.inside, sound_most m d ok)

pub ruleset reading = (can_rise, has_size, can_return)
