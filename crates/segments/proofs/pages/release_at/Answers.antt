-- `release_at` meets its contract: with the most that it can have first, the segment is freed. Assumes nothing.
use Rattle.std.proofs.Common.{arith}
use Rattle.segments.proofs.Extend.{last_out, returned}
use Rattle.segments.proofs.pages.release_at.Goals as goal

pub release-requires : goal.release-requires
release-requires c = last_out c.requires c.extend-pages.ensures (omega (arith, c.extend-pages.auto.map, c.requires.short)) _ c.previous-q.ensures

pub returns : goal.returns
returns c = returned c.requires c.extend-pages.ensures _ c.release.ensures
