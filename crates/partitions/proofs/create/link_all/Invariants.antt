use Rattle.std.proofs.Common.{◌-◌, ◌≡◌}
use Rattle.manager.specs.Partition.{buffers, link_all}
use Rattle.partitions.proofs.create.link_all.Given as goal

-- what is left to chain gives the whole
abbrev pub invariant-loop-k : goal.invariant-loop-k
invariant-loop-k l = link_all (buffers l.p - l.k) l.mem l.p l.k ≡ link_all (buffers l.p) l.initial.mem l.p 0
