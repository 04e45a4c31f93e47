-- The invariant along every list: each call and each client write keeps it.
use Rattle.manager.specs.Perform.{defined}
use Rattle.trace.specs.Trace.{Ask, call, read, write, State, after, Runs, end, ask, clients}
use Rattle.trace.proofs.Invariant.{Inv}
use Rattle.trace.proofs.Clients.{clients_keep}
use Rattle.trace.proofs.Access.{write_keeps}
use Rattle.trace.proofs.Regions.Queue.{sound_inv}
use Rattle.trace.proofs.Directives.{performs}

module _ (s : State) (v : Inv s.memory s.manager s.receipts) where
  pub kept : (a : Ask) → let u = after defined a s in Inv u.memory u.manager u.receipts
  unfolding after
  kept (call c) = (performs s.memory s.manager s.receipts v c).kept.inv
  kept (read id a) = v
  kept (write id a first words) = write_keeps s.memory s.manager s.receipts v (sound_inv _ _ _ v) id a first words

-- every list
pub runs : {s u : State} → Inv s.memory s.manager s.receipts → Runs defined s u → Inv u.memory u.manager u.receipts
runs v end = v
runs {s} v (ask a r) = runs (kept s v a) r
runs {s} v (clients m' w r) = runs (clients_keep s.memory s.manager s.receipts v m' w) r
