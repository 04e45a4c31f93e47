-- AN ID NEVER OPENS ANOTHER OBJECT, along every list: the receipts of a list follow one another, so that what was answered stays used, and
-- what was deleted stays left.
use mathlib.Core.Path.{◌≡◌, sym, ap, ◌∙◌, subst}
use lib.ListN.{length}
use Rattle.manager.specs.Perform.{perform, defined}
use Rattle.manager.specs.declared.Call.{Call}
use Rattle.manager.specs.declared.Call.TheVariants.{CreateRegion, DeleteRegion, CreatePartition, DeletePartition}
use Rattle.trace.specs.Receipts.{Reply, reply_of}
use Rattle.trace.specs.Replies.{by_receipts}
use Rattle.trace.specs.Trace.{call, read, write, State, after, Object, region, partition, Runs, end, ask, clients}
use Rattle.trace.specs.Ids.{Creates, creates_region, creates_partition, Deletes, deletes_region, deletes_partition, NoAccess, Gone, IdClaims}
use Rattle.trace.proofs.Invariant.{Inv}
use Rattle.trace.proofs.Slots.{region_now_lem, partition_now_lem}
use Rattle.trace.proofs.Ids.{Generations, Follows, follows_same, follows_on, note_follows, UsedId, used_on, LeftId, left_on, Missing, missing, region_unused, partition_unused, region_used, partition_used, region_left, partition_left, answers_missing}
use Rattle.trace.proofs.Clients.{clients_keep}
use Rattle.trace.proofs.Replies.Access.{replies_write, reads}
use Rattle.trace.proofs.Directives.{performs}
use Rattle.trace.proofs.Runs.{kept, runs}

-- each entry is of the generation that its slot has
generations_of : (s : State) → Inv s.memory s.manager s.receipts → Generations s.receipts
generations_of s v =
    record {
      region = λ id e q. (region_now_lem s.memory s.manager s.receipts v.picture id e q).generation;
      partition = λ id e q. (partition_now_lem s.memory s.manager s.receipts v.picture id e q).generation;
    }

-- the receipts follow one another
follows : {s u : State} → Inv s.memory s.manager s.receipts → Runs defined s u → Follows s.receipts u.receipts
unfolding after
follows {s} v end = follows_same s.receipts
follows {s} v (ask (call c) r) = follows_on (note_follows s.receipts (generations_of s v) c _) (follows (kept s v (call c)) r)
follows {s} v (ask (read id a) r) = follows (kept s v (read id a)) r
follows {s} v (ask (write id a first words) r) = follows (kept s v (write id a first words)) r
follows {s} v (clients m' w r) = follows (clients_keep s.memory s.manager s.receipts v m' w) r

module _ (s : State) (v : Inv s.memory s.manager s.receipts) where
  -- what is answered in a state in which the invariant holds
  pub replies : (c : Call) → reply_of (perform s.memory s.manager c) ≡ by_receipts (length s.memory) s.receipts c
  replies c = (performs s.memory s.manager s.receipts v c).replies

  status_is : (c : Call) → (perform s.memory s.manager c).status ≡ (by_receipts (length s.memory) s.receipts c).status
  status_is c = ap (λ (r : Reply). r.status) (replies c)

  -- a create's id was never used, and is from then on
  creates_unused : (c : Call) (o : Object) → Creates defined s c o → ¬ UsedId s.receipts o
  creates_unused c o (creates_region name start bytes page order e) u =
      let x = CreateRegion name start bytes page order in
      region_unused (length s.memory) s.receipts name start bytes page order (sym (status_is x) ∙ e)
      (subst (λ (r : Reply). UsedId s.receipts (region r.value)) (replies x) u)
  creates_unused c o (creates_partition name start bytes size e) u =
      let x = CreatePartition name start bytes size in
      partition_unused (length s.memory) s.receipts name start bytes size (sym (status_is x) ∙ e)
      (subst (λ (r : Reply). UsedId s.receipts (partition r.value)) (replies x) u)

  creates_used : (c : Call) (o : Object) → Creates defined s c o → UsedId (after defined (call c) s).receipts o
  unfolding after
  creates_used c o (creates_region name start bytes page order e) = region_used name start bytes page order _ s.receipts e
  creates_used c o (creates_partition name start bytes size e) = partition_used name start bytes size _ s.receipts e

  -- a delete's has been left
  deletes_left : (c : Call) (o : Object) → Deletes defined s c o → LeftId (after defined (call c) s).receipts o
  unfolding after
  deletes_left c o (deletes_region id e) = region_left (length s.memory) s.receipts (generations_of s v) id _ (replies (DeleteRegion id)) e
  deletes_left c o (deletes_partition id e) = partition_left (length s.memory) s.receipts (generations_of s v) id _ (replies (DeletePartition id)) e

  -- and what has been left is answered 4
  left_gone : (o : Object) → LeftId s.receipts o → Gone defined s o
  left_gone o h =
      let n = missing s.receipts (generations_of s v) o h in
      record {
        calls = λ c x. status_is c ∙ answers_missing (length s.memory) s.receipts c o x n;
        access = none o n;
      }
    where
      none : (o : Object) → Missing s.receipts o → NoAccess defined s o
      none (region id) n = (
        λ a first words. ap (λ (r : Reply). r.status) (replies_write s.memory s.manager s.receipts v id a first words) ∙ rw n,
        λ a. reads s.memory s.manager s.receipts v id a ∙ rw n,
      )
      none (partition id) n = tt

-- AN ID NEVER OPENS ANOTHER OBJECT
pub id_claims : (s : State) → Inv s.memory s.manager s.receipts → IdClaims defined s
id_claims s v =
    record {
      once = λ c o x u r c' y. creates_unused u (runs (kept s v (call c)) r) c' o y (used_on (follows (kept s v (call c)) r) o (creates_used s v c o x));
      gone = λ c o x u r. left_gone u (runs (kept s v (call c)) r) o (left_on (follows (kept s v (call c)) r) o (deletes_left s v c o x));
    }
