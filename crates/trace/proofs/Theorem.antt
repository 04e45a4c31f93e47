-- DEMAND 3. The invariant holds at a fresh start, each call and each client write keeps it, and it gives every claim: one induction over
-- the list.
use mathlib.Core.Path.{◌≡◌, refl, ap, ◌∙◌}
use mathlib.Core.List.{List}
use Prim.Native.Nat.{ℕ, ◌+◌, ◌/◌}
use lib.ListN.{get_or}
use Rattle.manager.specs.Access.{write_segment}
use Rattle.manager.specs.Perform.{defined}
use Rattle.trace.specs.Receipts.{Reply}
use Rattle.trace.specs.Trace.{Ask, call, read, write, State, after, Owned}
use Rattle.trace.specs.Claims.{written, Claims, Demand3}
use Rattle.trace.proofs.Invariant.{Inv}
use Rattle.trace.proofs.Start.{start_inv}
use Rattle.trace.proofs.Access.{stored_by, writes}
use Rattle.trace.proofs.Apart.{apart}
use Rattle.trace.proofs.Regions.Queue.{sound_inv}
use Rattle.trace.proofs.Replies.Access.{replies_write, reads}
use Rattle.trace.proofs.Regions.Checks.{not_damaged}
use Rattle.trace.proofs.Directives.{performs}
use Rattle.trace.proofs.Claims.{sound_claim, tick_claim, once_claim, few_claim, region_names, partition_names, region_taken, partition_taken, region_claims, partition_claims}
use Rattle.trace.proofs.Runs.{runs}
use Rattle.trace.proofs.History.{replies, id_claims}

module _ (s : State) (v : Inv s.memory s.manager s.receipts) where
  -- a write stores its words where the receipts let it
  writes_by : (id a first : ℕ) (words : List ℕ)
      → (write_segment s.memory s.manager id a first words).memory ≡ written s.receipts (write id a first words) s.memory
  writes_by id a first words =
      (writes s.memory s.manager s.receipts v (sound_inv _ _ _ v) id a first words).memory
      ∙ ap (λ (r : Reply). stored_by s.memory (a / 4 + first) words r.status) (replies_write s.memory s.manager s.receipts v id a first words)

  -- photographs stay put
  stays : (a : Ask) (w : ℕ) → Owned s.receipts w → Owned (after defined a s).receipts w
      → get_or (after defined a s).memory w 0 ≡ get_or (written s.receipts a s.memory) w 0
  unfolding after
  stays (call c) w o o' = (performs s.memory s.manager s.receipts v c).kept.stays w o o'
  stays (read id a) w o o' = refl
  stays (write id a first words) w o o' = ap (λ (m : List ℕ). get_or m w 0) (writes_by id a first words)

  pub claims : Claims defined s
  claims =
      let answered = replies s v in
      let handed = reads s.memory s.manager s.receipts v in
      record {
        replies = answered;
        replies_write = replies_write s.memory s.manager s.receipts v;
        reads = handed;
        ids = id_claims s v;
        region = region_claims defined s v answered handed;
        partition = partition_claims defined s v answered handed;
        region_names = region_names defined s v answered handed;
        partition_names = partition_names defined s v answered handed;
        region_taken = region_taken defined s v answered handed;
        partition_taken = partition_taken defined s v answered handed;
        apart = apart s.memory s.manager s.receipts v;
        stays = stays;
        writes = writes_by;
        sound = sound_claim defined s v answered handed;
        sound_write = λ id a first words. not_damaged _ (writes s.memory s.manager s.receipts v (sound_inv _ _ _ v) id a first words).undamaged;
        tick = tick_claim defined s v answered handed;
        once = once_claim defined s v answered handed;
        few = few_claim defined s v answered handed;
      }

-- THE THEOREM
pub theorem : Demand3 defined
theorem m some most s r = claims s (runs (start_inv m some most) r)
