-- Serving the queues of several slots, one after the other: the invariant that one leaves is what the next rests on. An empty slot has no
-- queue. Each changes its own map only, and what clients hold they still hold after it, so none of their words is moved. Assumes nothing.
use Rattle.std.specs.Prelude.{Option, Some}
use mathlib.Core.Path.{◌≡◌, refl, ap, ◌∙◌}
use mathlib.Core.List.{List, [], ◌∷◌, ◌++◌}
use Prim.Native.Nat.{ℕ, zero, suc, ◌+◌, ◌≤◌}
use native.Mathlib.Omega.{arith}
use lib.ListN.{get_or}
use borrow.Author.Tests.{ne_eqb}
use Rattle.manager.specs.Record.{slots, no_region, emptied_region, id_of}
use Rattle.manager.specs.Serve.{Served, quiet, behind, serve, serve_slot, serve_slots, serve_all, serve_after}
use Rattle.manager.specs.declared.Manager.{Manager}
use Rattle.manager.specs.declared.Region.{Region}
use Rattle.manager.specs.declared.Notice.{Notice}
use Rattle.trace.specs.Receipts.{Receipts, RegionEntry, all_noticed}
use Rattle.trace.specs.Queue.{queue_of}
use Rattle.trace.specs.Replies.{region_now, grants_under, grants_from, grants_after}
use Rattle.trace.specs.Trace.{Owned}
use Rattle.trace.specs.Claims.{Grants, Rounds, ended, skipped, round, slots_from}
use Rattle.trace.proofs.Invariant.{region_as, RegionIs, RegionSlot, empty, live, Inv}
use Rattle.trace.proofs.Clients.{map_stays}
use Rattle.trace.proofs.Segments.{regular}
use Rattle.trace.proofs.Slots.{region_in_lem}
use Rattle.trace.proofs.Grants.{grants_are}
use Rattle.trace.proofs.Notices.{noticed_append, owned_still}
use Rattle.trace.proofs.Regions.Queue.{queue_asks}
use Rattle.trace.proofs.Regions.Serve.{Outcome}
use Rattle.trace.proofs.Regions.Stepped.{queue_served}

-- what serving some slots leaves: the notices that the receipts give, which are the rounds of demand 3, the words of clients, and the
-- invariant, with the notices entered
pub record SlotsOutcome (is : List ℕ) (gs : List Notice) (m : List ℕ) (t : Receipts) (s : Served) : Type 0 where
  pub notices : s.notices ≡ gs
  pub rounds : Rounds is t gs
  pub stays : (w : ℕ) → Owned t w → get_or s.memory w 0 ≡ get_or m w 0
  pub inv : Inv s.memory s.manager (all_noticed s.notices t)

-- no slot
none_served : (m : List ℕ) (d : Manager) (t : Receipts) → Inv m d t → SlotsOutcome [] [] m t (quiet m d)
unfolding all_noticed
none_served m d t v = record { notices = refl; rounds = ended; stays = λ w o. refl; inv = v }

-- what a slot is served: nobody, or the queue of the region that is in it
module _ (m : List ℕ) (d : Manager) (i : ℕ) where
  served_empty : (g : ℕ) → get_or d.regions i no_region ≡ emptied_region g → serve_slot m d i ≡ quiet m d
  unfolding serve_slot
  served_empty g p = rw p

  served_live : (g : ℕ) (e : RegionEntry) → get_or d.regions i no_region ≡ region_as g e → ¬ (e.name ≡ 0) → serve_slot m d i ≡ serve m d (id_of i g)
  unfolding serve_slot
  served_live g e p n = rw (p, ne_eqb e.name 0 n)

-- the n slots behind slot i, after what that one was served; and their grants by the receipts, after its
abbrev onward : ℕ → ℕ → Served → Served
onward n i s = behind s.notices (serve_slots n s.memory s.manager (suc i))

abbrev grants_on : ℕ → ℕ → Receipts → List Notice → List Notice
grants_on n i t gs = gs ++ grants_from n (suc i) (all_noticed gs t)

module _ (m : List ℕ) (d : Manager) (t : Receipts) (v : Inv m d t) (n i : ℕ) where
  -- A LIVE SLOT: its queue is served, and then the others', with its notices entered
  module _ (e : RegionEntry) (q : t.regions (region_now t i) ≡ Some e) (is : RegionIs m e) where
    abbrev id : ℕ
    id = region_now t i

    abbrev first : Served
    first = serve m d id

    outcome : Outcome e e.loans (queue_of id e t) m t first
    outcome = queue_served m d t v id e q

    grants : Grants e e.loans (queue_of id e t) first.notices
    grants = rw outcome.grants (grants_are e e.loans (queue_of id e t) (regular m e is) (queue_asks d t v.waits id e q))

    live_first : SlotsOutcome (slots_from n (suc i)) (grants_from n (suc i) (all_noticed first.notices t)) first.memory (all_noticed first.notices t)
        (serve_slots n first.memory first.manager (suc i))
        → SlotsOutcome (i ∷ slots_from n (suc i)) (grants_on n i t first.notices) m t (onward n i first)
    live_first o =
        record {
          notices = ap (λ (ns : List Notice). first.notices ++ ns) o.notices;
          rounds = round e q grants o.rounds;
          stays = λ w x. o.stays w (owned_still first.notices t w x) ∙ map_stays m d t v id e q m first.memory outcome.only w x;
          inv = rw (noticed_append first.notices (serve_slots n first.memory first.manager (suc i)).notices t) o.inv;
        }

  -- A SLOT, empty or live, where serving the others is right
  module _ (next : (m : List ℕ) (d : Manager) (t : Receipts) → Inv m d t → SlotsOutcome (slots_from n (suc i)) (grants_from n (suc i) t) m t (serve_slots n m d (suc i))) where
    by_slot : (r : Region) (o : Option RegionEntry) → get_or d.regions i no_region ≡ r → r.generation ≡ t.region_deletes i → t.regions (region_now t i) ≡ o
        → RegionSlot m r o → SlotsOutcome (i ∷ slots_from n (suc i)) (grants_on n i t (grants_under (region_now t i) t)) m t (onward n i (serve_slot m d i))
    unfolding all_noticed
    by_slot r o p f q (empty g) =
        let s = next m d t v in
        rw (q, served_empty m d i g p) (record { notices = s.notices; rounds = skipped q s.rounds; stays = s.stays; inv = s.inv })
    by_slot r o p f q (live g e is) =
        rw (q, served_live m d i g e p is.named, f, ← (outcome e q is).grants) (live_first e q is (next _ _ _ (outcome e q is).inv))

-- SO MANY SLOTS
pub slots_served : (n i : ℕ) → n + i ≤ slots → (m : List ℕ) (d : Manager) (t : Receipts) → Inv m d t → SlotsOutcome (slots_from n i) (grants_from n i t) m t (serve_slots n m d i)
unfolding slots_from grants_from serve_slots
slots_served zero i h m d t v = none_served m d t v
slots_served (suc n) i h m d t v =
    by_slot m d t v n i (slots_served n (suc i) (omega arith)) _ _ refl (v.picture.region_is i (omega arith)).same refl (region_in_lem m d t v.picture i (omega arith))

-- AFTER TIME-OUTS: every slot, or none where nobody was sent away
abbrev pub slots_after : List Notice → List ℕ
slots_after [] = []
slots_after (n ∷ ns) = slots_from slots 0

pub after_served : (ns : List Notice) (m : List ℕ) (d : Manager) (t : Receipts) → Inv m d t → SlotsOutcome (slots_after ns) (grants_after ns t) m t (serve_after ns m d)
unfolding serve_all
after_served [] m d t v = none_served m d t v
after_served (n ∷ ns) m d t v = slots_served slots 0 (omega arith) m d t v
