-- Serving a region's queue: the first wait gets its place, then the next, up to the first that has none. In between a region may lend
-- nothing while others wait; in the end it does not, since where nothing is lent the first wait has a place. Assumes nothing.
use Rattle.std.specs.Prelude.{Option, None, Some}
use mathlib.Core.Path.{◌≡◌, refl, sym, ap, ◌∙◌, subst}
use mathlib.Core.List.{List, [], ◌∷◌}
use mathlib.Core.Logic.{◌⊎◌, inl, inr, ⊎_elim}
use Prim.Native.Nat.{ℕ, zero, suc, ◌≤◌, ◌<◌}
use native.Mathlib.Omega.{arith}
use lib.ListN.{length, get_or}
use borrow.Author.Tests.{lt-ltb, le-ltb}
use Rattle.manager.specs.Record.{tasks, no_waiter, region_of}
use Rattle.manager.specs.Region.{address_of, need_of, placed, taken}
use Rattle.manager.specs.Queue.{first_of, dequeue}
use Rattle.manager.specs.Kind.{on_place}
use Rattle.manager.specs.Serve.{Served, quiet, granted, telling, serve_up_to}
use Rattle.manager.specs.declared.Manager.{Manager}
use Rattle.manager.specs.declared.Region.{Region}
use Rattle.manager.specs.declared.Waiter.{Waiter}
use Rattle.manager.specs.declared.Notice.{Notice}
use Rattle.trace.specs.Loans.{Loan, loan, enter}
use Rattle.trace.specs.Receipts.{Receipts, RegionEntry, Wait, address_in, lend, on_region, update, with_waits, without, noticed, all_noticed, pages_over, Servable, with_loans}
use Rattle.trace.specs.Queue.{queue_of}
use Rattle.trace.specs.Replies.{grants_in, place_in}
use Rattle.trace.specs.Claims.{waiter_of}
use Rattle.trace.proofs.Invariant.{region_as, WaitIs, Waits, Inv, Picture, with_waits_lem, OnlyMap, RegionIs}
use Rattle.trace.proofs.Frame.{only_refl, only_trans}
use Rattle.trace.proofs.Clients.{RegionAt, region_at_lem}
use Rattle.trace.proofs.Segments.{full_lends}
use Rattle.trace.proofs.Map.{Steps, Gives, gave, none, shows}
use Rattle.trace.proofs.Queue.Grant as queue
use Rattle.trace.proofs.Regions.Picture.{update_here, lending, on_region_lem, lending_again, lending_same, any_queue, stepped}
use Rattle.trace.proofs.Regions.Lending.{none_queued, waits_lent}

-- one turn
module _ (f : ℕ) (m : List ℕ) (d : Manager) (id : ℕ) where
  serve_nobody : tasks ≤ first_of id d.waiters → serve_up_to (suc f) m d id ≡ quiet m d
  unfolding serve_up_to
  serve_nobody h = rw (le-ltb (first_of id d.waiters) tasks h)

  abbrev turn : Region → Waiter → Served
  turn r w =
      let n = need_of r w.size w.alignment in
      on_place (placed m r n)
      (λ p. telling (granted w (address_of r p)) (serve_up_to f (taken m r n) (dequeue d (first_of id d.waiters)) id))
      (quiet m d)

  serve_first : (r : Region) (w : Waiter) → region_of d id ≡ r → first_of id d.waiters < tasks → get_or d.waiters (first_of id d.waiters) no_waiter ≡ w
      → serve_up_to (suc f) m d id ≡ turn r w
  unfolding serve_up_to
  serve_first r w p h q = rw (lt-ltb (first_of id d.waiters) tasks h, p, q)

-- what serving leaves, with the loans l: grants by the receipts, only the map's words changed, and the invariant, with the
-- notices entered
pub record Outcome (e : RegionEntry) (l : List Loan) (ws : List Wait) (m : List ℕ) (t : Receipts) (s : Served) : Type 0 where
  pub grants : s.notices ≡ grants_in e (l) ws
  pub only : OnlyMap e m s.memory
  pub inv : Inv s.memory s.manager (all_noticed s.notices t)

-- while a queue is served: its region has the loans l, and its waits are right but that something is to be lent
abbrev pub something : List Loan
something = loan 0 1 ∷ []

pub record Serving (id : ℕ) (e : RegionEntry) (m : List ℕ) (d : Manager) (t : Receipts) (l : List Loan) (ws : List Wait) : Type 0 where
  pub picture : Picture m d t
  pub entry : t.regions id ≡ Some (with_loans l e)
  pub waits : Waits d (lending id e something t)
  pub queue : queue_of id e t ≡ ws

module _ (id : ℕ) (e : RegionEntry) where
  module _ (m : List ℕ) (d : Manager) (t : Receipts) (l : List Loan) (ws : List Wait) (v : Serving id e m d t l ws) where
    region_is : RegionAt m (region_of d id) (with_loans l e)
    region_is = region_at_lem m (region_of d id) (t.regions id) (with_loans l e) (v.picture.regions id) v.entry

    -- it ends where something is lent, or nobody waits
    ended : (¬ (l ≡ [])) ⊎ (ws ≡ []) → Inv m d t
    ended h =
        with_waits_lem v.picture
        (subst (λ (u : Receipts). Waits d u) (lending_again id e t something l ∙ lending_same id e t l v.entry)
        (waits_lent (lending id e something t) id (with_loans something e) (update_here id (Some (with_loans something e)) t.regions) l d v.waits
        (⊎_elim (λ (x : ¬ (l ≡ [])) w i r. x) (λ (x : ws ≡ []) w i r. absurd (none_queued t id e (v.queue ∙ x) w i r)) h)))

  -- the first wait of a queue that is being served
  module _ (m : List ℕ) (d : Manager) (t : Receipts) (l : List Loan) (w : Wait) (ws : List Wait) (v : Serving id e m d t l (w ∷ ws)) where
    first : queue.Granted d (lending id e something t) id (with_loans something e) w ws
    first =
        queue.granted d (lending id e something t) v.waits id (with_loans something e) (update_here id (Some (with_loans something e)) t.regions) w ws v.queue

    first_is : WaitIs (lending id e something t) w
    first_is = v.waits.each w first.waits

    -- he asks for what the region could serve with nothing lent
    asker : (u : WaitIs (lending id e something t) w) → u.entry ≡ with_loans something e
    asker u =
        let p : update id (Some (with_loans something e)) t.regions id ≡ Some u.entry =
        subst (λ (j : ℕ). update id (Some (with_loans something e)) t.regions j ≡ Some u.entry) first.region u.found in
        let q : update id (Some (with_loans something e)) t.regions id ≡ Some (with_loans something e) = update_here id (Some (with_loans something e)) t.regions in
        cc

    fits : Servable e w.size w.alignment
    fits = subst (λ (f : RegionEntry). Servable f w.size w.alignment) (asker first_is) first_is.size_most

    is : RegionIs m (with_loans l e)
    is = (region_is m d t l (w ∷ ws) v).is

    -- the loans with his, and what his notice enters
    abbrev lent : ℕ → List Loan
    lent p = enter (address_in e p) (pages_over e w.size) l

    abbrev left : Receipts
    left = with_waits (without w.task t.waits) t

    lends : (p : ℕ) → noticed (granted (waiter_of w) (address_in e p)) t ≡ lending id e (lent p) left
    lends p =
        ap (λ (x : Wait). on_region x.id (lend (address_in e p) x.size) left) first.wait
        ∙ ap (λ (j : ℕ). on_region j (lend (address_in e p) w.size) left) first.region
        ∙ on_region_lem id (with_loans l e) left (lend (address_in e p) w.size) v.entry

    -- the queue behind him, after he got his pages
    after : (p : ℕ) (m' : List ℕ) → Steps m (with_loans l e) m' (lent p)
        → Serving id e m' (dequeue d (first_of id d.waiters)) (lending id e (lent p) left) (lent p) ws
    unfolding dequeue
    after p m' s =
        record {
          picture = any_queue m' d (lending id e (lent p) t) (dequeue d (first_of id d.waiters)).waiters (without w.task t.waits)
              (stepped m d t v.picture id (with_loans l e) v.entry m' (lent p) s);
          entry = update_here id (Some (with_loans (lent p) e)) t.regions;
          waits = rw (lending_again id e left (lent p) something) first.after;
          queue = first.rest;
        }

    -- one turn, where the turns after it are right
    module _ (f : ℕ) (next : (m : List ℕ) (d : Manager) (t : Receipts) (l : List Loan) → Serving id e m d t l ws → Outcome e l ws m t (serve_up_to f m d id)) where
      -- the grants by the place that is found
      first_grant : (g : Option ℕ) → g ≡ place_in e l w.size w.alignment
          → on_place g (λ p. granted (waiter_of w) (address_in e p) ∷ grants_in e (lent p) ws) [] ≡ grants_in e l (w ∷ ws)
      unfolding grants_in
      first_grant g h = ap (λ (q : Option ℕ). on_place q (λ p. granted (waiter_of w) (address_in e p) ∷ grants_in e (lent p) ws) []) h

      turned : {g : Option ℕ} {m' : List ℕ} → Gives m (with_loans l e) w.size w.alignment g m' → g ≡ place_in e l w.size w.alignment
          → Outcome e l (w ∷ ws) m t
          (on_place g (λ p. telling (granted (waiter_of w) (address_in e p)) (serve_up_to f m' (dequeue d (first_of id d.waiters)) id)) (quiet m d))
      unfolding all_noticed
      turned (gave {m'} p low s) h =
          let o = next _ _ _ _ (after p m' s) in
          let a = serve_up_to f m' (dequeue d (first_of id d.waiters)) id in
          record {
            grants = ap (λ (ns : List Notice). granted (waiter_of w) (address_in e p) ∷ ns) o.grants ∙ first_grant (Some p) h;
            only = only_trans _ _ m m' a.memory s.only o.only;
            inv = subst (λ (u : Receipts). Inv a.memory a.manager (all_noticed a.notices u)) (sym (lends p)) o.inv;
          }
      turned (none full) h =
          record {
            grants = first_grant None h;
            only = only_refl _ _ m;
            inv = ended m d t l (w ∷ ws) v (inl (full_lends (with_loans l e) w.size w.alignment fits full));
          }

      took_turn : Outcome e l (w ∷ ws) m t (serve_up_to (suc f) m d id)
      took_turn =
          let x = shows m (with_loans l e) is in
          let r = region_is m d t l (w ∷ ws) v in
          rw (
            serve_first f m d id (region_as r.generation e) (waiter_of w) r.region first.place first.waiter,
            x.needs w.size w.alignment,
            x.asked w.size,
          )
          (turned (x.got w.size w.alignment first_is.size_some) (x.placed w.size w.alignment first_is.size_some))

  -- SERVING UP TO SO MANY, where no more wait
  pub served : (f : ℕ) (m : List ℕ) (d : Manager) (t : Receipts) (l : List Loan) (ws : List Wait) → Serving id e m d t l ws → length ws ≤ f
      → Outcome e l ws m t (serve_up_to f m d id)
  unfolding serve_up_to all_noticed grants_in
  served zero m d t l [] v h = record { grants = refl; only = only_refl _ _ m; inv = ended m d t l [] v (inr refl) }
  served zero m d t l (w ∷ ws) v h = absurd (omega arith)
  served (suc f) m d t l [] v h =
      rw (serve_nobody f m d id
      (queue.none_first d (lending id e something t) v.waits id (with_loans something e) (update_here id (Some (with_loans something e)) t.regions) v.queue))
      (record { grants = refl; only = only_refl _ _ m; inv = ended m d t l [] v (inr refl) })
  served (suc f) m d t l (w ∷ ws) v h =
      took_turn m d t l w ws v f (λ m' d' t' l' v'. served f m' d' t' l' ws v' (omega arith))
