-- WHAT HOLDS OF SERVING, shown once: of nobody served, and of the first before those behind him; then of one region's queue before those
-- of the slots behind it. What serving keeps, which words it writes and whom it tells all go by this. Assumes nothing.
use Rattle.std.specs.Prelude.{Option, None, Some}
use Prim.Native.Nat.{ℕ, zero, suc, ◌<◌}
use mathlib.Core.Path.{◌≡◌, refl}
use mathlib.Core.Bool.{cond}
use mathlib.Core.List.{List, [], ◌∷◌}
use lib.ListN.{get_or}
use lib.Dec.{ltb}
use borrow.Author.Tests.{ltb-true}
use Rattle.manager.specs.Record.{slots, tasks, no_region, no_waiter, region_of, id_of, with_queue}
use Rattle.manager.specs.Region.{dead, address_of, need_of, placed, taken}
use Rattle.manager.specs.Kind.{on_place}
use Rattle.manager.specs.Queue.{first_of, dequeue}
use Rattle.manager.specs.Serve.{Served, quiet, granted, telling, behind, serve_up_to, serve, serve_slot, serve_slots, serve_all, serve_after}
use Rattle.manager.specs.declared.Manager.{Manager}
use Rattle.manager.specs.declared.Waiter.{Waiter}
use Rattle.manager.specs.declared.Notice.{Notice}
use Rattle.manager.specs.declared.Need.{Need}
use Rattle.manager.proofs.Laws.Appended.{by_case}

-- the first waiter of a region, what he needs, and the memory after he has his pages
abbrev pub first_waiter : Manager → ℕ → Waiter
first_waiter d id = get_or d.waiters (first_of id d.waiters) no_waiter

abbrev pub first_need : Manager → ℕ → Need
first_need d id = need_of (region_of d id) (first_waiter d id).size (first_waiter d id).alignment

abbrev pub after_first : List ℕ → Manager → ℕ → List ℕ
after_first m d id = taken m (region_of d id) (first_need d id)

-- ONE QUEUE
module _ (id : ℕ) (P : List ℕ → Manager → Served → Type 0) (nobody : (m : List ℕ) (d : Manager) → P m d (quiet m d))
    (first : (m : List ℕ) (d : Manager) → first_of id d.waiters < tasks → (a : ℕ) (s : Served)
    → P (after_first m d id) (dequeue d (first_of id d.waiters)) s → P m d (telling (granted (first_waiter d id) a) s)) where
  pub by_turns : (f : ℕ) (m : List ℕ) (d : Manager) → P m d (serve_up_to f m d id)
  unfolding serve_up_to
  by_turns zero m d = nobody m d
  by_turns (suc f) m d =
      let i = first_of id d.waiters in
      let s = serve_up_to f (after_first m d id) (dequeue d i) id in
      let next : (p : ℕ) → Served = λ p. telling (granted (first_waiter d id) (address_of (region_of d id) p)) s in
      let g = placed m (region_of d id) (first_need d id) in
      by_case (ltb i tasks) (λ b. P m d (cond b (on_place g next (quiet m d)) (quiet m d)))
      (λ h. on_place_lem g next (λ p. first m d (ltb-true i tasks h) (address_of (region_of d id) p) s (by_turns f (after_first m d id) (dequeue d i)))) (λ h. nobody m d)
    where
      on_place_lem : (g : Option ℕ) (next : ℕ → Served) → ((p : ℕ) → P m d (next p)) → P m d (on_place g next (quiet m d))
      on_place_lem (Some p) next h = h p
      on_place_lem None next h = nobody m d

  pub by_queue : (m : List ℕ) (d : Manager) → P m d (serve m d id)
  unfolding serve
  by_queue m d = by_turns tasks m d

-- THOSE OF SEVERAL SLOTS, and those after time-outs
module _ (P : Manager → Served → Type 0) (nobody : (m : List ℕ) (d : Manager) → P d (quiet m d)) (queue : (m : List ℕ) (d : Manager) (id : ℕ) → P d (serve m d id))
    (then : (d : Manager) (s s' : Served) → P d s → P s.manager s' → P d (behind s.notices s')) where
  by_slot : (m : List ℕ) (d : Manager) (i : ℕ) → P d (serve_slot m d i)
  unfolding serve_slot
  by_slot m d i =
      let r = get_or d.regions i no_region in
      by_case (dead r) (λ b. P d (cond b (quiet m d) (serve m d (id_of i r.generation)))) (λ _. nobody m d) (λ _. queue m d (id_of i r.generation))

  by_slots : (n : ℕ) (m : List ℕ) (d : Manager) (i : ℕ) → P d (serve_slots n m d i)
  unfolding serve_slots
  by_slots zero m d i = nobody m d
  by_slots (suc n) m d i =
      let s = serve_slot m d i in
      then d s (serve_slots n s.memory s.manager (suc i)) (by_slot m d i) (by_slots n s.memory s.manager (suc i))

  pub by_after : (ns : List Notice) (m : List ℕ) (d : Manager) → P d (serve_after ns m d)
  unfolding serve_all
  by_after [] m d = nobody m d
  by_after (n ∷ ns) m d = by_slots slots m d 0

-- SERVING CHANGES ONLY THE QUEUE of the record
pub served_queue : (m : List ℕ) (d : Manager) (id : ℕ) → (serve m d id).manager ≡ with_queue d (serve m d id).manager.waiters
unfolding dequeue
served_queue m d id =
    by_queue id (λ m d s. s.manager ≡ with_queue d s.manager.waiters) (λ m d. refl) (λ m d h a s e. e) m d
