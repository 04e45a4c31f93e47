-- The turns of `after_tick`: two arrays are filled, with those that stay and with the notices of those that leave. Assumes nothing.
use mathlib.Core.Path.{◌≡◌, ap}
use mathlib.Core.List.{List, []}
use Prim.Native.Nat.{ℕ, ◌+◌, ◌≤◌, ◌<◌}
use native.Mathlib.Omega.{arith}
use borrow.Author.Tests.{eq-eqb, ne_eqb}
use lib.ListN.{length, drop, get_or, set, drop_of_length-le}
use Rattle.manager.specs.declared.Manager.{Manager}
use Rattle.manager.specs.declared.Waiter.{Waiter}
use Rattle.manager.specs.declared.Notice.{Notice}
use Rattle.manager.specs.Record.{tasks, no_waiter, no_notice, with_queue}
use Rattle.manager.proofs.Laws.Lists.{rest_cons}
use Rattle.manager.specs.Queue.{staying, leaving, aged, expired, after_tick}
use Rattle.reply.specs.Notices.{Notices}
use Rattle.objects.proofs.Fill.{Filling, fill_put, fill_count, fill_end}

-- after i places of the queue ws: k stay, in b, and n leave, with the notices ns
pub record Ticking (ws b : List Waiter) (ns : List Notice) (k n i : ℕ) : Type 0 where
  pub within : i ≤ tasks
  pub k_in : k ≤ i
  pub n_in : n ≤ i
  pub size : length ws ≡ tasks
  pub kept : Filling no_waiter tasks b k (staying (drop i ws)) (staying ws)
  pub told : Filling no_notice tasks ns n (leaving (drop i ws)) (leaving ws)

module _ (ws b : List Waiter) (ns : List Notice) (k n i : ℕ) (t : Ticking ws b ns k n i) (h : i < tasks) where
  pub tick_leave : (get_or ws i no_waiter).ticks ≡ 1 → (y : Notice) → y ≡ expired (get_or ws i no_waiter) → Ticking ws b (set ns n y) k (n + 1) (i + 1)
  unfolding staying leaving
  tick_leave e y q =
      let h' : i < length ws = omega (arith, t.size) in
      record {
        within = omega arith;
        k_in = omega (arith, t.k_in);
        n_in = omega (arith, t.n_in);
        size = t.size;
        kept = rw (rest_cons ws i no_waiter h', eq-eqb _ _ e) at t.kept;
        told = rw q (fill_put no_notice tasks ns n _ _ _ (omega (arith, t.n_in)) (rw (rest_cons ws i no_waiter h', eq-eqb _ _ e) at t.told));
      }

  pub tick_stay : ((get_or ws i no_waiter).ticks ≡ 1 → ⊥) → (y : Waiter) → y ≡ aged (get_or ws i no_waiter) → Ticking ws (set b k y) ns (k + 1) n (i + 1)
  unfolding staying leaving
  tick_stay e y q =
      let h' : i < length ws = omega (arith, t.size) in
      record {
        within = omega arith;
        k_in = omega (arith, t.k_in);
        n_in = omega (arith, t.n_in);
        size = t.size;
        kept = rw q (fill_put no_waiter tasks b k _ _ _ (omega (arith, t.k_in)) (rw (rest_cons ws i no_waiter h', ne_eqb _ _ e) at t.kept));
        told = rw (rest_cons ws i no_waiter h', ne_eqb _ _ e) at t.told;
      }

pub tick_end : (d : Manager) (b : List Waiter) (ns : List Notice) (k n i : ℕ) → Ticking d.waiters b ns k n i → tasks ≤ i
    → Notices (after_tick d) (leaving d.waiters) (record { manager = with_queue d b; notices = ns; count = n })
unfolding after_tick staying leaving
tick_end d b ns k n i t h =
    let g : drop i d.waiters ≡ [] = drop_of_length-le d.waiters {i = i} (omega (arith, t.size)) in
    record {
      manager = ap (with_queue d) (fill_end no_waiter tasks b k _ (rw g at t.kept));
      notices = fill_end no_notice tasks ns n _ (rw g at t.told);
      count = fill_count no_notice tasks ns n _ (rw g at t.told);
    }
