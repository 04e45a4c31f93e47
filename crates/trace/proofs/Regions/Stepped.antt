-- A step in a region, and then its queue is served: a return and a resize do this, and a tick serves without a step. Assumes nothing.
use Rattle.std.specs.Prelude.{Some}
use mathlib.Core.Path.{◌≡◌, refl, sym, subst}
use mathlib.Core.List.{List}
use Prim.Native.Nat.{ℕ}
use native.Mathlib.Omega.{arith}
use Rattle.manager.specs.Record.{tasks}
use Rattle.manager.specs.Serve.{serve, from_served}
use Rattle.manager.specs.declared.Manager.{Manager}
use Rattle.manager.specs.declared.Call.{Call}
use Rattle.trace.specs.Loans.{Loan}
use Rattle.trace.specs.Receipts.{Receipts, RegionEntry, all_noticed, with_loans}
use Rattle.trace.specs.Queue.{queue_of}
use Rattle.trace.specs.Replies.{entered, note}
use Rattle.trace.proofs.Invariant.{Inv}
use Rattle.trace.proofs.Frame.{only_refl, only_trans}
use Rattle.trace.proofs.Map.{Steps}
use Rattle.trace.proofs.Regions.Checks.{Kept, kept_map}
use Rattle.trace.proofs.Regions.Picture.{update_here, live_at, lending, lending_again, lending_same, stepped}
use Rattle.trace.proofs.Regions.Lending.{waits_lent}
use Rattle.trace.proofs.Regions.Queue.{few_queue}
use Rattle.trace.proofs.Regions.Serve.{Outcome, Serving, something, served}

module _ (m : List ℕ) (d : Manager) (t : Receipts) (v : Inv m d t) (id : ℕ) (e : RegionEntry) (q : t.regions id ≡ Some e) where
  -- A STEP TO OTHER LOANS
  module _ (m' : List ℕ) (l : List Loan) (step : Steps m e m' l) where
    serving : Serving id e m' d (lending id e l t) l (queue_of id e t)
    serving =
        record {
          picture = stepped m d t v.picture id e q m' l step;
          entry = update_here id (Some (with_loans l e)) t.regions;
          waits = rw (lending_again id e t l something)
              (waits_lent t id e q something d v.waits (λ y i r n. let z : ◌≡◌ {A = ℕ} 0 1 = cc in omega arith));
          queue = refl;
        }

    -- what serving leaves then: only words of the map differ from those before the step
    pub step_served : Outcome e l (queue_of id e t) m (lending id e l t) (serve m' d id)
    unfolding serve
    step_served =
        let o = served id e tasks m' d _ l (queue_of id e t) serving (few_queue d t id e v.waits) in
        record { grants = o.grants; only = only_trans _ _ m m' (serve m' d id).memory step.only o.only; inv = o.inv }

    -- what a call keeps that does this, and enters those loans
    pub kept_served : (c : Call) (n : ℕ) → entered c n t ≡ lending id e l t → Kept c m t (from_served n (serve m' d id))
    unfolding note
    kept_served c n h =
        let s = serve m' d id in
        kept_map c m d t v id e q (from_served n s) step_served.only refl
        (subst (λ (u : Receipts). Inv s.memory s.manager (all_noticed s.notices u)) (sym h) step_served.inv)

  -- NO STEP: the loans as they are
  pub queue_served : Outcome e e.loans (queue_of id e t) m t (serve m d id)
  queue_served =
      subst (λ (u : Receipts). Outcome e e.loans (queue_of id e t) m u (serve m d id)) (lending_same id e t e.loans q)
      (step_served m e.loans (record { is = (live_at m d t v.picture id e q).is; only = only_refl _ _ m }))
