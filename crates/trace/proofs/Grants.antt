-- The grants by the receipts: what is computed is what demand 3 asks for. A law over the receipts alone. Assumes nothing.
use Rattle.std.specs.Prelude.{Option}
use mathlib.Core.Path.{refl}
use mathlib.Core.List.{List, [], ◌∷◌}
use mathlib.Core.Logic.{inl, inr}
use Prim.Native.Nat.{ℕ, ◌<◌}
use Rattle.manager.specs.Kind.{on_place}
use Rattle.manager.specs.Lists.{In}
use Rattle.trace.specs.Loans.{Loan, enter}
use Rattle.trace.specs.Receipts.{RegionEntry, Wait, pages_over, address_in, with_loans}
use Rattle.trace.specs.Replies.{grant_to, grants_in}
use Rattle.trace.specs.Claims.{Grants, all, stop, grant}
use Rattle.trace.proofs.Segments.{Regular, Places, takes, full, places}

-- THE GRANTS THAT ARE COMPUTED ARE THE GRANTS
pub grants_are : (e : RegionEntry) (l : List Loan) (ws : List Wait) → Regular (with_loans l e) → ((w : Wait) → In w ws → 0 < w.size)
    → Grants e l ws (grants_in e l ws)
unfolding grants_in In
grants_are e l [] g h = all
grants_are e l (w ∷ ws) g h =
    go (places (with_loans l e) g w.size w.alignment (h w (inl refl))) (λ k r. grants_are e k ws r (λ x i. h x (inr i)))
  where
    go : {q : Option ℕ} → Places (with_loans l e) w.size w.alignment q → ((k : List Loan) → Regular (with_loans k e) → Grants e k ws (grants_in e k ws))
        → Grants e l (w ∷ ws) (on_place q (λ p. grant_to w (address_in e p) ∷ grants_in e (enter (address_in e p) (pages_over e w.size) l) ws) [])
    go (takes p c r) next = grant p c (next _ r)
    go (full f) next = stop f
