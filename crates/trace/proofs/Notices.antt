-- What notices enter, over the receipts alone: some and then others enter what all of them do, and no notice takes a loan away. Assumes nothing.
use mathlib.Core.Path.{◌≡◌, refl, sym, ap, ◌∙◌}
use mathlib.Core.Bool.{Bool, cond}
use mathlib.Core.List.{List, [], ◌∷◌, ◌++◌}
use mathlib.Core.Logic.{inl, inr}
use Prim.Native.Nat.{ℕ, ◌*◌}
use Rattle.manager.specs.declared.Notice.{Notice}
use Rattle.manager.proofs.Laws.Appended.{by_case}
use Rattle.trace.specs.Loans.{Loan, loan, enter, Lent}
use Rattle.trace.specs.Receipts.{Receipts, Wait, unit, lend, map_option, on_region, with_waits, without, wait_of, noticed, all_noticed, is_success}
use Rattle.trace.specs.Trace.{Object, region, Loaned, segment, buffer, Owned}
use Rattle.trace.proofs.Loans.Tests.{by_eqb, by_leb}
use Rattle.trace.proofs.Regions.Picture.{update_here, update_other}

pub noticed_append : (ns ms : List Notice) (t : Receipts) → all_noticed (ns ++ ms) t ≡ all_noticed ms (all_noticed ns t)
unfolding all_noticed
noticed_append [] ms t = refl
noticed_append (n ∷ ns) ms t = noticed_append ns ms (noticed n t)

-- a loan stays where another is entered
lent_enter : (p j : ℕ) (l : List Loan) (a k : ℕ) → Lent l a k → Lent (enter p j l) a k
unfolding enter Lent
lent_enter p j [] a k h = absurd h
lent_enter p j (loan b n ∷ l) a k h =
    by_leb p b (λ (c : Bool). Lent (cond c (loan p j ∷ loan b n ∷ l) (loan b n ∷ enter p j l)) a k) (λ x. inr h)
    (λ x. elim h [ inl e ↦ inl e | inr i ↦ inr (lent_enter p j l a k i) ])

-- what is lent stays lent, whatever the waits
loaned_waits : (ws : List Wait) {t : Receipts} {o : Object} {a n : ℕ} → Loaned t o a n → Loaned (with_waits ws t) o a n
loaned_waits ws (segment e q k l) = segment e q k l
loaned_waits ws (buffer e q l) = buffer e q l

-- and where a loan is entered
loaned_lend : (j p size : ℕ) {t : Receipts} {o : Object} {a n : ℕ} → Loaned t o a n → Loaned (on_region j (lend p size) t) o a n
loaned_lend j p size {t} (segment {id} {a} e q k l) =
    let there = map_option (lend p size) (t.regions j) in
    by_eqb id j (λ (b : Bool). Loaned (on_region j (lend p size) t) (region id) a (k * unit e))
    (λ h. segment (lend p size e) (rw h (update_here j there t.regions) ∙ ap (map_option (lend p size)) (ap t.regions (sym h) ∙ q)) k (lent_enter p _ e.loans a k l))
    (λ h. segment e (update_other j there t.regions id h ∙ q) k l)
loaned_lend j p size (buffer e q l) = buffer e q l

loaned_noticed : (n : Notice) {t : Receipts} {o : Object} {a k : ℕ} → Loaned t o a k → Loaned (noticed n t) o a k
loaned_noticed n {t} {o} {a} {k} l =
    let w = wait_of n.task t.waits in
    let u = with_waits (without n.task t.waits) t in
    by_case (is_success n.status) (λ (b : Bool). Loaned (cond b (on_region w.id (lend n.address w.size) u) u) o a k)
    (λ b. loaned_lend w.id n.address w.size (loaned_waits _ l)) (λ b. loaned_waits _ l)

loaned_still : (ns : List Notice) {t : Receipts} {o : Object} {a k : ℕ} → Loaned t o a k → Loaned (all_noticed ns t) o a k
unfolding all_noticed
loaned_still [] l = l
loaned_still (n ∷ ns) l = loaned_still ns (loaned_noticed n l)

-- WHAT CLIENTS HOLD THEY STILL HOLD, a tick later and after notices
pub owned_waits : (ws : List Wait) (t : Receipts) (w : ℕ) → Owned t w → Owned (with_waits ws t) w
owned_waits ws t w h = (h.0, h.1, h.2, loaned_waits ws h.3, h.4, h.5)

pub owned_still : (ns : List Notice) (t : Receipts) (w : ℕ) → Owned t w → Owned (all_noticed ns t) w
owned_still ns t w h = (h.0, h.1, h.2, loaned_still ns h.3, h.4, h.5)
