-- Get, past the checks of its size and its id: the checks by the region and those of a wait come to their verdicts, then the pages are taken,
-- or the answer is 13, or the task waits. Assumes nothing.
use Rattle.std.specs.Prelude.{Ok, Err, Option, None}
use Rattle.std.specs.declared.result.Result.{Result}
use Prim.Native.Nat.{ℕ, ◌≤◌}
use mathlib.Core.Path.{◌≡◌, refl, sym, ap, ◌∙◌}
use mathlib.Core.Bool.{Bool, true, false, cond}
use mathlib.Core.List.{List, [], ◌∷◌, ◌++◌, append-nil}
use native.Mathlib.Nat.{pos_of_ne-zero}
use borrow.Author.Tests.{ne_eqb}
use Rattle.arith.specs.declared.Layout.{Layout}
use Rattle.manager.specs.Record.{region_of}
use Rattle.manager.specs.Result.{Result as Left, Check, checked, refused, done}
use Rattle.manager.specs.Region.{dead, layout_of, address_of, need_of, placed, taken}
use Rattle.manager.specs.Kind.{on_place}
use Rattle.manager.specs.Regions.{wait_checks, unplaced, get_segment}
use Rattle.manager.specs.Sound.{sound, Sited}
use Rattle.manager.proofs.Laws.Region.{asked_some}
use Rattle.manager.specs.declared.Manager.{Manager}
use Rattle.manager.specs.declared.Region.{Region}
use Rattle.manager.specs.declared.Waiter.{Waiter}
use Rattle.manager.specs.declared.Need.{Need}
use Rattle.manager.specs.declared.Wait.{Wait}
use Rattle.manager.specs.declared.Status.{Status}
use Rattle.segments.specs.Lending.{Takes}
use Rattle.segments.proofs.Lend.{none_taken}
use Rattle.segments.specs.Verdicts.{verdict_of, ask_checks}
use Rattle.segments.specs.declared.site.Site.{Site}
use Rattle.segments.proofs.Live.{live}

abbrev pub on_verdict : Result (Unit {0}) Status → (Status → Left) → Left → Left
on_verdict (Ok u) refuse act = act
on_verdict (Err s) refuse act = refuse s

-- a chain of checks by the verdict of its first ones, and of all
checked_first : (cs ds : List Check) (refuse : Status → Left) (act : Left)
    → checked (cs ++ ds) refuse act ≡ on_verdict (verdict_of cs) refuse (checked ds refuse act)
unfolding checked verdict_of
checked_first [] ds refuse act = refl
checked_first (c ∷ cs) ds refuse act = go c.fails (checked_first cs ds refuse act)
  where
    go : (b : Bool) → checked (cs ++ ds) refuse act ≡ on_verdict (verdict_of cs) refuse (checked ds refuse act)
        → cond b (refuse c.status) (checked (cs ++ ds) refuse act) ≡ on_verdict (cond b (Err c.status) (verdict_of cs)) refuse (checked ds refuse act)
    go true h = refl
    go false h = h

checked_all : (cs : List Check) (refuse : Status → Left) (act : Left) → checked cs refuse act ≡ on_verdict (verdict_of cs) refuse act
unfolding checked
checked_all cs refuse act = ap (λ (ds : List Check). checked ds refuse act) (sym (append-nil cs)) ∙ checked_first cs [] refuse act

-- what is done once the checks have passed
abbrev Placed : List ℕ → Manager → Region → Need → Wait → Waiter → Left
Placed m d r n wait w = on_place (placed m r n) (λ p. done (taken m r n) d (address_of r p)) (unplaced m d wait w)

module _ (m : List ℕ) (d : Manager) (ok : sound m d ≡ true) (w : Waiter) (z : w.size ≡ 0 → ⊥) (wait : Wait) (r : Region)
    (e : (r ≡ region_of d w.region) × (dead (region_of d w.region) ≡ false)) (n : Need) (en : n ≡ need_of r w.size w.alignment) where
  abbrev Gets : Left
  Gets = get_segment m d w.region w.size w.alignment wait w.task w.priority w.ticks

  region_live : Sited m r
  region_live = rw (e.0) (live m d ok w.region e.1 0)

  -- what is looked for has a page
  pub some_asked : Sited m r × (1 ≤ n.pages)
  some_asked = (region_live, rw en (asked_some m r region_live w.size (pos_of_ne-zero z)))

  module _ (s : Site) (es : s.region ≡ r) (u : Unit {0}) (a : Ok u ≡ verdict_of (ask_checks s.region s.layout n w.alignment)) where
    all_checks : Gets ≡ checked (ask_checks r (layout_of r) n w.alignment ++ wait_checks d wait w.task w.priority) (refused m d) (Placed m d r n wait w)
    unfolding get_segment checked
    all_checks = let g : dead r ≡ false = rw e.0 e.1 in rw (ok, ne_eqb _ _ z, ← e.0, g, en)

    gets : Gets ≡ on_verdict (verdict_of (wait_checks d wait w.task w.priority)) (refused m d) (Placed m d r n wait w)
    gets =
        let x : s.layout ≡ layout_of r = s.laid ∙ ap layout_of es in
        let h : verdict_of (ask_checks r (layout_of r) n w.alignment) ≡ Ok tt =
        ap (λ (q : Region). verdict_of (ask_checks q (layout_of r) n w.alignment)) (sym es)
        ∙ ap (λ (l : Layout). verdict_of (ask_checks s.region l n w.alignment)) (sym x)
        ∙ sym a in
        all_checks
        ∙ checked_first (ask_checks r (layout_of r) n w.alignment) (wait_checks d wait w.task w.priority) (refused m d) (Placed m d r n wait w)
        ∙ rw h (checked_all (wait_checks d wait w.task w.priority) (refused m d) (Placed m d r n wait w))

    pub get_refused : (s : Status) → Err s ≡ verdict_of (wait_checks d wait w.task w.priority) → Gets ≡ refused m d s
    get_refused s g = gets ∙ rw (← g)

    -- there is no room
    pub get_none : (v : Unit {0}) → Ok v ≡ verdict_of (wait_checks d wait w.task w.priority) → (out : List ℕ) (p : Option ℕ) → Takes s.region n m out p → p ≡ None
        → Gets ≡ unplaced out d wait w
    get_none v g out p t q =
        let y : Takes r n m out p = rw es at t in
        gets ∙ rw (← g, ← y.place, q, none_taken m r region_live n out p y q)
