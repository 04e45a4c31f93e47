-- The slots of a kind of object: what a search of them finds, by the definitions. Assumes nothing.
use Rattle.std.proofs.Common.{◌≡◌, ℕ, ◌≤◌, Bool, true, false, cond, not, List, length, get_or, eqb, ltb, refl, sym, ap, ◌∙◌, arith, eq-eqb}
use borrow.Author.Tests.{not-true}
use Rattle.std.specs.declared.option.Option.{Option}
use Rattle.std.specs.declared.option.Option.TheVariants.{None, Some}
use Rattle.std.specs.Bool.{then_some}
use Rattle.manager.specs.Record.{slots, slot_of, has_id, object_of}
use Rattle.manager.specs.Lists.{index_of}
use Rattle.manager.proofs.Laws.Lists.{and_first}
use Rattle.manager.proofs.Laws.Ids.{object_there, object_none, object_beyond}
use Rattle.objects.specs.Slots.{live, below}

-- the place of the first that passes, where there are as many places as slots
pub found_below : {A : Type 0} (t : A → Bool) (l m : List A) → l ≡ m → length l ≡ slots → (r : Option ℕ)
    → r ≡ cond (ltb (index_of t l) (length l)) (Some (index_of t l)) None → r ≡ below slots (index_of t m)
found_below {A = A} t l m e h r f = f ∙ rw h (ap (λ (k : List A). below slots (index_of t k)) e)

-- THE LIVE OBJECT OF AN ID, by what is in its place
module _ {A : Type 0} (name g : A → ℕ) (z : A) (l m : List A) (q : l ≡ m) (id i : ℕ) (o : name z ≡ 0) (e : i ≡ slot_of id) where
  live_none : None ≡ live name z
  live_none = rw (eq-eqb (name z) 0 o) refl

  pub live_beyond : (r : Option A) → r ≡ None → length l ≤ i → r ≡ live name (object_of name g z m id)
  live_beyond r h k = rw (h, ← q, object_beyond name g z l o id (omega (arith, e))) live_none

  module _ (x : A) (h : x ≡ get_or l i z) where
    here : get_or l (slot_of id) z ≡ x
    here = rw (← e, h) refl

    by_test : (b : Bool) → b ≡ has_id (name x) (g x) id → then_some b x ≡ live name (object_of name g z m id)
    by_test true f =
        let n : eqb (name x) 0 ≡ false = not-true (eqb (name x) 0) (and_first (not (eqb (name x) 0)) _ (sym f)) in
        rw (← q, object_there name g z l id (rw here (sym f)), here, n) refl
    by_test false f = rw (← q, object_none name g z l id (rw here (sym f))) live_none

    pub live_there : (b : Bool) → b ≡ has_id (name x) (g x) id → (r : Option A) → r ≡ then_some b x → r ≡ live name (object_of name g z m id)
    live_there b f r k = k ∙ by_test b f
