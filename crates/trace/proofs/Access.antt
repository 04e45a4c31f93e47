-- Writing a held segment: a write is refused and changes nothing, or it stores its words in the loan at its address, so that it is one of
-- the writes that clients may make. Assumes nothing.
use Rattle.std.specs.Prelude.{Option, Some}
use mathlib.Core.Path.{◌≡◌, refl, sym, subst}
use mathlib.Core.Bool.{true, false, cond}
use mathlib.Core.List.{List}
use Prim.Native.Nat.{ℕ, ◌+◌, ◌*◌, ◌/◌, ◌≤◌}
use native.Mathlib.Omega.{arith}
use lib.ListN.{length}
use lib.Seq.{sets}
use lib.Dec.{eqb, ltb}
use borrow.Author.Tests.{ltb-false}
use Rattle.manager.specs.Record.{region_of}
use Rattle.manager.specs.Lists.{every}
use Rattle.manager.proofs.Laws.Result.{Passed}
use Rattle.manager.specs.Result.{Result, refused}
use Rattle.manager.specs.Region.{dead, held_at}
use Rattle.manager.specs.Sound.{sound}
use Rattle.manager.specs.Access.{write_segment}
use Rattle.manager.specs.declared.Manager.{Manager}
use Rattle.manager.specs.declared.Region.{Region}
use Rattle.manager.specs.declared.Status.{Status}
use Rattle.trace.specs.Loans.{Lent}
use Rattle.trace.specs.Receipts.{Receipts, RegionEntry, is_success, unit, page_in}
use Rattle.trace.specs.Trace.{Object, region, Loaned, segment, ClientsWrite}
use Rattle.trace.proofs.Invariant.{Inside, Only, region_for, RegionIs, RegionSlot, Inv, empty, live}
use Rattle.trace.proofs.Frame.{only_sets}
use Rattle.trace.proofs.Clients.{segment_in, clients_keep}
use Rattle.trace.proofs.Segments.{regular, loan_holds}
use Rattle.trace.proofs.Map.{lent_held}
use Rattle.trace.proofs.Regions.Checks.{damaged, refusing, refusal, by_sound}

-- a change of nothing, and a change of one loan's words, are writes that clients may make
pub clients_none : (t : Receipts) (m : List ℕ) → ClientsWrite t m m
clients_none t m = record { size = refl; others = λ i n. refl }

pub clients_loan : (t : Receipts) (m m' : List ℕ) (o : Object) (a n : ℕ) → Loaned t o a n → Only a n m m' → ClientsWrite t m m'
clients_loan t m m' o a n l c =
    record { size = c.size; others = λ w f. c.same w (λ (i : Inside a n w). f (o, a, n, l, i.low, omega (arith, i.high))) }

-- the words that a status leaves: all as they were, or some stored
abbrev pub stored_by : List ℕ → ℕ → List ℕ → Status → List ℕ
stored_by m at words s = cond (is_success s) (sets m at words) m

-- what a write leaves
pub record Writes (m : List ℕ) (d : Manager) (t : Receipts) (at : ℕ) (words : List ℕ) (s : Result) : Type 0 where
  pub clients : ClientsWrite t m s.memory
  pub manager : s.manager ≡ d
  pub memory : s.memory ≡ stored_by m at words s.status
  pub undamaged : damaged s.status ≡ false

writes_refused : (m : List ℕ) (d : Manager) (t : Receipts) (at : ℕ) (words : List ℕ) (s : Status) → refusing s ≡ true → Writes m d t at words (refused m d s)
writes_refused m d t at words s r =
    record {
      clients = clients_none t m;
      manager = refl;
      memory = rw (refusal s r).no_success;
      undamaged = (refusal s r).undamaged;
    }

-- words stored in a loan
stored : (m : List ℕ) (t : Receipts) (id : ℕ) (e : RegionEntry) → t.regions id ≡ Some e → RegionIs m e → (a k first : ℕ) (words : List ℕ)
    → Lent e.loans a k → first + length words ≤ k * unit e / 4 → ClientsWrite t m (sets m (a / 4 + first) words)
stored m t id e found is a k first words x l =
    let h = loan_holds e (regular m e is) a k x in
    let w = segment_in m e is a (k * unit e) (record { p = page_in e a; k = k; lent = h.lent; at = h.at; bytes = refl }) in
    clients_loan t m (sets m (a / 4 + first) words) (region id) a (k * unit e) (segment e found k x)
    (only_sets a (k * unit e) m (a / 4 + first) words (omega (arith, w.whole)) (omega (arith, w.whole)))

module _ (m : List ℕ) (d : Manager) (t : Receipts) (v : Inv m d t) where
  -- what the last of the checks lets pass
  passed : (id a first : ℕ) (words : List ℕ) (r : Region) (o : Option RegionEntry) → t.regions id ≡ o → RegionSlot m r o
      → dead r ≡ false → eqb (held_at m r a) 0 ≡ false → ltb (held_at m r a * r.page / 4) (first + length words) ≡ false
      → ClientsWrite t m (sets m (a / 4 + first) words)
  passed id a first words r o f (empty g) x y z = absurd (let q : ◌≡◌ {A = ℕ} 0 1 = cc in omega arith)
  passed id a first words r o f (live g e is) x y z =
      stored m t id e f is a (held_at m (region_for e) a) first words (lent_held m e is a y)
      (ltb-false (held_at m (region_for e) a * unit e / 4) (first + length words) z)

  module _ (ok : sound m d ≡ true) where
    -- A WRITE IS ONE THAT CLIENTS MAY MAKE, and what it stores goes by its status
    pub writes : (id a first : ℕ) (words : List ℕ) → Writes m d t (a / 4 + first) words (write_segment m d id a first words)
    unfolding write_segment every Passed
    writes id a first words =
        by_sound m d _ _ ok (Writes m d t (a / 4 + first) words) refl (writes_refused m d t (a / 4 + first) words)
        (λ c. record {
          clients = passed id a first words (region_of d id) (t.regions id) refl (v.picture.regions id) c.0 c.1.0 c.1.1.0;
          manager = refl;
          memory = refl;
          undamaged = refl;
        })

    pub write_keeps : (id a first : ℕ) (words : List ℕ)
        → Inv (write_segment m d id a first words).memory (write_segment m d id a first words).manager t
    write_keeps id a first words =
        let w = writes id a first words in
        subst (λ (x : Manager). Inv (write_segment m d id a first words).memory x t) (sym w.manager)
        (clients_keep m d t v (write_segment m d id a first words).memory w.clients)
