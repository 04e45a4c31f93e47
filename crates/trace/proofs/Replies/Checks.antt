-- A chain of checks answers by the receipts where each test does, up to the first that refuses. Assumes nothing.
use Rattle.std.specs.Prelude.{Option, Some}
use mathlib.Core.Path.{◌≡◌, refl, sym, ◌∙◌, ap}
use mathlib.Core.Bool.{Bool, true, false, cond, true≢false}
use mathlib.Core.List.{List, [], ◌∷◌}
use Prim.Native.Nat.{ℕ}
use borrow.Author.Tests.{ne_eqb}
use Rattle.manager.proofs.Laws.Appended.{by_case}
use Rattle.manager.proofs.Laws.Lists.{and_first, and_second}
use Rattle.manager.proofs.Laws.Result.{Passed, answered_sound}
use Rattle.manager.specs.Lists.{every}
use Rattle.manager.specs.Result.{Result, Check, check, checked, refused}
use Rattle.manager.specs.Region.{dead}
use Rattle.manager.specs.Partition.{dead_partition}
use Rattle.manager.specs.Regions.{answered}
use Rattle.manager.specs.declared.Manager.{Manager}
use Rattle.manager.specs.declared.Region.{Region}
use Rattle.manager.specs.declared.Partition.{Partition}
use Rattle.manager.specs.declared.Status.{Status}
use Rattle.manager.specs.declared.Status.TheVariants.{Successful, InvalidId}
use Rattle.trace.specs.Receipts.{RegionEntry, PartitionEntry, Reply, reply_of}
use Rattle.trace.specs.Replies.{no, decided, living}
use Rattle.trace.proofs.Invariant.{region_as, RegionIs, RegionSlot, PartitionIs, PartitionSlot, empty, live}
use Rattle.trace.proofs.Regions.Checks.{refusing, refuses}
use Rattle.trace.proofs.Regions.Live.{not_dead}

-- what is left of a directive is answered so
abbrev pub Answers : List ℕ → Manager → List Check → Result → Reply → Type 0
Answers m d cs act r = reply_of (checked cs (refused m d) act) ≡ r

-- the tests are alike, each where those before it pass, and what is behind them is answered so
pub data Agree (m : List ℕ) (d : Manager) : List Check → List Check → Result → Reply → Type 0 where
  rest : {cs : List Check} {act : Result} {r : Reply} → Answers m d cs act r → Agree m d cs [] act r
  same : {c : Check} {cs xs : List Check} {act : Result} {r : Reply} → Agree m d cs xs act r → Agree m d (c ∷ cs) (c ∷ xs) act r
  test : {b c : Bool} {s : Status} {cs xs : List Check} {act : Result} {r : Reply} → b ≡ c → (c ≡ false → Agree m d cs xs act r)
      → Agree m d (check b s ∷ cs) (check c s ∷ xs) act r

-- no test is left
pub acted : {m : List ℕ} {d : Manager} {act : Result} {r : Reply} → reply_of act ≡ r → Agree m d [] [] act r
unfolding checked
acted e = rest e

pub agree : {m : List ℕ} {d : Manager} {cs xs : List Check} {act : Result} {r : Reply} → Agree m d cs xs act r → Answers m d cs act (decided xs r)
unfolding checked decided
agree (rest a) = a
agree {m} {d} (same {c} {cs} {xs} {act} {r} a) =
    by_case c.fails (λ b. reply_of (cond b (refused m d c.status) (checked cs (refused m d) act)) ≡ cond b (no c.status) (decided xs r))
    (λ e. refl) (λ e. agree a)
agree {m} {d} (test {b} {c} {s} {cs} {xs} {act} {r} e f) =
    rw e
    (by_case c (λ x. reply_of (cond x (refused m d s) (checked cs (refused m d) act)) ≡ cond x (no s) (decided xs r)) (λ g. refl) (λ g. agree (f g)))

-- A SUCCESS HAS PASSED ALL CHECKS, and is what is behind them
pub passed : (cs : List Check) (r : Reply) → every refuses cs ≡ true → (decided cs r).status ≡ Successful → Passed cs × (decided cs r ≡ r)
unfolding decided Passed every
passed [] r h e = (tt, refl)
passed (c ∷ cs) r h e = go c.fails refl (passed cs r (and_second (refuses c) (every refuses cs) h))
  where
    go : (b : Bool) → c.fails ≡ b → ((decided cs r).status ≡ Successful → Passed cs × (decided cs r ≡ r))
        → ((c.fails ≡ false) × Passed cs) × (cond c.fails (no c.status) (decided cs r) ≡ r)
    go true f ih =
        let s : c.status ≡ Successful = rw f at e in
        absurd (true≢false (sym (and_first (refuses c) (every refuses cs) h) ∙ ap refusing s))
    go false f ih =
        let p = ih (rw f at e) in
        ((f, p.0), rw f p.1)

module _ (m : List ℕ) (d : Manager) where
  -- of sound books the check for 25 passes
  pub answers : {ok : Bool} (cs : List Check) (act : Result) (r : Reply) → ok ≡ true → Answers m d cs act r → reply_of (answered ok m d cs act) ≡ r
  answers cs act r e a = ap (λ (s : Result). reply_of s) (answered_sound m d cs act e) ∙ a

  -- 4, and then what the entry says
  pub at_region : (r : Region) (o : Option RegionEntry) → RegionSlot m r o → (cs : Region → List Check) (act : Region → Result) (f : RegionEntry → Reply)
      → ((g : ℕ) (e : RegionEntry) → RegionIs m e → o ≡ Some e → r ≡ region_as g e → Answers m d (cs (region_as g e)) (act (region_as g e)) (f e))
      → Answers m d (check (dead r) InvalidId ∷ cs r) (act r) (living o f)
  unfolding checked
  at_region r o (empty g) cs act f h = refl
  at_region r o (live g e is) cs act f h = rw (not_dead m e is) (h g e is refl refl)

  pub at_partition : (p : Partition) (o : Option PartitionEntry) → PartitionSlot m p o → (cs : Partition → List Check) (act : Partition → Result) (f : PartitionEntry → Reply)
      → ((e : PartitionEntry) → PartitionIs m p e → o ≡ Some e → Answers m d (cs p) (act p) (f e))
      → Answers m d (check (dead_partition p) InvalidId ∷ cs p) (act p) (living o f)
  unfolding checked
  at_partition p o (empty g) cs act f h = refl
  at_partition p o (live x e is) cs act f h = rw (ne_eqb p.name 0 is.named) (h e is refl)
