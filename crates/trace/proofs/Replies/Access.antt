-- What a write of a held segment answers, and what a read hands back, by the receipts. Assumes nothing.
use Rattle.std.specs.Prelude.{Option}
use mathlib.Core.Path.{◌≡◌, refl, ap}
use mathlib.Core.Bool.{cond, ◌||◌}
use mathlib.Core.List.{List, [], ◌∷◌}
use Prim.Native.Nat.{ℕ, zero, suc, ◌+◌, ◌*◌, ◌/◌}
use native.Mathlib.Nat.{zero-mul}
use native.Mathlib.Omega.{arith}
use lib.ListN.{length, take, drop}
use lib.Seq.{sets}
use lib.Dec.{eqb, ltb}
use borrow.Author.Tests.{ne_eqb}
use Rattle.manager.specs.Record.{region_of}
use Rattle.manager.specs.Result.{check, done}
use Rattle.manager.specs.Region.{dead, held_at}
use Rattle.manager.specs.Access.{read_segment, write_segment}
use Rattle.manager.specs.declared.Manager.{Manager}
use Rattle.manager.specs.declared.Region.{Region}
use Rattle.manager.specs.declared.Status.TheVariants.{InvalidSize, InvalidAddress}
use Rattle.trace.specs.Receipts.{Receipts, RegionEntry, reply_of, unit}
use Rattle.trace.specs.Loans.{pages_at}
use Rattle.trace.specs.Replies.{lent_words, write_by_receipts, read_by_receipts}
use Rattle.trace.proofs.Invariant.{RegionSlot, empty, live, Inv}
use Rattle.trace.proofs.Regions.Live.{not_dead}
use Rattle.trace.proofs.Regions.Queue.{sound_inv}
use Rattle.trace.proofs.Replies.Checks.{test, acted, agree, answers, at_region}
use Rattle.trace.proofs.Map.{shows, none_at}

-- a segment of no pages has no words
no_words : (n u : ℕ) (w : List ℕ) → cond (eqb n 0) [] (take (n * u / 4) w) ≡ take (n * u / 4) w
no_words zero u w = let e : 0 * u / 4 ≡ 0 = omega (arith, zero-mul u) in rw e
no_words (suc n) u w = rw (ne_eqb (suc n) 0 (λ e. omega arith))

module _ (m : List ℕ) (a : ℕ) where
  read_is : (r : Region) (o : Option RegionEntry) → RegionSlot m r o
      → cond (dead r || eqb (held_at m r a) 0) [] (take (held_at m r a * r.page / 4) (drop (a / 4) m)) ≡ take (lent_words o a) (drop (a / 4) m)
  read_is r o (empty g) = refl
  read_is r o (live g e is) = rw (not_dead m e is, (shows m e is).held a) (no_words (pages_at a e.loans) (unit e) (drop (a / 4) m))

module _ (m : List ℕ) (d : Manager) (t : Receipts) (v : Inv m d t) where
  pub replies_write : (id a first : ℕ) (words : List ℕ) → reply_of (write_segment m d id a first words) ≡ write_by_receipts t id a first words
  unfolding write_segment
  replies_write id a first words =
      answers m d _ _ _ (sound_inv m d t v)
      (at_region m d (region_of d id) (t.regions id) (v.picture.regions id)
      (λ r. check (eqb (held_at m r a) 0) InvalidAddress ∷ check (ltb (held_at m r a * r.page / 4) (first + length words)) InvalidSize ∷ [])
      (λ r. done (sets m (a / 4 + first) words) d 0) _
      (λ g e is q p. agree (test (none_at m e is a) (λ z.
      test (ap (λ (n : ℕ). ltb (n * unit e / 4) (first + length words)) ((shows m e is).held a)) (λ z. acted refl)))))

  pub reads : (id a : ℕ) → read_segment m d id a ≡ read_by_receipts m t id a
  unfolding read_segment
  reads id a = rw (sound_inv m d t v) (read_is m a (region_of d id) (t.regions id) (v.picture.regions id))
