-- A live region under an id: the record has what its entry asks for. Assumes nothing.
use Rattle.std.specs.Prelude.{Option, Some}
use mathlib.Core.Path.{◌≡◌, refl}
use mathlib.Core.Bool.{false}
use mathlib.Core.List.{List}
use Prim.Native.Nat.{ℕ}
use native.Mathlib.Omega.{arith}
use borrow.Author.Tests.{ne_eqb}
use Rattle.manager.specs.Region.{dead}
use Rattle.manager.specs.declared.Region.{Region}
use Rattle.trace.specs.Receipts.{RegionEntry}
use Rattle.trace.proofs.Invariant.{region_for, RegionIs, RegionSlot, empty, live}
use Rattle.trace.proofs.Clients.{RegionAt}

-- a slot that is not empty is in the receipts
pub slot_entry_lem : (m : List ℕ) (r : Region) (o : Option RegionEntry) → RegionSlot m r o → dead r ≡ false
    → (e : RegionEntry) × (o ≡ Some e) × RegionAt m r e
slot_entry_lem m r o (empty g) q = let z : ◌≡◌ {A = ℕ} 0 1 = cc in absurd (omega arith)
slot_entry_lem m r o (live g e is) q = (e, refl, record { generation = g; region = refl; is = is })

pub not_dead : (m : List ℕ) (e : RegionEntry) → RegionIs m e → dead (region_for e) ≡ false
not_dead m e is = ne_eqb e.name 0 is.named
