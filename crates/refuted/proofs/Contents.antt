-- WRONG CONTENTS: managers that answer rightly and spoil what a client holds. Demand 3 says that photographs stay put and that a write
-- stores the values given; each fails there after one list of calls over 64 words. Assumes nothing.
use mathlib.Core.Path.{◌≡◌, refl, ap}
use mathlib.Core.List.{List, [], ◌∷◌}
use mathlib.Core.Logic.{inl}
use Prim.Native.Nat.{ℕ, ◌-◌, ◌/◌}
use native.Mathlib.Omega.{arith}
use lib.ListN.{length, get_or, set, replicate}
use Rattle.manager.specs.Access.{read_segment, write_segment}
use Rattle.manager.specs.Perform.{Implementation, perform}
use Rattle.manager.specs.declared.Order.TheVariants.{Fifo}
use Rattle.trace.specs.Loans.{Loan, loan, Lent}
use Rattle.trace.specs.Receipts.{RegionEntry}
use Rattle.trace.specs.Trace.{region, segment}
use Rattle.trace.specs.Claims.{Demand3}
use Rattle.refuted.proofs.Refute.{claimed}
use Rattle.refuted.proofs.Calls.{create, get, everything}
use Rattle.refuted.proofs.Wrong.{segment_get, but, leaving}

-- the region of the lists, with its loans
abbrev lends : List Loan → RegionEntry
lends l = record { name = 1; start = 4; bytes = 252; page = 64; order = Fifo; loans = l }

-- 47. A WRITE STORES ZEROS, whatever it is given
abbrev stores_zeros : Implementation
stores_zeros = record { call = perform; read = read_segment; write = λ m d id address first ws. write_segment m d id address first (replicate (length ws) 0) }

not_stores_zeros : ¬ Demand3 stores_zeros
unfolding everything
not_stores_zeros h =
    let z : ◌≡◌ {A = ℕ} 0 7 = ap (λ (m : List ℕ). get_or m 16 0) ((claimed stores_zeros h (create ∷ get 64 ∷ [])).writes 1 64 0 (7 ∷ [])) in
    omega arith

-- 48. A GET SPOILS A WORD OF THE SEGMENT LENT BEFORE IT (33, which demand 1 refutes, refuted by demand 3 too)
abbrev spoils_other : Implementation
spoils_other = but segment_get 0 λ m d c a. leaving a (set a.memory (a.value / 4 - 16) 9)

not_spoils_other : ¬ Demand3 spoils_other
unfolding everything Lent
not_spoils_other h =
    let z : ◌≡◌ {A = ℕ} 9 0 =
    (claimed spoils_other h (create ∷ get 64 ∷ [])).stays (get 64) 16
    (region 1, 64, 64, segment {id = 1} {a = 64} (lends (loan 64 1 ∷ [])) refl 1 (inl (refl, refl)), omega arith, omega arith)
    (region 1, 64, 64, segment {id = 1} {a = 64} (lends (loan 64 1 ∷ loan 128 1 ∷ [])) refl 1 (inl (refl, refl)), omega arith, omega arith) in
    omega arith
