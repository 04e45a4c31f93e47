-- The map of a new region: all its words 0, and then the first one says one free segment; put back in the memory, that is what create
-- draws. Assumes nothing.
use Prim.Native.Nat.{ℕ, zero, suc, ◌*◌, ◌≤◌}
use mathlib.Core.Path.{◌≡◌, ap, ◌∙◌}
use mathlib.Core.List.{List, [], ◌++◌, append-nil}
use native.Mathlib.Omega.{arith}
use native.Mathlib.Nat.{add-zero}
use lib.ListN.{length, replicate, set, length-replicate}
use Rattle.manager.specs.Map.{draw, total}
use Rattle.manager.specs.Paged.{free+}
use Rattle.manager.proofs.Laws.Paged.{total_free}
use Rattle.manager.specs.Region.{layout_of, pages_of, opened}
use Rattle.manager.proofs.Laws.Region.{lent, put_back, lent_long, lent_in, lent_fits, lent_bytes, lent_few, lent_some, put_back_lem}
use Rattle.manager.specs.Sound.{Laid}
use Rattle.arith.specs.declared.Layout.{Layout}
use Rattle.manager.specs.declared.Region.{Region}

cleared : (n : ℕ) → 1 ≤ n → set (replicate n 0) 0 (n * 2) ≡ draw (free+ n [])
unfolding draw free+
cleared zero o = absurd (omega arith)
cleared (suc n) o = let z : replicate {A = ℕ} n 0 ++ [] ≡ replicate n 0 = append-nil (replicate n 0) in rw (add-zero (suc n * 2), z)

pub clear_is : (was ws : List ℕ) → 1 ≤ length was → ws ≡ replicate (length was) 0 → set ws 0 (length ws * 2) ≡ draw (free+ (length was) [])
clear_is was ws o e =
    let z : length (replicate {A = ℕ} (length was) 0) ≡ length was = length-replicate (length was) 0 in
    rw (e, z) (cleared (length was) o)

-- what is put back
pub opens : (r : Region) (l : Layout) → l ≡ layout_of r → (m : List ℕ) → Laid m r → (ws : List ℕ) → ws ≡ draw (free+ (length (lent l m)) [])
    → put_back l m ws ≡ opened m r
unfolding total
opens r l el m h ws e =
    ap (put_back l m) (e ∙ ap (λ (k : ℕ). draw (free+ k [])) (lent_long r l el m h))
    ∙ put_back_lem r l el m h (free+ (pages_of r) []) (total_free (pages_of r) [] ∙ add-zero (pages_of r))

pub ruleset opening = (lent_in, lent_fits, lent_bytes, lent_few, lent_some, opens)
