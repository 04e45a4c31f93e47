-- What the functions on objects and areas need of the definitions, over plain variables. Assumes nothing.
use mathlib.Core.Path.{◌≡◌, sym, ap, ◌∙◌}
use mathlib.Core.List.{List, map}
use Prim.Native.Nat.{ℕ, ◌≤◌, ◌<◌}
use native.Mathlib.Omega.{arith}
use mir.Syntax.{w32}
use mir.Val.{Fits}
use borrow.Author.Rules.{Fits-under}
use lib.ListN.{length, length-map, get_or}
use Rattle.manager.specs.Record.{slots, generations, id_of}
use Rattle.manager.proofs.Laws.Lists.{get_d_any}
use Rattle.manager.proofs.Laws.Ids.{id_small}

-- what is known of the length of an array that is a field stands at a map of it
pub unmapped : {X Y : Type 0} (f : X → Y) (l : List X) (n : ℕ) → length (map f l) ≡ n → length l ≡ n
unmapped f l n e = simp length-map at e

-- an id fits, of whatever slot of sound records
pub id_fits : (i g v : ℕ) → i < slots → g ≤ generations → v ≡ id_of i g → Fits w32 v
id_fits i g v k h e = Fits-under w32 v 2097152 (let s = id_small i g k h in omega arith) tt

-- the id of what is in a slot
pub id_of_fits : {A : Type 0} (g : A → ℕ) (z : A) {l m : List A} {i n v : ℕ} {x : A}
    → l ≡ m → length l ≡ slots → i < slots → x ≡ get_or l i x → n ≡ g x → g (get_or m i z) ≤ generations → v ≡ id_of i n → Fits w32 v
id_of_fits g z {l = l} {i = i} {n = n} {v = v} {x = x} e h k f q b w =
    let same : g (get_or l i z) ≡ n = ap g (get_d_any l i z x (omega (arith, h)) ∙ sym f) ∙ sym q in
    id_fits i n v k (rw same at rw (← e) at b) w

pub ruleset fitting = (unmapped, id_fits)
