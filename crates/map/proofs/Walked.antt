-- A walk over a map gives its segments in their places: where a proof about a loop or a chain of iterators begins. Assumes nothing.
use Rattle.std.proofs.Common.{◌≡◌, ℕ, ◌+◌, ◌≤◌, true, List, [], ◌∷◌, length, drop, map, map-id, cond, Option, refl, sym, ap, ◌∙◌, arith}
use Rattle.std.specs.Iterator.{YieldsFirst, Drains}
use Rattle.std.proofs.lemmas.Iterator.{YieldsList, items_from_drains}
use Rattle.std.proofs.lemmas.Iterator.Consumers.{YieldsList-from_first}
use Rattle.manager.specs.Map.{free, held, size_of, total, decode, tiled}
use Rattle.manager.specs.Map.{Segment as Described}
use Rattle.manager.proofs.Laws.Map.{total_cons, total_decoded}
use Rattle.map.specs.Walk.{placed}
use Rattle.map.specs.declared.walk.Segment.{Segment}
use Rattle.map.specs.declared.walk.Segments.{Segments}

-- the segments that a walk has still to give
abbrev pub left : Segments → List Segment
left s = placed s.at (decode (drop s.at s.words.now))

pub walk_gives : {s : Segments} (xs : List Segment) → left s ≡ xs → YieldsList (YieldsFirst left) (λ x. x) s xs
walk_gives xs e = YieldsList-from_first (λ x. x) left xs e

-- what a chain gave up to its `None` is what it gives
pub drained : {S A : Type 0} {steps : S → Option A → S → Type 0} {s : S} {all : List A} (xs : List A) → Drains steps s xs → YieldsList steps (λ x. x) s all
    → xs ≡ all
drained xs d road = sym (map-id xs) ∙ items_from_drains xs (d.1.0, d.1.1, λ _. (d.0, d.1.2)) road

-- they end within a map of n words
abbrev pub EndBy : ℕ → List Segment → Type 0
EndBy n [] = Unit {0}
EndBy n (x ∷ xs) = (x.at + x.pages ≤ n) × EndBy n xs

end_by_total : (n at : ℕ) (s : List Described) → at + total s ≤ n → EndBy n (placed at s)
unfolding placed
end_by_total n at [] h = tt
end_by_total n at (g ∷ s) h =
    let t = total_cons g s in
    (omega arith, end_by_total n (at + size_of g) s (omega arith))

pub placed_end : (ws : List ℕ) → tiled ws ≡ true → EndBy (length ws) (placed 0 (decode ws))
placed_end ws ok = end_by_total (length ws) 0 (decode ws) (omega (arith, total_decoded ws ok))

pub end_by_more : (n m : ℕ) (xs : List Segment) → n ≤ m → EndBy n xs → EndBy m xs
end_by_more n m [] l h = tt
end_by_more n m (x ∷ xs) l h = (omega (arith, h.0), end_by_more n m xs l h.1)

-- what each of them is
abbrev pub told : Segment → Described
told x = cond x.held (held x.pages) (free x.pages)

pub told_placed : (at : ℕ) (s : List Described) → map told (placed at s) ≡ s
unfolding placed
told_placed at [] = refl
told_placed at (held n ∷ s) = ap (λ (t : List Described). held n ∷ t) (told_placed (at + n) s)
told_placed at (free n ∷ s) = ap (λ (t : List Described). free n ∷ t) (told_placed (at + n) s)
