-- What a get does to the words: the smallest free block that serves, the lowest of its size, stands in the words as a first word and words
-- 0; just these are lent, and what they are cut to is put back in their place. Assumes nothing.
use Rattle.std.specs.Prelude.{None}
use Prim.Native.Nat.{ℕ, zero, suc, ◌+◌, ◌-◌, ◌≤◌}
use mathlib.Core.Path.{◌≡◌, sym, ap, ◌∙◌}
use mathlib.Core.Logic.{inl, inr, ⊎_elim}
use mathlib.Core.Bool.{true}
use mathlib.Core.List.{List, [], ◌∷◌, ◌++◌}
use native.Mathlib.Omega.{arith}
use native.Mathlib.Nat.{add-sub_cancel_left}
use native.Mathlib.Numerals.{sub-one}
use lib.ListN.{length, take, drop}
use lib.Seq.{take_at, drop_at}
use borrow.Author.Tests.{eq-eqb}
use Rattle.arith.specs.Power.{level, is_power}
use Rattle.arith.proofs.Laws.Power.{is_power_lem}
use Rattle.manager.specs.Map.{Segment, free, held, words_of, draw, decode, tiled, sound_map, total}
use Rattle.manager.specs.Kind.{allocate}
use Rattle.manager.specs.Halves.{FreeAt, place_block, carve, occupy_block, halves}
use Rattle.manager.specs.declared.Need.{Need}
use Rattle.map.specs.declared.walk.Segment.{Segment as Placed}
use Rattle.segments.specs.MapWords.{IsSmallest}
use Rattle.manager.proofs.Laws.Map.{Sized, sound_tiled, sound_proper, redraw, sized_decoded, draw_append, draw_cons, length_draw, length_words}
use Rattle.manager.proofs.Laws.Halves.Cut.{Halved, one, two, proper_halved}
use Rattle.manager.proofs.Laws.Halves.Place.{free_part}
use Rattle.manager.proofs.Laws.Halves.Take.{occupy_right}
use Rattle.segments.proofs.Blocks.Carve.{Blank}

-- ---- a free block among the segments

-- its pages are a power of two
free_power : (at p n : ℕ) {j : ℕ} {s : List Segment} → Halved j s → FreeAt s at p n → is_power n ≡ true
unfolding FreeAt
free_power at p n (one j (held m) e) x = absurd x
free_power at p n (one j (free m) e) (inl x) = let y : n ≡ _ = sym x.1 ∙ e in rw y (is_power_lem j)
free_power at p n (one j (free m) e) (inr x) = absurd x
free_power at p n (two j a b x y f) z =
    ⊎_elim
    (λ (u : FreeAt a at p n). free_power at p n x u)
    (λ (u : FreeAt b (at + total a) p n). free_power (at + total a) p n y u)
    (free_part a b at p n z)

-- what stands before it and behind it
record Spot (at p n : ℕ) (s : List Segment) : Type 0 where
  pre : List Segment
  post : List Segment
  is : s ≡ pre ++ (free n ∷ post)
  page : at + total pre ≡ p

spot : (at p n : ℕ) (s : List Segment) → FreeAt s at p n → Spot at p n s
unfolding FreeAt total
spot at p n [] x = absurd x
spot at p n (held m ∷ s) x =
    let h = spot (at + m) p n s x in
    record { pre = held m ∷ h.pre; post = h.post; is = ap (λ (t : List Segment). held m ∷ t) h.is; page = omega (arith, h.page) }
spot at p n (free m ∷ s) (inl x) =
    record { pre = []; post = s; is = ap (λ (k : ℕ). free k ∷ s) x.1; page = omega (arith, x.0) }
spot at p n (free m ∷ s) (inr x) =
    let h = spot (at + m) p n s x in
    record { pre = free m ∷ h.pre; post = h.post; is = ap (λ (t : List Segment). free m ∷ t) h.is; page = omega (arith, h.page) }

sized_front : (a b : List Segment) → Sized (a ++ b) → Sized a
sized_front [] b w = tt
sized_front (g ∷ a) b w = (w.0, sized_front a b w.1)

-- k pages of it are held
occupy_spot : (at p n k : ℕ) (s : List Segment) (h : Spot at p n s) → Sized s → occupy_block p k at s ≡ h.pre ++ (carve (level n) k n ++ h.post)
unfolding occupy_block
occupy_spot at p n k s h w =
    ap (occupy_block p k at) h.is
    ∙ occupy_right p k at h.pre (free n ∷ h.post) (sized_front h.pre (free n ∷ h.post) (rw h.is at w)) (omega (arith, h.page))
    ∙ rw (eq-eqb (at + total h.pre) p h.page)

-- ---- its words

blank_words : (n k : ℕ) → is_power n ≡ true → 1 ≤ n → 1 ≤ k → Blank (words_of n 0) k
blank_words zero k e o l = absurd (omega arith)
blank_words (suc n) k e o l =
    let x : length (words_of (suc n) 0) ≡ suc n = length_words (suc n) 0 in
    record { power = rw x e; zeros = rw (x, sub-one); some = l }

-- words in three parts, of which the middle one is lent
module _ (p m t ws : List ℕ) (i n : ℕ) (x : ws ≡ p ++ (m ++ t)) (ep : length p ≡ i) (em : length m ≡ n) where
  drop_front : drop i ws ≡ m ++ t
  drop_front = ap (drop i) x ∙ drop_at p (m ++ t) i ep

  part_is : take (i + n - i) (drop i ws) ≡ m
  part_is = rw (add-sub_cancel_left i n, drop_front) (take_at m t n em)

  put_is : (out : List ℕ) → take i ws ++ (out ++ drop (i + n - i) (drop i ws)) ≡ p ++ (out ++ t)
  put_is out = rw (add-sub_cancel_left i n, drop_front, drop_at m t n em, x, take_at p (m ++ t) i ep)

-- ---- THE BLOCK THAT SERVES

abbrev part : List ℕ → ℕ → ℕ → List ℕ
part ws i b = take (i + b - i) (drop i ws)

pub record Took (n : Need) (x : Placed) (ws : List ℕ) : Type 0 where
  pub long : length (part ws x.at x.pages) ≡ x.pages
  pub blank : Blank (part ws x.at x.pages) n.pages
  pub words : (out : List ℕ) → out ≡ draw (carve (level (length (part ws x.at x.pages))) n.pages (length (part ws x.at x.pages)))
      → take x.at ws ++ (out ++ drop (x.at + x.pages - x.at) (drop x.at ws)) ≡ draw (allocate halves n 0 (decode ws))

module _ (ws : List ℕ) (n : Need) (ok : sound_map halves.proper ws ≡ true) where
  abbrev k : ℕ
  k = n.pages

  tiles : tiled ws ≡ true
  tiles = sound_tiled halves.proper ws ok

  -- where none serves nothing changes
  pub untaken : None ≡ place_block k 0 (decode ws) → (None ≡ place_block k 0 (decode ws)) × (ws ≡ draw (allocate halves n 0 (decode ws)))
  untaken e = (e, rw (← e) (sym (redraw ws tiles)))

  module _ (o : 1 ≤ k) (x : Placed) (c : IsSmallest k ws x) where
    abbrev s : List Segment
    s = decode ws

    abbrev i : ℕ
    i = x.at

    abbrev b : ℕ
    b = x.pages

    pub took : Took n x ws
    took =
        let h = spot 0 i b s c.there in
        let p = draw h.pre in
        let m = words_of b 0 in
        let t = draw h.post in
        let g = carve (level b) k b in
        let y : ws ≡ p ++ (m ++ t) =
        sym (redraw ws tiles)
        ∙ ap draw h.is
        ∙ draw_append h.pre (free b ∷ h.post)
        ∙ ap (λ (u : List ℕ). p ++ u) (draw_cons (free b) h.post) in
        let ep : length p ≡ i = omega (arith, length_draw h.pre, h.page) in
        let em : length m ≡ b = length_words b 0 in
        let z : part ws i b ≡ m = part_is p m t ws i b y ep em in
        let w : draw (occupy_block i k 0 s) ≡ p ++ (draw g ++ t) =
        ap draw (occupy_spot 0 i b k s h (sized_decoded ws tiles))
        ∙ draw_append h.pre (g ++ h.post)
        ∙ ap (λ (u : List ℕ). p ++ u) (draw_append g h.post) in
        let v : draw (allocate halves n 0 s) ≡ draw (occupy_block i k 0 s) = rw (← c.place) in
        record {
          long = ap length z ∙ em;
          blank = rw z (blank_words b k (free_power 0 i b (proper_halved s (sound_proper halves.proper ws ok)) c.there) (omega (arith, c.enough)) o);
          words = λ out e. put_is p m t ws i b y ep em out ∙ rw (e, z, em) (sym (v ∙ w));
        }
