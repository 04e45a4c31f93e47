-- The check of a map by halves. The words of a block of 2^j pages are sound where they draw a block got by halving, and then either the
-- first word says all its pages, or the words of both halves are sound and not both wholly free. Assumes nothing.
use Prim.Native.Nat.{ℕ, zero, suc, ◌+◌, ◌-◌, ◌*◌, ◌/◌, ◌^◌, ◌≤◌, ◌<◌}
use mathlib.Core.Path.{◌≡◌, refl, sym, ap, ◌∙◌}
use mathlib.Core.Bool.{Bool, true, false, not, ◌&&◌, and-false}
use mathlib.Core.List.{List, [], ◌∷◌, ◌++◌}
use native.Mathlib.Omega.{arith}
use native.Mathlib.Numerals.{sub-one}
use borrow.Author.Tests.{eq-eqb, ne_eqb, eqb-true, eqb-false, le-leb}
use lib.Dec.{eqb}
use lib.ListN.{length, get_or, take, drop, length-drop, take-append-drop}
use lib.Seq.{take_at, drop_at, take_all, length-take-le, get_or-take, get_or-drop}
use Rattle.arith.specs.Power.{level, power_up, is_power}
use Rattle.arith.proofs.Laws.Power.{some_power, double, is_power_lem, power_is, power_some, level_power}
use Rattle.manager.specs.Lists.{every}
use Rattle.manager.specs.Map.{Segment, free, held, size_of, segment_of, draw, decode, tiled_from, tiled, sound_map, total}
use Rattle.manager.specs.Halves.{is_free, halves}
use Rattle.arith.proofs.Laws.Layout.{both_true}
use Rattle.manager.proofs.Laws.Map.{Sized, decode_start, size_of_lem, draw_append, length_draw, total_cons, total_decoded, redraw, reread, sound_tiled, sound_proper, sound_drawn}
use Rattle.manager.proofs.Laws.Halves.Cut.{Halved, one, two, halved_sized, halved_total, halved_some, proper_of, proper_halved, free_is}

-- sound words of a map by halves
abbrev Sound : List ℕ → Bool
Sound ws = sound_map halves.proper ws

not_free : (b : Bool) → (b ≡ true → ⊥) → b ≡ false
not_free true h = absurd (h refl)
not_free false h = refl

-- ---- words and blocks

pub drawn_sound : (j : ℕ) (s : List Segment) → Halved j s → Sound (draw s) ≡ true
drawn_sound j s h = sound_drawn halves.proper s (halved_sized h) (proper_of h)

pub sound_halved : (j : ℕ) (ws : List ℕ) → length ws ≡ 2 ^ j → Sound ws ≡ true → Halved j (decode ws)
sound_halved j ws n e =
    let t = total_decoded ws (sound_tiled halves.proper ws e) in
    let l : level (total (decode ws)) ≡ j = ap level (t ∙ n) ∙ level_power j in
    rw l at (proper_halved (decode ws) (sound_proper halves.proper ws e))

-- what is drawn by the words of a block
pub record Drawn (j : ℕ) (ws : List ℕ) : Type 0 where
  pub block : List Segment
  pub halved : Halved j block
  pub words : ws ≡ draw block

pub sound_drawn_block : (j : ℕ) (ws : List ℕ) → length ws ≡ 2 ^ j → Sound ws ≡ true → Drawn j ws
sound_drawn_block j ws n e =
    record { block = decode ws; halved = sound_halved j ws n e; words = sym (redraw ws (sound_tiled halves.proper ws e)) }

-- the first word of a drawn segment
first_word : (g : Segment) (s : List Segment) → 1 ≤ size_of g → get_or (draw (g ∷ s)) 0 0 / 2 ≡ size_of g
unfolding draw
first_word (free zero) s h = absurd (omega arith)
first_word (held zero) s h = absurd (omega arith)
first_word (free (suc n)) s h = omega arith
first_word (held (suc n)) s h = omega arith

-- of a free one
free_first : (n : ℕ) → 1 ≤ n → get_or (draw (free n ∷ [])) 0 0 ≡ n * 2
unfolding draw
free_first zero h = absurd (omega arith)
free_first (suc n) h = omega arith

-- a block whose first word says a free segment of all its pages is wholly free
free_by : (j : ℕ) (s : List Segment) → Halved j s → get_or (draw s) 0 0 ≡ 2 ^ suc j → is_free s ≡ true
unfolding is_free draw
free_by j s (one i (free m) e) w = refl
free_by j s (one i (held zero) e) w = absurd (omega (arith, some_power i))
free_by j s (one i (held (suc m)) e) w = absurd (omega (arith, double i))
free_by j s (two i a b x y f) w =
    let h = halved_some x in
    let k = halved_sized x in
    let l : total a ≡ size_of h.first + total h.rest = ap total h.is ∙ total_cons h.first h.rest in
    let o : 1 ≤ size_of h.first = (let q : Sized (h.first ∷ h.rest) = rw h.is at k in q.0) in
    let g : get_or (draw (a ++ b)) 0 0 / 2 ≡ size_of h.first = ap (λ (t : List Segment). get_or (draw (t ++ b)) 0 0 / 2) h.is ∙ first_word h.first (h.rest ++ b) o in
    absurd (omega (arith, halved_total x, double i, double (suc i), some_power i))

-- ---- THE FIRST WORD SAYS ALL PAGES

zeros_tiled : (ws : List ℕ) → tiled_from (length ws) ws ≡ every (λ w. eqb w 0) ws
unfolding tiled_from every
zeros_tiled [] = refl
zeros_tiled (w ∷ ws) = ap (λ (b : Bool). eqb w 0 && b) (zeros_tiled ws)

decode_zeros : (ws : List ℕ) → every (λ w. eqb w 0) ws ≡ true → decode ws ≡ []
unfolding every decode
decode_zeros [] e = refl
decode_zeros (w ∷ ws) e = let p = both_true (eqb w 0) (every (λ w. eqb w 0) ws) e in rw p.0 (decode_zeros ws p.1)

whole_tiles : (w : ℕ) (ws : List ℕ) → w / 2 ≡ suc (length ws) → tiled (w ∷ ws) ≡ every (λ w. eqb w 0) ws
unfolding tiled tiled_from
whole_tiles w ws h = rw (le-leb 2 w (omega arith), h, sub-one) (zeros_tiled ws)

whole_words : (ws : List ℕ) → is_power (length ws) ≡ true → get_or ws 0 0 / 2 ≡ length ws → every (λ w. eqb w 0) (drop 1 ws) ≡ Sound ws
unfolding sound_map
whole_words [] p h = absurd (omega (arith, power_some 0 p))
whole_words (w ∷ ws) p h = go (every (λ w. eqb w 0) ws) refl
  where
    tiles : tiled (w ∷ ws) ≡ every (λ w. eqb w 0) ws
    tiles = whole_tiles w ws h

    go : (b : Bool) → every (λ w. eqb w 0) ws ≡ b → b ≡ Sound (w ∷ ws)
    go false e = sym (rw (tiles ∙ e))
    go true e =
        let d : decode (w ∷ ws) ≡ segment_of w ∷ [] = decode_start w ws (omega arith) ∙ ap (λ (s : List Segment). segment_of w ∷ s) (decode_zeros ws e) in
        let n : size_of (segment_of w) ≡ 2 ^ level (suc (length ws)) = size_of_lem w ∙ h ∙ power_is (suc (length ws)) p in
        sym (rw (tiles ∙ e, d) (proper_of (one (level (suc (length ws))) (segment_of w) n)))

pub whole_block : (ws : List ℕ) → is_power (length ws) ≡ true → get_or ws 0 0 / 2 ≡ length ws → (b : Bool) → b ≡ every (λ w. eqb w 0) (drop 1 ws) → b ≡ Sound ws
whole_block ws p h b e = e ∙ whole_words ws p h

-- ---- IT DOES NOT: two halves

-- a block that is one segment has a first word that says all its pages
not_one : (j : ℕ) (ws : List ℕ) (g : Segment) → size_of g ≡ 2 ^ j → ws ≡ draw (g ∷ []) → length ws ≡ 2 ^ j → ¬ (get_or ws 0 0 / 2 ≡ length ws) → ⊥
not_one j ws g e w n h =
    h (ap (λ (l : List ℕ). get_or l 0 0 / 2) w ∙ first_word g [] (omega (arith, some_power j)) ∙ e ∙ sym n)

pub page_bad : (ws : List ℕ) → length ws ≡ 1 → ¬ (get_or ws 0 0 / 2 ≡ length ws) → false ≡ Sound ws
page_bad ws n h = go (Sound ws) refl
  where
    view : (j : ℕ) (s : List Segment) → Halved j s → j ≡ 0 → ws ≡ draw s → ⊥
    view j s (one i g e) z w = not_one 0 ws g (rw z at e) w n h
    view j s (two i a b x y f) z w = absurd (omega arith)

    go : (b : Bool) → Sound ws ≡ b → false ≡ b
    go false e = refl
    go true e = let d = sound_drawn_block 0 ws n e in absurd (view 0 d.block d.halved refl d.words)

-- the words of two halves
module _ (j : ℕ) (ws : List ℕ) (a b : List Segment) (x : Halved j a) (w : ws ≡ draw (a ++ b)) where
  in_two : ws ≡ draw a ++ draw b
  in_two = w ∙ draw_append a b

  low_words : take (2 ^ j) ws ≡ draw a
  low_words = rw in_two (take_at (draw a) (draw b) (2 ^ j) (length_draw a ∙ halved_total x))

  high_words : drop (2 ^ j) ws ≡ draw b
  high_words = rw in_two (drop_at (draw a) (draw b) (2 ^ j) (length_draw a ∙ halved_total x))

-- a block of more than a page has two halves
pub record Even (n : ℕ) : Type 0 where
  pub level : ℕ
  pub is : n ≡ 2 ^ suc level
  pub half : n / 2 ≡ 2 ^ level

pub even : (n : ℕ) → is_power n ≡ true → ¬ (n ≡ 1) → Even n
even n p h = go (level n) (power_is n p)
  where
    go : (j : ℕ) → n ≡ 2 ^ j → Even n
    go zero e = absurd (h e)
    go (suc j) e = record { level = j; is = e; half = omega (arith, double j) }

module _ (ws : List ℕ) (p : is_power (length ws) ≡ true) where
  abbrev low : List ℕ
  low = take (length ws / 2) ws

  abbrev high : List ℕ
  high = take (length ws - length ws / 2) (drop (length ws / 2) ws)

  pub block_some : 1 ≤ length ws
  block_some = power_some (length ws) p

  module _ (more : ¬ (length ws ≡ 1)) where
    pub ev : Even (length ws)
    ev = even (length ws) p more

    abbrev n : ℕ
    n = 2 ^ ev.level

    low_is : low ≡ take n ws
    low_is = let e : length ws / 2 ≡ n = ev.half in rw e

    high_is : high ≡ drop n ws
    high_is =
        let d = double ev.level in
        let e : length ws - length ws / 2 ≡ n = omega (arith, ev.half, ev.is) in
        let f : length ws / 2 ≡ n = ev.half in
        rw (e, f) (take_all n (drop n ws) (omega (arith, length-drop n ws, ev.is)))

    pub low_long : length low ≡ n
    low_long = ap length low_is ∙ length-take-le n ws (omega (arith, ev.is, double ev.level))

    pub high_long : length high ≡ n
    high_long = ap length high_is ∙ omega (arith, length-drop n ws, ev.is, double ev.level)

    pub low_power : is_power (length low) ≡ true
    low_power = ap is_power low_long ∙ is_power_lem ev.level

    pub high_power : is_power (length high) ≡ true
    high_power = ap is_power high_long ∙ is_power_lem ev.level

    pub low_less : length low < length ws
    low_less = omega (arith, low_long, ev.is, double ev.level, some_power ev.level)

    pub high_less : length high < length ws
    high_less = omega (arith, high_long, ev.is, double ev.level, some_power ev.level)

    -- where the first word does not say all pages, the words of both halves are sound where all are
    module _ (first : ¬ (get_or ws 0 0 / 2 ≡ length ws)) where
      halves_sound : Sound ws ≡ true → (a b : List Segment) × Halved ev.level a × Halved ev.level b × ((is_free a && is_free b) ≡ false) × (low ≡ draw a) × (high ≡ draw b)
      halves_sound e = go (suc ev.level) (decode ws) (sound_halved (suc ev.level) ws ev.is e) refl (sym (redraw ws (sound_tiled halves.proper ws e)))
        where
          go : (j : ℕ) (s : List Segment) → Halved j s → j ≡ suc ev.level → ws ≡ draw s
              → (a b : List Segment) × Halved ev.level a × Halved ev.level b × ((is_free a && is_free b) ≡ false) × (low ≡ draw a) × (high ≡ draw b)
          go j s (one i g x) z w = absurd (not_one (suc ev.level) ws g (rw z at x) w ev.is first)
          go j s (two i a b x y f) z w =
              let q : i ≡ ev.level = omega arith in
              let u : Halved ev.level a = rw q at x in
              let v : Halved ev.level b = rw q at y in
              (a, b, u, v, f, low_is ∙ low_words ev.level ws a b u w, high_is ∙ high_words ev.level ws a b u w)

      low_sound : Sound ws ≡ true → Sound low ≡ true
      low_sound e = let h = halves_sound e in rw h.5 (drawn_sound ev.level h.0 h.2)

      high_sound : Sound ws ≡ true → Sound high ≡ true
      high_sound e = let h = halves_sound e in rw h.6 (drawn_sound ev.level h.1 h.3)

      by_sound : (b : Bool) → (Sound ws ≡ true → b ≡ true) → b ≡ false → false ≡ Sound ws
      by_sound b f e = go (Sound ws) refl
        where
          go : (x : Bool) → Sound ws ≡ x → false ≡ x
          go false h = refl
          go true h = sym e ∙ f h

      pub low_bad : (b : Bool) → b ≡ Sound low → b ≡ false → false ≡ Sound ws
      low_bad b e f = by_sound b (λ h. e ∙ low_sound h) f

      pub high_bad : (b : Bool) → b ≡ Sound high → b ≡ false → false ≡ Sound ws
      high_bad b e f = by_sound b (λ h. e ∙ high_sound h) f

    -- a sound half is wholly free where its first word says so
    module _ (part : List ℕ) (long : length part ≡ n) (ok : Sound part ≡ true) where
      block : Halved ev.level (decode part)
      block = sound_halved ev.level part long ok

      pub free_word : is_free (decode part) ≡ true → get_or part 0 0 ≡ length ws
      unfolding draw
      free_word e =
          let d : decode part ≡ free n ∷ [] = free_is (decode part) e ∙ ap (λ (k : ℕ). free k ∷ []) (halved_total block) in
          let w : part ≡ draw (free n ∷ []) = sym (redraw part (sound_tiled halves.proper part ok)) ∙ ap draw d in
          ap (λ (l : List ℕ). get_or l 0 0) w ∙ omega (arith, free_first n (some_power ev.level), ev.is, double ev.level)

      pub word_free : get_or part 0 0 ≡ length ws → is_free (decode part) ≡ true
      word_free e = go ev.level (decode part) block refl (sym (redraw part (sound_tiled halves.proper part ok)))
        where
          go : (j : ℕ) (s : List Segment) → Halved j s → j ≡ ev.level → part ≡ draw s → is_free s ≡ true
          go j s h z w = free_by j s h (ap (λ (l : List ℕ). get_or l 0 0) (sym w) ∙ e ∙ ev.is ∙ ap (λ (i : ℕ). 2 ^ suc i) (sym z))

    -- both halves sound
    module _ (x y : Bool) (ex : x ≡ Sound low) (ey : y ≡ Sound high) (tx : x ≡ true) (ty : y ≡ true) where
      low_ok : Sound low ≡ true
      low_ok = sym ex ∙ tx

      high_ok : Sound high ≡ true
      high_ok = sym ey ∙ ty

      abbrev a : List Segment
      a = decode low

      abbrev b : List Segment
      b = decode high

      words_two : ws ≡ draw (a ++ b)
      words_two =
          sym (take-append-drop n ws)
          ∙ ap (λ (l : List ℕ). take n ws ++ l) (sym high_is ∙ sym (redraw high (sound_tiled halves.proper high high_ok)))
          ∙ ap (λ (l : List ℕ). l ++ draw b) (sym low_is ∙ sym (redraw low (sound_tiled halves.proper low low_ok)))
          ∙ sym (draw_append a b)

      cut_sound : (is_free a && is_free b) ≡ false → true ≡ Sound ws
      cut_sound f =
          sym (ap Sound words_two
          ∙ drawn_sound (suc ev.level) (a ++ b)
          (two ev.level a b (sound_halved ev.level low low_long low_ok) (sound_halved ev.level high high_long high_ok) f))

      low_first : get_or low 0 0 ≡ get_or ws 0 0
      low_first = ap (λ (l : List ℕ). get_or l 0 0) low_is ∙ get_or-take n ws 0 0 (some_power ev.level)

      high_first : get_or high 0 0 ≡ get_or ws (length ws / 2) 0
      high_first =
          let e : n + 0 ≡ length ws / 2 = omega (arith, ev.half) in
          ap (λ (l : List ℕ). get_or l 0 0) high_is ∙ get_or-drop n ws 0 0 ∙ rw e

      pub low_held : (get_or ws 0 0 ≡ length ws → ⊥) → true ≡ Sound ws
      low_held h = cut_sound (rw (not_free (is_free a) (λ e. h (sym low_first ∙ free_word low low_long low_ok e))))

      pub high_held : (get_or ws (length ws / 2) 0 ≡ length ws → ⊥) → true ≡ Sound ws
      high_held h = cut_sound (rw (not_free (is_free b) (λ e. h (sym high_first ∙ free_word high high_long high_ok e))) (and-false (is_free a)))

      pub both_free : (get_or ws 0 0 / 2 ≡ length ws → ⊥) → get_or ws 0 0 ≡ length ws → get_or ws (length ws / 2) 0 ≡ length ws → false ≡ Sound ws
      both_free first h k = go (Sound ws) refl
        where
          go : (t : Bool) → Sound ws ≡ t → false ≡ t
          go false e = refl
          go true e =
              let s = halves_sound first e in
              let u : a ≡ s.0 = ap decode s.5 ∙ reread s.0 (halved_sized s.2) in
              let v : b ≡ s.1 = ap decode s.6 ∙ reread s.1 (halved_sized s.3) in
              let p : is_free s.0 ≡ true = ap is_free (sym u) ∙ word_free low low_long low_ok (low_first ∙ h) in
              let q : is_free s.1 ≡ true = ap is_free (sym v) ∙ word_free high high_long high_ok (high_first ∙ k) in
              sym s.4 ∙ rw (p, q)

      -- where the low half may be wholly free, the first word of the high one tells
      pub high_says : (get_or ws 0 0 / 2 ≡ length ws → ⊥) → get_or ws 0 0 ≡ length ws
          → not (eqb (get_or ws (length ws / 2) 0) (length ws)) ≡ Sound ws
      high_says first h = go (eqb (get_or ws (length ws / 2) 0) (length ws)) refl
        where
          go : (e : Bool) → eqb (get_or ws (length ws / 2) 0) (length ws) ≡ e → not e ≡ Sound ws
          go true e = both_free first h (eqb-true (get_or ws (length ws / 2) 0) (length ws) e)
          go false e = high_held (eqb-false (get_or ws (length ws / 2) 0) (length ws) e)

-- ---- A WHOLE MAP: a power of two of words

sound_power : (ws : List ℕ) → Sound ws ≡ true → is_power (length ws) ≡ true
sound_power ws e =
    let t = total_decoded ws (sound_tiled halves.proper ws e) in
    let h = halved_total (proper_halved (decode ws) (sound_proper halves.proper ws e)) in
    let p : length ws ≡ 2 ^ level (total (decode ws)) = sym t ∙ h in
    rw p (is_power_lem (level (total (decode ws))))

module _ (ws : List ℕ) where
  pub not_power : (is_power (length ws) ≡ true → ⊥) → false ≡ Sound ws
  not_power h = go (Sound ws) refl
    where
      go : (b : Bool) → Sound ws ≡ b → false ≡ b
      go false e = refl
      go true e = absurd (h (sound_power ws e))

  -- their number is the least power of two at or above it, or the map is not sound
  module _ (b : ℕ) (e : b ≡ power_up (length ws)) where
    pub map_power : b ≡ length ws → is_power (length ws) ≡ true
    map_power h = eq-eqb (power_up (length ws)) (length ws) (sym e ∙ h)

    pub map_uneven : (b ≡ length ws → ⊥) → eqb b (length ws) ≡ Sound ws
    map_uneven h = ne_eqb b (length ws) h ∙ not_power (λ p. h (e ∙ eqb-true (power_up (length ws)) (length ws) p))
