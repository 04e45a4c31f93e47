-- Taking in a free follower: the tests of `extend`, and the map after it, of which a resize keeps the first pages and a return frees all.
-- Assumes nothing.
use Prim.Native.Nat.{ℕ, ◌+◌, ◌-◌, ◌*◌, ◌/◌, ◌%◌, ◌≤◌, ◌<◌}
use mathlib.Core.Path.{◌≡◌, sym, ap, ◌∙◌}
use mathlib.Core.Bool.{true, false}
use mathlib.Core.List.{List, ◌∷◌, ◌++◌}
use native.Mathlib.Omega.{arith}
use native.Mathlib.Nat.{add-zero}
use lib.ListN.{length, get_or, set, length-set}
use Rattle.manager.specs.Map.{held, words_of, draw, decode, tiled, sound_map}
use Rattle.manager.proofs.Laws.Map.{sound_tiled, reread, draw_append, draw_cons}
use Rattle.manager.proofs.Laws.Apart.{Well, well_sized, well_decoded, well_drawn}
use Rattle.manager.specs.Kind.{held_from}
use Rattle.manager.specs.Paged.{apart, free+, lead, rest, reach_from, change_from}
use Rattle.manager.proofs.Laws.Paged.{well_rest, lead_none, rest_none, well_change}
use Rattle.segments.specs.MapWords.{IsHeldAt, IsLastHeld, before_from, cutting, Extends}
use Rattle.segments.proofs.Words.{cutting_words}
use Rattle.segments.proofs.Take.{draw_free}
use Rattle.segments.proofs.Stands.{Follower, none, kept, joins, Stands, stands, some, post_well, pre_long, word_is, within, held_is, reach_is, change_is, resize_is, grown, behind, alone, takes_in}

-- ---- the tests of `reach_at` and `extend`

module _ {p : ℕ} {ws : List ℕ} (at : IsHeldAt apart p ws) where
  here : Stands p ws
  here = stands p ws at.sound at.held

  pages_is : get_or ws p 0 / 2 ≡ here.pages
  pages_is = omega (arith, word_is p ws here)

  pub held_within : p + held_from p 0 (decode ws) ≤ length ws
  held_within = omega (arith, held_is p ws here, within p ws here)

  pub extend_in : p + get_or ws p 0 / 2 ≤ length ws
  extend_in = omega (arith, pages_is, within p ws here)

  pub extend_some : 1 ≤ get_or ws p 0 / 2
  extend_some = omega (arith, pages_is, some p ws here)

  -- how many pages it could have, by what stands behind it
  at_end : Follower here.post ws (p + here.pages) → length ws ≤ p + here.pages → lead here.post ≡ 0
  at_end (none e z) h = z
  at_end (kept b m z) h = z
  at_end (joins w o b x) h = absurd (omega arith)

  at_held : Follower here.post ws (p + here.pages) → (get_or ws (p + here.pages) 0 % 2 ≡ 0 → ⊥) → lead here.post ≡ 0
  at_held (none e z) ne = z
  at_held (kept b m z) ne = z
  at_held (joins w o b x) ne = absurd (ne (omega arith))

  at_free : Follower here.post ws (p + here.pages) → p + here.pages < length ws → get_or ws (p + here.pages) 0 % 2 ≡ 0
      → (lead here.post ≡ get_or ws (p + here.pages) 0 / 2) × (p + here.pages + get_or ws (p + here.pages) 0 / 2 ≤ length ws)
  at_free (none e z) h m = absurd (omega arith)
  at_free (kept b q z) h m = absurd (omega arith)
  at_free (joins w o b x) h m = (omega arith, omega arith)

  pub reach_end : length ws ≤ p + get_or ws p 0 / 2 → get_or ws p 0 / 2 ≡ reach_from p 0 (decode ws)
  reach_end h = omega (arith, pages_is, reach_is p ws here, at_end (behind p ws here) (omega (arith, pages_is)))

  pub reach_held : (get_or ws (p + get_or ws p 0 / 2) 0 % 2 ≡ 0 → ⊥) → get_or ws p 0 / 2 ≡ reach_from p 0 (decode ws)
  reach_held ne = omega (arith, pages_is, reach_is p ws here, at_held (behind p ws here) (rw pages_is at ne))

  module _ (h : p + get_or ws p 0 / 2 < length ws) (m : get_or ws (p + get_or ws p 0 / 2) 0 % 2 ≡ 0) where
    free_is : (lead here.post ≡ get_or ws (p + here.pages) 0 / 2) × (p + here.pages + get_or ws (p + here.pages) 0 / 2 ≤ length ws)
    free_is = at_free (behind p ws here) (omega (arith, pages_is)) (rw pages_is at m)

    pub reach_sum : p + get_or ws p 0 / 2 + get_or ws (p + get_or ws p 0 / 2) 0 / 2 ≤ length ws
    reach_sum = rw pages_is free_is.1

    pub reach_free : get_or ws p 0 / 2 + get_or ws (p + get_or ws p 0 / 2) 0 / 2 ≡ reach_from p 0 (decode ws)
    reach_free = rw pages_is (omega (arith, reach_is p ws here, free_is.0))

  -- the words with the most that it can have
  module _ (k : ℕ) (e : k ≡ reach_from p 0 (decode ws)) where
    k_lead : k ≡ here.pages + lead here.post
    k_lead = e ∙ reach_is p ws here

    short : Follower here.post ws (p + here.pages) → p + k ≤ length ws
    short (none a z) = omega (arith, k_lead)
    short (kept b m z) = omega (arith, k_lead)
    short (joins w o b x) = omega (arith, k_lead)

    pub extend_room : p + k ≤ length ws
    extend_room = short (behind p ws here)

    pub extend_next : get_or ws p 0 / 2 < k → (w : ℕ) → p + get_or ws p 0 / 2 < length (set ws p w)
    extend_next h w = simp length-set (omega (arith, extend_room))

    pub extend_alone : k ≤ get_or ws p 0 / 2 → Extends p ws k ws
    extend_alone h =
        let z : lead here.post ≡ 0 = omega (arith, pages_is, k_lead) in
        let q : k ≡ here.pages = omega (arith, k_lead) in
        rw q (alone p ws here at.sound z)

    more : Follower here.post ws (p + here.pages) → here.pages < k → Extends p ws k (set (set ws p (k * 2 + 1)) (p + here.pages) 0)
    more (none a z) h = absurd (omega (arith, k_lead))
    more (kept b m z) h = absurd (omega (arith, k_lead))
    more (joins w o b x) h = takes_in p ws here k k_lead o x

    pub extend_more : get_or ws p 0 / 2 < k → Extends p ws k (set (set ws p (k * 2 + 1)) (p + get_or ws p 0 / 2) 0)
    extend_more h = rw pages_is (more (behind p ws here) (omega (arith, pages_is)))

pub ruleset reaching = (held_within, extend_in, extend_some, reach_sum, reach_end, reach_held, reach_free)

pub ruleset extending = (held_within, extend_in, extend_some, extend_room, extend_next, extend_alone, extend_more)

-- ---- after `extend`

-- the map is sound, and has a held segment of so many pages at page p that cannot have more
pub record Extended (p : ℕ) (ws : List ℕ) (k : ℕ) (out : List ℕ) : Type 0 where
  pub sound : sound_map apart out ≡ true
  pub some : 1 ≤ k
  pub held : held_from p 0 (decode out) ≡ k
  pub reach : reach_from p 0 (decode out) ≡ k
  pub room : p + k ≤ length out
  pub freed : change_from p 0 0 (decode out) ≡ change_from p 0 0 (decode ws)
  pub cut : (j : ℕ) → 1 ≤ j → j ≤ k → cutting p k j 1 out ≡ draw (change_from p j 0 (decode ws))

module _ {p : ℕ} {ws : List ℕ} (at : IsHeldAt apart p ws) {k : ℕ} {out : List ℕ} (x : Extends p ws k out) where
  was : Stands p ws
  was = stands p ws at.sound at.held

  k_is : k ≡ was.pages + lead was.post
  k_is = x.pages ∙ reach_is p ws was

  rest_well : Well false (rest was.post)
  rest_well = well_rest was.post (post_well p ws was)

  grown_k : change_from p k 0 (decode ws) ≡ was.pre ++ (held k ∷ rest was.post)
  grown_k =
      ap (λ (j : ℕ). change_from p j 0 (decode ws)) k_is
      ∙ grown p ws was
      ∙ ap (λ (j : ℕ). was.pre ++ (held j ∷ rest was.post)) (sym k_is)

  out_is : out ≡ draw (was.pre ++ (held k ∷ rest was.post))
  out_is = x.words ∙ ap draw grown_k

  out_well : Well true (was.pre ++ (held k ∷ rest was.post))
  out_well = rw grown_k at (well_change p k 0 (decode ws) (well_decoded ws at.sound))

  now_stands : Stands p out
  now_stands =
      record {
        pre = was.pre;
        pages = k;
        post = rest was.post;
        says = ap decode out_is ∙ reread (was.pre ++ (held k ∷ rest was.post)) (well_sized true (was.pre ++ (held k ∷ rest was.post)) out_well);
        well = out_well;
        page = was.page;
        words = out_is ∙ draw_append was.pre (held k ∷ rest was.post) ∙ ap (λ (u : List ℕ). draw was.pre ++ u) (draw_cons (held k) (rest was.post));
      }

  pub extended : Extended p ws k out
  unfolding now_stands
  extended =
      let z : lead (rest was.post) ≡ 0 = lead_none (rest was.post) rest_well in
      let y : rest (rest was.post) ≡ rest was.post = rest_none (rest was.post) rest_well in
      record {
        sound = rw out_is (well_drawn (was.pre ++ (held k ∷ rest was.post)) out_well);
        some = some p out now_stands;
        held = held_is p out now_stands;
        reach = reach_is p out now_stands ∙ rw z (add-zero k);
        room = omega (arith, within p out now_stands);
        freed = change_is p out now_stands 0 ∙ rw (z, y, add-zero k) (sym (change_is p ws was 0 ∙ rw (← k_is)));
        cut = λ j o h.
            cutting_words (draw was.pre) (draw (rest was.post)) out k 1 p now_stands.words (pre_long p ws was) j 1 o h
            ∙ sym (ap draw (resize_is p ws was j o ∙ rw (← k_is))
            ∙ draw_append was.pre (held j ∷ free+ (k - j) (rest was.post))
            ∙ ap (λ (u : List ℕ). draw was.pre ++ u) (draw_cons (held j) (free+ (k - j) (rest was.post)) ∙ ap (λ (u : List ℕ). words_of j 1 ++ u) (draw_free (k - j) (rest was.post) rest_well)));
      }

-- what a resize and a return have of `extend`
module _ {p : ℕ} {ws : List ℕ} (at : IsHeldAt apart p ws) {k : ℕ} {out : List ℕ} (x : Extends p ws k out) where
  pub within_reach : (j : ℕ) → j ≤ reach_from p 0 (decode ws) → j ≤ k
  within_reach j h = omega (arith, x.pages)

  pub room_out : p + k ≤ length out
  room_out = (extended at x).room

  pub sound_out : sound_map apart out ≡ true
  sound_out = (extended at x).sound

  pub tiled_out : tiled out ≡ true
  tiled_out = sound_tiled apart out sound_out

  pub some_out : 1 ≤ k
  some_out = (extended at x).some

  pub held_out : held_from p 0 (decode out) ≡ k
  held_out = (extended at x).held

  pub reach_out : reach_from p 0 (decode out) ≡ k
  reach_out = (extended at x).reach

  -- what `release` asks for
  pub last_out : length out ≤ 16384 → (q : ℕ) → q ≡ before_from p p 0 (decode out) → IsLastHeld p q k out
  last_out l q e =
      record {
        at = record { sound = sound_out; short = l; held = omega (arith, some_out, held_out) };
        all = sym held_out;
        reach = reach_out ∙ sym held_out;
        before = e;
      }

  pub resized : (j : ℕ) → 1 ≤ j → j ≤ reach_from p 0 (decode ws) → (last : List ℕ) → last ≡ cutting p k j 1 out → last ≡ draw (change_from p j 0 (decode ws))
  resized j o h last e = e ∙ (extended at x).cut j o (within_reach j h)

  pub returned : (last : List ℕ) → last ≡ draw (change_from p 0 0 (decode out)) → last ≡ draw (change_from p 0 0 (decode ws))
  returned last e = e ∙ ap draw (extended at x).freed

pub ruleset changing = (within_reach, room_out, sound_out, tiled_out, some_out, held_out, reach_out, resized, returned)
