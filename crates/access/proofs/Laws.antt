-- Why a held segment can be read and written in place: it lies in the memory, words copied over the front of a part are a run of stores
-- into the whole, and each exit of the code is one of the definition. Assumes nothing.
use Prim.Native.Nat.{ℕ, zero, suc, min, ◌+◌, ◌*◌, ◌/◌, ◌%◌, ◌^◌, ◌≤◌, ◌<◌}
use mathlib.Core.Path.{◌≡◌, refl, sym, ap, subst⁻¹, ◌∙◌}
use mathlib.Core.Bool.{Bool, true, false, cond}
use mathlib.Core.List.{List, [], ◌∷◌, ◌++◌, append-nil, append_assoc}
use native.Mathlib.Omega.{arith}
use native.Mathlib.Nat.{add-mul, div-add-mod', le_of_lt, lt_of_le_of_lt, mul-le-mul_left, mul-le-mul_right, mul-lt-mul_of_pos_right, pos_of_ne-zero}
use borrow.Author.Tests.{eqb-true, eqb-false}
use Rattle.std.proofs.lemmas.Bool.{leb-true, leb-false}
use lib.Dec.{leb}
use native.Mathlib.Numerals.{add-one}
use lib.ListN.{length, get_or, set, take, drop, drop_of_length-le, length-set}
use lib.Pow.{pow_pos, pow-add}
use lib.Seq.{sets, sets-eq, drop-drop, drop-cons}
use Rattle.arith.proofs.Laws.Layout.{count_end}
use Rattle.manager.specs.Access.{words_in}
use borrow.Rule.Slice.PartMut.{put_mid}
use Rattle.manager.specs.Map.{held, total}
use Rattle.manager.proofs.Laws.Map.{Sized, total_append, total_cons}
use Rattle.manager.specs.Kind.{held_from}
use Rattle.manager.proofs.Laws.Paged.{Spot, spot, held_at_lem}
use Rattle.manager.specs.Record.{region_of}
use Rattle.map.specs.Word.{held_word_at}
use Rattle.map.proofs.Word.{held_told}
use Rattle.manager.specs.Region.{dead, kind, layout_of, pages_of, first_page_of, address_of, page_at, starts_page, segments, held_at}
use Rattle.manager.specs.Sound.{sound}
use Rattle.manager.specs.Sound.{Sited}
use Rattle.manager.proofs.Laws.Sound.{sited, sized_segments, total_segments}
use Rattle.manager.specs.declared.Manager.{Manager}
use Rattle.manager.specs.declared.Region.{Region}

-- the product of two numbers of k bits has at most k + k
pub below : (k : ℕ) {a b : ℕ} → a < 2 ^ k → b < 2 ^ k → a * b < 2 ^ (k + k)
below k {a} {b} ha hb =
    subst⁻¹ (λ (n : ℕ). a * b < n) (pow-add 2 k k)
    (lt_of_le_of_lt (mul-le-mul_left a (le_of_lt hb)) (mul-lt-mul_of_pos_right ha (pow_pos k)))

-- ---- a held segment of a live region lies in the memory

quarters : (a x n : ℕ) → a + x ≤ 4 * n → a / 4 + x / 4 ≤ n
quarters a x n h = omega arith

module _ (m : List ℕ) (r : Region) (s : Sited m r) where
  -- its pages are some of the region's
  held_pages : (p : ℕ) → 1 ≤ held_from p (first_page_of r) (segments m r)
      → p + held_from p (first_page_of r) (segments m r) ≤ first_page_of r + pages_of r
  held_pages p h = go (spot p (first_page_of r) (segments m r) h)
    where
      go : Spot p (first_page_of r) (segments m r) → p + held_from p (first_page_of r) (segments m r) ≤ first_page_of r + pages_of r
      go x =
          let w : Sized (x.pre ++ (held x.pages ∷ x.post)) = rw x.is at (sized_segments m r s) in
          let n : held_from p (first_page_of r) (segments m r) ≡ x.pages =
          ap (held_from p (first_page_of r)) x.is ∙ held_at_lem p 0 (first_page_of r) x.pre x.pages x.post w x.page in
          let t : total (segments m r) ≡ total (x.pre ++ (held x.pages ∷ x.post)) = ap total x.is in
          omega (
            arith,
            n,
            t,
            total_segments m r s,
            total_append x.pre (held x.pages ∷ x.post),
            total_cons (held x.pages) x.post,
            x.page,
          )

  -- and end where the last of the region's do, or before
  held_ends : (a p k : ℕ) → a ≡ address_of r p → p + k ≤ first_page_of r + pages_of r → a + k * r.page ≤ 4 * length m
  held_ends a p k e h =
      let b = count_end (kind r).allowed r.start r.length r.page (omega (arith, s.laid.page_low)) s.laid.some in
      omega (
        arith,
        e,
        b,
        mul-le-mul_right r.page h,
        add-mul p k r.page,
        add-mul (first_page_of r) (pages_of r) r.page,
        s.laid.inside,
      )

  page_start : (a : ℕ) → starts_page r a ≡ true → a ≡ address_of r (page_at r a)
  page_start a e = omega (arith, eqb-true (a % r.page) 0 e, div-add-mod' a r.page)

  held_in : (a k : ℕ) (b : Bool) → starts_page r a ≡ b → k ≡ cond b (held_from (page_at r a) (first_page_of r) (segments m r)) 0 → 0 < k
      → a + k * r.page ≤ 4 * length m
  held_in a k true e q h =
      held_ends a (page_at r a) k (page_start a e) (rw q (held_pages (page_at r a) (omega (arith, q))))
  held_in a k false e q h = absurd (omega (arith, q))

  pub held_words : (a k : ℕ) → k ≡ held_at m r a → 0 < k → a / 4 + k * r.page / 4 ≤ length m
  held_words a k q h = quarters a (k * r.page) (length m) (held_in a k (starts_page r a) refl q h)

-- ---- of sound records

module _ (m : List ℕ) (d : Manager) (ok : sound m d ≡ true) (id : ℕ) (f : dead (region_of d id) ≡ false) (a : ℕ) where
  -- what its map says of the word is what the definitions do
  pub held_is : held_word_at m (layout_of (region_of d id)) (region_of d id).page a ≡ held_at m (region_of d id) a
  held_is = held_told m d id ok (region_of d id) refl (eqb-false (region_of d id).name 0 f) (layout_of (region_of d id)) refl a _ refl

  pub held_inside : (held_at m (region_of d id) a ≡ 0 → ⊥) → a / 4 + words_in m d id a ≤ length m
  held_inside n = held_words m (region_of d id) (sited m d id ok f) a (held_at m (region_of d id) a) refl (pos_of_ne-zero n)

-- ---- words copied over the first ones of others: those before k

set_out : (ws : List ℕ) (i x : ℕ) → length ws ≤ i → set ws i x ≡ ws
set_out [] i x h = refl
set_out (w ∷ ws) zero x h = absurd (omega (arith, h))
set_out (w ∷ ws) (suc i) x h = ap (λ (l : List ℕ). w ∷ l) (set_out ws i x (omega arith))

sets_out : (vs ws : List ℕ) (i : ℕ) → length ws ≤ i → sets ws i vs ≡ ws
sets_out [] ws i h = refl
sets_out (x ∷ vs) ws i h = rw (set_out ws i x h) (sets_out vs ws (suc i) (omega arith))

pub record Copying (ws from out : List ℕ) (k : ℕ) : Type 0 where
  pub size : length out ≡ length ws
  pub rest : sets out k (drop k from) ≡ sets ws 0 from

module _ (ws from : List ℕ) where
  pub copy_start : Copying ws from ws 0
  copy_start = record { size = refl; rest = refl }

  module _ (out : List ℕ) (k : ℕ) (v : Copying ws from out k) where
    pub copy_next : k < length from → (x : ℕ) → x ≡ get_or from k 0 → Copying ws from (set out k x) (k + 1)
    copy_next h x e = record { size = length-set out k x ∙ v.size; rest = rw (e, add-one) (rw (drop-cons from k 0 h) at v.rest) }

    pub copy_end : min (length ws) (length from) ≤ k → out ≡ sets ws 0 from
    copy_end h = by_end (leb (length from) k) refl
      where
        by_end : (b : Bool) → leb (length from) k ≡ b → out ≡ sets ws 0 from
        by_end true e = rw (drop_of_length-le from {i = k} (leb-true _ _ e)) at v.rest
        by_end false e = sym (sets_out (drop k from) out k (omega (arith, v.size, leb-false _ _ e))) ∙ v.rest

pub ruleset copying = (copy_start, copy_next, copy_end)

-- words copied over the part from f on, of as many words, are stored into the whole
pub stored : (f k : ℕ) (m s w : List ℕ) → length s ≡ length w → k ≡ length w → f + k ≤ length m → put_mid f k m (sets s 0 w) ≡ sets m f w
stored f k m s w l e h =
    let g : f + length w ≤ length m = omega arith in
    let z : 0 + length w ≡ length w = omega arith in
    let all : sets s 0 w ≡ w =
    sets-eq w s 0 (omega (arith, l)) ∙ ap (λ (i : ℕ). w ++ drop i s) z ∙ ap (λ (r : List ℕ). w ++ r) (drop_of_length-le s {i = length w} (omega (arith, l))) ∙ append-nil w in
    rw (e, all)
    (ap (λ (l : List ℕ). take f m ++ (w ++ l)) (drop-drop (length w) f m)
    ∙ sym (sets-eq w m f g ∙ append_assoc (take f m) w (drop (f + length w) m)))
