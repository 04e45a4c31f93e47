-- What the checks of a directive leave: the region that an id names is a live one of sound records, and a segment of it is held. Assumes nothing.
use Rattle.std.specs.Prelude.{Option, None, Some, Ok}
use Prim.Native.Nat.{ℕ, ◌*◌, ◌≤◌}
use mathlib.Core.Path.{◌≡◌, Path, refl, sym, ap, path_j', ◌∙◌}
use mathlib.Core.Bool.{Bool, true, false, cond}
use mathlib.Core.List.{List}
use native.Mathlib.Omega.{arith}
use native.Mathlib.Nat.{mul-le-mul_right, pos_of_ne-zero}
use borrow.Author.Tests.{eqb-false, ne_eqb}
use Rattle.arith.specs.declared.Layout.{Layout}
use Rattle.manager.specs.Record.{region_of}
use Rattle.manager.specs.Region.{dead, layout_of, held_at}
use Rattle.manager.specs.Sound.{sound, Sited}
use Rattle.manager.proofs.Laws.Sound.{live_sited, pages_end}
use Rattle.manager.proofs.Laws.Region.{held_few}
use Rattle.map.specs.Word.{held_word_at}
use Rattle.map.proofs.Word.{held_of}
use Rattle.manager.specs.declared.Manager.{Manager}
use Rattle.manager.specs.declared.Region.{Region}
use Rattle.segments.specs.Held.{site_of, held_told, Holds}
use Rattle.segments.specs.declared.site.Site.{Site}

-- what was found is the region of the id
cases : {A : Type 0} (b : Bool) (x y : A) → cond b None (Some x) ≡ Some y → (y ≡ x) × (b ≡ false)
cases true x y e = grind arith
cases false x y e = (grind arith, refl)

pub found : (d : Manager) (id : ℕ) (o : Option Region) → o ≡ cond (dead (region_of d id)) None (Some (region_of d id)) → (r : Region) → o ≡ Some r
    → (r ≡ region_of d id) × (dead (region_of d id) ≡ false)
found d id o q r p = cases (dead (region_of d id)) (region_of d id) r (sym q ∙ p)

-- a site is that of its region
site_is : (s : Site) (r : Region) → s.region ≡ r → s ≡ site_of r
site_is s r e =
    let P : (l : Layout) → l ≡ layout_of s.region → Type 0 = λ l p. Path Site (record { region = s.region; layout = l; laid = p }) (site_of s.region) in
    let f : s ≡ site_of s.region = path_j' P refl s.laid in
    f ∙ ap site_of e

module _ (m : List ℕ) (d : Manager) (ok : sound m d ≡ true) (id : ℕ) (f : dead (region_of d id) ≡ false) (a : ℕ) where
  pub live : Sited m (region_of d id)
  live = live_sited m d ok id (region_of d id) refl (eqb-false (region_of d id).name 0 f)

  -- what its map says of a word is what the definitions do, and its length fits
  pub held_is : held_word_at m (layout_of (region_of d id)) (region_of d id).page a ≡ held_at m (region_of d id) a
  held_is = held_of m (region_of d id) live (layout_of (region_of d id)) refl a _ refl

  pub held_short : held_word_at m (layout_of (region_of d id)) (region_of d id).page a * (region_of d id).page ≤ 65536
  held_short =
      let r = region_of d id in
      omega (arith, mul-le-mul_right r.page (held_few m r a live), pages_end m r live.laid, ap (λ (k : ℕ). k * r.page) held_is)

  -- a held segment: the value that tells it
  pub holds_told : (s : Site) → s.region ≡ region_of d id → (n : ℕ) → n ≡ held_word_at m s.layout s.region.page a → (n ≡ 0 → ⊥)
      → Ok (record { site = s; pages = n }) ≡ held_told m d id a
  holds_told s e n wn z =
      let w : n ≡ held_at m (region_of d id) a = wn ∙ rw (s.laid, e) held_is in
      let y : held_at m (region_of d id) a ≡ 0 → ⊥ = λ x. z (w ∙ x) in
      rw (f, ne_eqb _ _ y, site_is s _ e, w)

  -- and what it has
  pub holds : (s : Site) → s.region ≡ region_of d id → (n : ℕ) → n ≡ held_word_at m s.layout s.region.page a → (n ≡ 0 → ⊥)
      → Holds m d id a (record { site = s; pages = n })
  holds s er n wn z =
      let w : n ≡ held_word_at m (layout_of (region_of d id)) (region_of d id).page a = wn ∙ rw (s.laid, er) in
      record {
        region = er;
        pages = w ∙ held_is ∙ rw er;
        some = pos_of_ne-zero z;
        sited = rw er live;
        short = rw (er, w) held_short;
      }
