-- One step of each definition of the chain, as the code takes it: what a test or a turn shows, over plain variables. Assumes nothing.
use Prim.Native.Nat.{ℕ, zero, suc, ◌-◌, ◌≤◌, ◌<◌}
use mathlib.Core.Path.{◌≡◌, refl, ap, sym, ◌∙◌}
use mathlib.Core.Bool.{Bool, true, false}
use mathlib.Core.List.{List}
use native.Mathlib.Omega.{arith}
use lib.Dec.{eqb}
use borrow.Author.Tests.{eq-eqb, ne_eqb}
use Rattle.manager.specs.Lists.{any}
use Rattle.manager.specs.Partition.{next_of, set_next, set_before, link, follow, after_get, after_return}
use Rattle.manager.specs.declared.Partition.{Partition}

-- the search along the chain
abbrev pub meets : List ℕ → ℕ → ℕ → ℕ → Bool
meets m a n at = any (eqb a) (follow n m at)

module _ (m : List ℕ) (a : ℕ) where
  pub meet_here : (n at : ℕ) → 0 < n → a ≡ at → true ≡ meets m a n at
  unfolding any follow
  meet_here zero at h e = absurd (omega arith)
  meet_here (suc n) at h e = rw (eq-eqb _ _ e)

  pub meet_next : (n at : ℕ) → 0 < n → (a ≡ at → ⊥) → meets m a (n - 1) (next_of m at) ≡ meets m a n at
  unfolding any follow
  meet_next zero at h e = absurd (omega arith)
  meet_next (suc n) at h e = let z : suc n - 1 ≡ n = omega arith in rw (z, ne_eqb _ _ e)

  pub meet_none : (n at : ℕ) → n ≤ 0 → false ≡ meets m a n at
  unfolding any follow
  meet_none zero at h = refl
  meet_none (suc n) at h = absurd (omega arith)

-- what is left of the search answers for the whole
pub record Seeking (m : List ℕ) (a n₀ at₀ n at : ℕ) : Type 0 where
  pub rest : meets m a n at ≡ meets m a n₀ at₀

module _ (m : List ℕ) (a n₀ at₀ : ℕ) where
  pub seek_start : Seeking m a n₀ at₀ n₀ at₀
  seek_start = record { rest = refl }

  module _ (n at : ℕ) (v : Seeking m a n₀ at₀ n at) where
    pub seek_found : 0 < n → a ≡ at → true ≡ meets m a n₀ at₀
    seek_found h e = meet_here m a n at h e ∙ v.rest

    pub seek_next : (next : ℕ) → next ≡ next_of m at → 0 < n → (a ≡ at → ⊥) → Seeking m a n₀ at₀ (n - 1) next
    seek_next next q h e = record { rest = rw q (meet_next m a n at h e ∙ v.rest) }

    pub seek_none : n ≤ 0 → false ≡ meets m a n₀ at₀
    seek_none h = meet_none m a n at h ∙ v.rest

pub ruleset seeking = (seek_start, seek_found, seek_next, seek_none)

-- the stores
module _ (m : List ℕ) (p : Partition) where
  pub get_last : next_of m p.front ≡ 0 → link m p.front 0 0 ≡ after_get m p
  unfolding after_get
  get_last e = rw (eq-eqb _ _ e)

  pub get_more : (next_of m p.front ≡ 0 → ⊥) → set_before (link m p.front 0 0) (next_of m p.front) 0 ≡ after_get m p
  unfolding after_get
  get_more e = rw (ne_eqb _ _ e)

  module _ (a : ℕ) where
    pub return_first : p.free ≡ 0 → link m a 0 0 ≡ after_return m p a
    unfolding after_return
    return_first e = rw (eq-eqb _ _ e)

    pub return_behind : (p.free ≡ 0 → ⊥) → link (set_next m p.rear a) a 0 p.rear ≡ after_return m p a
    unfolding after_return
    return_behind e = rw (ne_eqb _ _ e)

-- a store after a store, each as its function leaves the memory
pub links_made : (m m₁ m₂ : List ℕ) (a next before : ℕ) → m₁ ≡ set_next m a next → m₂ ≡ set_before m₁ a before → m₂ ≡ link m a next before
links_made m m₁ m₂ a next before e f = f ∙ ap (λ (l : List ℕ). set_before l a before) e

module _ (m : List ℕ) (p : Partition) (n : ℕ) (q : n ≡ next_of m p.front) (m₁ : List ℕ) (e : m₁ ≡ link m p.front 0 0) where
  pub gets_last : n ≡ 0 → m₁ ≡ after_get m p
  gets_last f = e ∙ get_last m p (sym q ∙ f)

  pub gets_more : (n ≡ 0 → ⊥) → (m₂ : List ℕ) → m₂ ≡ set_before m₁ n 0 → m₂ ≡ after_get m p
  gets_more f m₂ g =
      let x : (next_of m p.front ≡ 0 → ⊥) = λ y. f (q ∙ y) in
      g ∙ rw (e, q) (get_more m p x)

module _ (m : List ℕ) (p : Partition) (a : ℕ) where
  pub returns_first : p.free ≡ 0 → (m₁ : List ℕ) → m₁ ≡ link m a 0 0 → m₁ ≡ after_return m p a
  returns_first f m₁ e = e ∙ return_first m p a f

  pub returns_behind : (p.free ≡ 0 → ⊥) → (m₁ m₂ : List ℕ) → m₁ ≡ set_next m p.rear a → m₂ ≡ link m₁ a 0 p.rear → m₂ ≡ after_return m p a
  returns_behind f m₁ m₂ e g = g ∙ rw e (return_behind m p a f)

pub ruleset stores = (links_made, gets_last, gets_more, returns_first, returns_behind)
