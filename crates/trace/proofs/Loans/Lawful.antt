-- What a kind of region has to prove, so that the queue and the directives can be proved over any kind: what each of its functions comes
-- to on a map that is drawn from loans, by what the receipts say of the kind (`Reading`). What is found in a map follows for every kind,
-- since a drawn map says its loans. Assumes nothing.
use Rattle.std.specs.Prelude.{Option, None, Some}
use mathlib.Core.Path.{◌≡◌, refl, sym, ap, ◌∙◌, subst}
use mathlib.Core.Bool.{true}
use mathlib.Core.List.{List, []}
use mathlib.Core.Logic.{◌⊎◌, ◌↔◌}
use Prim.Native.Nat.{ℕ, ◌+◌, ◌≤◌, ◌<◌}
use lib.ListN.{length}
use Rattle.arith.specs.Round.{OnEvery}
use Rattle.manager.specs.Lists.{any}
use Rattle.manager.specs.Map.{Segment, is_held_segment, draw, decode, sound_map, free_sizes, held_sizes, total}
use Rattle.manager.specs.Kind.{Kind, allocate, held_from}
use Rattle.manager.specs.Paged.{free+}
use Rattle.manager.specs.declared.Need.{Need}
use Rattle.manager.proofs.Laws.Map.{reread, length_draw, sound_drawn, sound_tiled, sound_proper, sized_decoded, total_decoded}
use Rattle.manager.proofs.Laws.Kinds.{Stands}
use Rattle.trace.specs.Loans.{Loan, enter, amend, Lent, Ordered, pages_at, loan_pages, sum, Span, behind}
use Rattle.trace.specs.Reading.{loans_of, Serves, NoPlace, Reading}
use Rattle.trace.specs.Replies.{lends_any}
use Rattle.trace.specs.Claims.{free_pages}
use Rattle.trace.proofs.Loans.Drawn as ordered
use Rattle.trace.proofs.Loans.Says.{held_says, pages_says, count_says, any_says, ordered_says}

-- a map is the one drawn from loans
pub record Drawing (R : Reading) (a : Span) (l : List Loan) (s : List Segment) : Type 0 where
  pub fits : R.Fits a l
  pub is : s ≡ R.drawn a l

-- what a get of n comes to: its place, lent, or nothing where no place would serve
pub data Gets (R : Reading) (a : Span) (l : List Loan) (n : Need) : Option ℕ → List Segment → Type 0 where
  given : {s : List Segment} (p : ℕ) → Drawing R a (enter p n.pages l) s → R.Chosen a l n p → Gets R a l n (Some p) s
  nothing : {s : List Segment} → Drawing R a l s → NoPlace R a l n → Gets R a l n None s

-- what a get that asks for j pages needs: as many as its kind gives for them, from every so many-th page on
abbrev pub asking : Reading → ℕ → ℕ → Need
asking R j every = record { pages = R.rounded j; every = every }

pub record Lawful (K : Kind) (R : Reading) : Type 0 where
  -- sizes are rounded alike
  pub rounded : (j : ℕ) → K.rounded j ≡ R.rounded j
  -- A DRAWN MAP stands as the kind says, has all pages, and its held segments are the loans; and every such map is drawn from its loans
  pub stands : {a : Span} {l : List Loan} {s : List Segment} → Drawing R a l s → Stands K s
  pub pages : {a : Span} {l : List Loan} {s : List Segment} → Drawing R a l s → total s ≡ a.count
  pub says : {a : Span} {l : List Loan} {s : List Segment} → Drawing R a l s → loans_of a.first s ≡ l
  pub loans : (a : Span) (s : List Segment) → K.allowed a.count ≡ true → Stands K s → total s ≡ a.count → Drawing R a (loans_of a.first s) s
  -- a new region's map
  pub new : (a : Span) → K.allowed a.count ≡ true → Drawing R a [] (free+ a.count [])
  -- the same alignments are known, and where one other than 0 is asked for, a get starts on it
  pub aligns : (alignment : ℕ) → K.aligns alignment ≡ R.aligns alignment
  pub aligned : (alignment : ℕ) → R.aligns alignment ≡ true → 0 < alignment → (a : Span) (n : Need) (p : ℕ) → R.Starts a n p → OnEvery n.every p
  -- get: the place that it takes would serve, and is the one that is read off the loans
  pub chosen_serves : {a : Span} {l : List Loan} → R.Fits a l → (j every p : ℕ) → R.Chosen a l (asking R j every) p → Serves R a l (asking R j every) p
  pub placed : {a : Span} {l : List Loan} {s : List Segment} → Drawing R a l s → (j every : ℕ) → 0 < j
      → K.place (asking R j every) a.first s ≡ R.place a l (asking R j every)
  pub got : {a : Span} {l : List Loan} {s : List Segment} → Drawing R a l s → (j every : ℕ) → 0 < j
      → Gets R a l (asking R j every) (K.place (asking R j every) a.first s) (allocate K (asking R j every) a.first s)
  -- what a loan can have
  pub can_have_lem : {a : Span} {l : List Loan} {s : List Segment} → Drawing R a l s → (p k : ℕ) → K.can_have p k a.first s ≡ R.can_have a l p k
  pub room : {a : Span} {l : List Loan} → R.Fits a l → (p m j : ℕ) → Lent l p m
      → (R.can_have a l p (R.rounded j) ≡ true) ↔ R.Room a l p m (R.rounded j)
  -- return and resize
  pub returned : {a : Span} {l : List Loan} {s : List Segment} → Drawing R a l s → (p m : ℕ) → Lent l p m
      → Drawing R a (amend p 0 l) (K.change p 0 a.first s)
  pub changed : {a : Span} {l : List Loan} {s : List Segment} → Drawing R a l s → (p m j : ℕ) → Lent l p m → R.can_have a l p (R.rounded j) ≡ true
      → Drawing R a (amend p (R.rounded j) l) (K.change p (R.rounded j) a.first s)
  -- the free segments, by the loans
  pub free_runs : {a : Span} {l : List Loan} {s : List Segment} → Drawing R a l s → free_sizes s ≡ R.runs a l

-- a place is the one that a get of n takes, and it can be lent there; or no place would serve
pub data Found (R : Reading) (a : Span) (l : List Loan) (n : Need) : Option ℕ → Type 0 where
  found : (p : ℕ) → R.Chosen a l n p → R.Fits a (enter p n.pages l) → Found R a l n (Some p)
  nowhere : NoPlace R a l n → Found R a l n None

-- WHAT FOLLOWS FOR EVERY LAWFUL KIND
module _ {K : Kind} {R : Reading} (L : Lawful K R) where
  -- ---- of a drawn map

  module _ {a : Span} {l : List Loan} {s : List Segment} (d : Drawing R a l s) where
    -- the words of it: sound, read as they were drawn, one for each page
    pub sound : sound_map K.proper (draw s) ≡ true
    sound = sound_drawn K.proper s (L.stands d).sized (L.stands d).proper

    pub reads : decode (draw s) ≡ s
    reads = reread s (L.stands d).sized

    pub size : length (draw s) ≡ a.count
    size = length_draw s ∙ L.pages d

    -- what is found at a page, the counts, and whether anything is held
    pub held_found : (p : ℕ) → held_from p a.first s ≡ pages_at p l
    held_found p = held_says p a.first s ∙ ap (pages_at p) (L.says d)

    pub held_pages : held_sizes s ≡ loan_pages l
    held_pages = pages_says a.first s ∙ ap loan_pages (L.says d)

    pub counted : sum (loan_pages l) + free_pages s ≡ a.count
    counted = ap (λ (k : List Loan). sum (loan_pages k) + free_pages s) (sym (L.says d)) ∙ count_says a.first s ∙ L.pages d

    pub any_lent : any is_held_segment s ≡ lends_any l
    any_lent = any_says a.first s ∙ ap lends_any (L.says d)

    in_order_lem : Ordered (behind a) a.first l
    in_order_lem = rw (L.says d, L.pages d) at (ordered_says a.first s (L.stands d).sized)

  -- the map that is drawn
  pub drawn_is : {a : Span} {l : List Loan} → R.Fits a l → Drawing R a l (R.drawn a l)
  drawn_is o = record { fits = o; is = refl }

  -- from the words to the map
  pub drawing : (a : Span) (l : List Loan) (ws : List ℕ) → R.Fits a l → ws ≡ draw (R.drawn a l) → Drawing R a l (decode ws)
  drawing a l ws o e = record { fits = o; is = rw e (reads (drawn_is o)) }

  -- A SOUND MAP IS DRAWN FROM THE LOANS THAT ITS HELD SEGMENTS ARE
  pub sound_loans : (a : Span) (ws : List ℕ) → K.allowed a.count ≡ true → sound_map K.proper ws ≡ true → length ws ≡ a.count
      → Drawing R a (loans_of a.first (decode ws)) (decode ws)
  sound_loans a ws n e h =
      let t = sound_tiled K.proper ws e in
      L.loans a (decode ws) n (record { sized = sized_decoded ws t; proper = sound_proper K.proper ws e }) (total_decoded ws t ∙ h)

  -- ---- of loans that fit

  module _ {a : Span} {l : List Loan} (o : R.Fits a l) where
    -- a loan has a page and lies in the region, and no two overlap
    fit_order : Ordered (behind a) a.first l
    fit_order = in_order_lem (drawn_is o)

    pub lent_some : (p k : ℕ) → Lent l p k → 0 < k
    lent_some p k x = ordered.lent_some (behind a) a.first l p k fit_order x

    pub lent_from : (p k : ℕ) → Lent l p k → a.first ≤ p
    lent_from p k x = ordered.lent_from (behind a) a.first l p k fit_order x

    pub lent_within : (p k : ℕ) → Lent l p k → p + k ≤ behind a
    lent_within p k x = ordered.lent_within (behind a) a.first l p k fit_order x

    pub no_overlap : (p k q m : ℕ) → Lent l p k → Lent l q m → ((p ≡ q) × (k ≡ m)) ⊎ ((p + k ≤ q) ⊎ (q + m ≤ p))
    no_overlap = ordered.no_overlap (behind a) a.first l fit_order

    -- there is one loan at a page at most
    pub lent_one_lem : (p k m : ℕ) → Lent l p k → Lent l p m → k ≡ m
    lent_one_lem p k m x y = ordered.lent_one_lem (behind a) a.first l fit_order p k m x y

    -- THE PLACE THAT IS READ OFF THE LOANS IS THE ONE THAT A GET TAKES
    pub place_found : (j every : ℕ) → 0 < j → Found R a l (asking R j every) (R.place a l (asking R j every))
    place_found j every z = subst (Found R a l (asking R j every)) (L.placed (drawn_is o) j every z) (go (L.got (drawn_is o) j every z))
      where
        go : {g : Option ℕ} {s : List Segment} → Gets R a l (asking R j every) g s → Found R a l (asking R j every) g
        go (given p d c) = found p c d.fits
        go (nothing d h) = nowhere h
