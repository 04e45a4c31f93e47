-- A region by halves is a lawful kind: a map is drawn from loans exactly where it is got by halving and says them. Assumes nothing.
use Rattle.std.specs.Prelude.{Option, None, Some}
use mathlib.Core.Path.{◌≡◌, refl, sym, ap, ◌∙◌, subst}
use mathlib.Core.Bool.{true}
use mathlib.Core.List.{List, []}
use mathlib.Core.Logic.{◌↔◌}
use Prim.Native.Nat.{ℕ, ◌-◌, ◌*◌, ◌/◌, ◌%◌, ◌^◌, ◌≤◌, ◌<◌}
use native.Mathlib.Nat.{mul_assoc, mul-mod_left, div-add-mod'}
use native.Mathlib.Omega.{arith}
use lib.Dec.{eqb}
use borrow.Author.Tests.{eqb-true, eq-eqb, ne_eqb}
use Rattle.arith.specs.Power.{level, is_power}
use Rattle.arith.proofs.Laws.Power.{some_power, is_power_lem, power_is, power_some, le_power}
use Rattle.manager.specs.Map.{Segment, free, free_sizes, total}
use Rattle.manager.specs.Kind.{on_place, allocate, held_from}
use Rattle.manager.specs.Paged.{free+}
use Rattle.manager.specs.Halves.{FreeAt, place_block, occupy_block, release_block}
use Rattle.manager.specs.Halves as kind
use Rattle.manager.specs.declared.Need.{Need}
use Rattle.manager.proofs.Laws.Paged.{free_front}
use Rattle.manager.proofs.Laws.Halves.Cut.{Halved, one, halved_sized, halved_total, proper_of, proper_halved}
use Rattle.manager.proofs.Laws.Halves.Place.{free_within, Best, place_best, place_none}
use Rattle.manager.proofs.Laws.Halves.Take.{occupy_halved}
use Rattle.manager.proofs.Laws.Halves.Release.{release_halved}
use Rattle.trace.specs.Loans.{Loan, enter, amend, Lent, pages_at, Span, behind}
use Rattle.trace.specs.Reading.{loans_of, Serves, NoPlace}
use Rattle.trace.specs.Halves.{drawn_block, drawn_map, InBlocks, Smallest, halves}
use Rattle.trace.proofs.Loans.Drawn.{lent_some, lent_from, lent_within, lent_one_lem}
use Rattle.trace.proofs.Loans.Says.{found_pages, held_says}
use Rattle.trace.proofs.Loans.Blocks.Drawn.{InBlock, block_drawn, block_ordered, lent_aligned, free_aligned, power_times}
use Rattle.trace.proofs.Loans.Blocks.Fits.{fitted}
use Rattle.trace.proofs.Loans.Blocks.Runs.{free_unheld, has_free}
use Rattle.trace.proofs.Loans.Blocks.Steps.{occupy_says, release_says, amend_same}
use Rattle.trace.proofs.Loans.Lawful.{Drawing, Gets, given, nothing, Lawful}

-- ---- a map got by halving, and the loans that it says

-- the pages are one block, the map is got by halving it, and says the loans
record Shape (a : Span) (l : List Loan) (s : List Segment) : Type 0 where
  block : a.count ≡ 2 ^ level a.count
  cut : Halved (level a.count) s
  says : loans_of a.first s ≡ l

-- pages from a multiple of their own length on
multiple : (j at p n : ℕ) → InBlock j at p n → (is_power n ≡ true) × ((p - at) % n ≡ 0)
multiple j at p n h =
    let e : p - at ≡ h.times * 2 ^ h.level = omega (arith, h.place) in
    rw h.pages (is_power_lem h.level, rw e (mul-mod_left h.times (2 ^ h.level)))

-- and back, of a loan in its block
in_block : {a : Span} {l : List Loan} → InBlocks a l → (p k : ℕ) → Lent l p k → InBlock (level a.count) a.first p k
in_block {a} {l} o p k x =
    let e = power_is k (o.power p k x) in
    let c = (p - a.first) / k in
    let z : c * k ≡ p - a.first = omega (arith, div-add-mod' (p - a.first) k, o.aligned p k x) in
    let f = lent_from (behind a) a.first l p k o.ordered x in
    let w = lent_within (behind a) a.first l p k o.ordered x in
    record {
      level = level k;
      times = c;
      upto = le_power (level k) (level a.count) (omega (arith, e, power_is a.count o.block));
      pages = e;
      place = omega (arith, ap (λ (n : ℕ). c * n) e);
    }

-- a drawing is so built
shape : {a : Span} {l : List Loan} {s : List Segment} → Drawing halves a l s → Shape a l s
shape {a} {l} {s} d =
    let b = power_is a.count d.fits.block in
    let f = fitted (level a.count) a.first l (rw b at d.fits.ordered) (in_block d.fits) in
    record { block = b; cut = rw d.is f.cut; says = ap (loans_of a.first) d.is ∙ f.says }

-- and what is so built is a drawing
drawing : {a : Span} {l : List Loan} {s : List Segment} → Shape a l s → Drawing halves a l s
drawing {a} {l} {s} h =
    let j = level a.count in
    let is : s ≡ drawn_map a l = block_drawn a.first h.cut ∙ ap (drawn_block j a.first) h.says in
    let each : (p k : ℕ) → Lent l p k → InBlock j a.first p k = λ p k x. lent_aligned a.first p k h.cut (rw h.says x) in
    record {
      fits = record {
        block = rw h.block (is_power_lem j);
        ordered = rw (← h.block, h.says) at (block_ordered a.first h.cut);
        power = λ p k x. (multiple j a.first p k (each p k x)).0;
        aligned = λ p k x. (multiple j a.first p k (each p k x)).1;
      };
      is = is;
    }

-- ---- the laws, of a drawing

-- what a get of 2^i pages needs: by halves the alignment is left alone
abbrev powers : ℕ → ℕ → Need
powers i every = record { pages = 2 ^ i; every = every }

module _ {a : Span} {l : List Loan} {s : List Segment} (d : Drawing halves a l s) where
  abbrev built : Shape a l s
  built = shape d

  all_pages : total s ≡ a.count
  all_pages = halved_total built.cut ∙ sym built.block

  -- a free block would serve 2^i pages where it has as many
  block_serves : (i every p n : ℕ) → FreeAt s a.first p n → 2 ^ i ≤ n → Serves halves a l (powers i every) p
  block_serves i every p n x h =
      let b = free_aligned a.first p n built.cut x in
      let w = free_within s a.first p n x in
      let t : 2 ^ b.level ≡ 2 ^ (b.level - i) * 2 ^ i = power_times i b.level (le_power i b.level (omega (arith, b.pages))) in
      let z : p - a.first ≡ b.times * 2 ^ b.level = omega (arith, b.place) in
      let e : p - a.first ≡ b.times * 2 ^ (b.level - i) * 2 ^ i =
      z ∙ ap (λ (m : ℕ). b.times * m) t ∙ sym (mul_assoc b.times (2 ^ (b.level - i)) (2 ^ i)) in
      record {
        starts = rw e (mul-mod_left (b.times * 2 ^ (b.level - i)) (2 ^ i));
        run = record {
          some = some_power i;
          from = w.0;
          upto = omega (arith, w.1, all_pages);
          unheld = λ q v u z. free_unheld s a.first p n q (halved_sized built.cut) x v (omega arith) (rw built.says z);
        };
      }

  -- where no free block has as many, no place would
  none_serves : (i every : ℕ) → place_block (2 ^ i) a.first s ≡ None → NoPlace halves a l (powers i every)
  none_serves i every e p u =
      let j = level a.count in
      let c = (p - a.first) / 2 ^ i in
      let z : c * 2 ^ i ≡ p - a.first = omega (arith, div-add-mod' (p - a.first) (2 ^ i), u.starts) in
      let m : i ≤ j = le_power i j (omega (arith, u.run.from, u.run.upto, built.block)) in
      let r = has_free a.first i c built.cut m (omega (arith, u.run.from, u.run.upto, built.block))
      (record { each = λ q v w y. u.run.unheld q (omega (arith, u.run.from)) (omega (arith, u.run.from)) (rw built.says at y) }) in
      omega (arith, r.enough, place_none (2 ^ i) a.first s (some_power i) e r.place r.pages r.free)

  -- a get of 2^i pages
  got : (i every : ℕ) → Gets halves a l (powers i every) (place_block (2 ^ i) a.first s) (allocate kind.halves (powers i every) a.first s)
  got i every = go (place_block (2 ^ i) a.first s) refl
    where
      chosen : (p : ℕ) → Best (2 ^ i) a.first p (drawn_map a l) → Smallest a l (2 ^ i) p
      chosen p b = record { pages = b.pages; free = b.free; enough = b.enough; smallest = b.smallest; lowest = b.lowest }

      go : (q : Option ℕ) → place_block (2 ^ i) a.first s ≡ q → Gets halves a l (powers i every) q (on_place q (λ p. occupy_block p (2 ^ i) a.first s) s)
      go None e = nothing d (none_serves i every e)
      go (Some p) e =
          let b = place_best (2 ^ i) a.first s (some_power i) p e in
          let n = free_aligned a.first p b.pages built.cut b.free in
          let m : i ≤ n.level = le_power i n.level (omega (arith, b.enough, n.pages)) in
          given p
          (drawing (record {
            block = built.block;
            cut = occupy_halved p (2 ^ i) b.pages a.first built.cut b.free;
            says = occupy_says p i n.level a.first s m (halved_sized built.cut) (rw n.pages at b.free)
                ∙ ap (enter p (2 ^ i)) built.says;
          }))
          (chosen p (subst (Best (2 ^ i) a.first p) d.is b))

  -- what is found at a page
  held_is : (p : ℕ) → held_from p a.first s ≡ pages_at p l
  held_is p = held_says p a.first s ∙ ap (pages_at p) built.says

  found : (p m : ℕ) → Lent l p m → pages_at p l ≡ m
  found p m x = found_pages p l m x (λ n y. lent_one_lem (behind a) a.first l d.fits.ordered p n m y x)

  some : (p m : ℕ) → Lent l p m → 0 < m
  some p m x = lent_some (behind a) a.first l p m d.fits.ordered x

  -- a return, and a resize to the size that the loan has
  returned : (p m : ℕ) → Lent l p m → Drawing halves a (amend p 0 l) (release_block (level (total s)) p a.first s)
  returned p m x =
      rw all_pages
      (drawing (record {
        block = built.block;
        cut = release_halved p a.first built.cut (omega (arith, held_is p, found p m x, some p m x));
        says = release_says p m a.first built.cut (rw built.says x) ∙ ap (amend p 0) built.says;
      }))

  resized : (p m k : ℕ) → 0 < k → Lent l p m → eqb k (pages_at p l) ≡ true → Drawing halves a (amend p k l) ((kind.halves).change p k a.first s)
  resized p m k z x h =
      let e : k ≡ pages_at p l = eqb-true k (pages_at p l) h in
      let same : amend p k l ≡ l = rw e (amend_same p l (λ y. omega arith)) in
      rw (ne_eqb k 0 (λ y. omega arith), same) d

room : {a : Span} {l : List Loan} → InBlocks a l → (p m k : ℕ) → Lent l p m → (eqb k (pages_at p l) ≡ true) ↔ (k ≡ m)
room {a} {l} o p m k x =
    let f = found (record { fits = o; is = refl }) p m x in
    (λ h. eqb-true k (pages_at p l) h ∙ f, λ e. eq-eqb k (pages_at p l) (e ∙ sym f))

-- one free block, where the number of pages is a power of two
new : (a : Span) → is_power a.count ≡ true → Drawing halves a [] (free+ a.count [])
unfolding loans_of
new a h =
    rw (free_front a.count [] tt (power_some a.count h))
    (drawing (record { block = power_is a.count h; cut = one (level a.count) (free a.count) (power_is a.count h); says = refl }))

-- HALVES ARE LAWFUL
pub halves_lawful : Lawful kind.halves halves
halves_lawful =
    record {
      rounded = λ j. refl;
      stands = λ d. record { sized = halved_sized (shape d).cut; proper = proper_of (shape d).cut };
      pages = all_pages;
      says = λ d. (shape d).says;
      loans = λ a s n h e. drawing (record {
        block = power_is a.count n;
        cut = subst (λ (j : ℕ). Halved j s) (ap level e) (proper_halved s h.proper);
        says = refl;
      });
      new = new;
      aligns = λ alignment. refl;
      aligned = λ alignment k z a n p x. absurd (omega (arith, eqb-true alignment 0 k));
      chosen_serves = λ {a} {l} o j every p c. block_serves (record { fits = o; is = refl }) (level j) every p c.pages c.free c.enough;
      placed = λ {a} {l} d j every z. ap (place_block (2 ^ level j) a.first) d.is;
      got = λ d j every z. got d (level j) every;
      can_have_lem = λ d p k. ap (eqb k) (held_is d p);
      room = λ o p m j x. room o p m (2 ^ level j) x;
      returned = returned;
      changed = λ d p m j x h. resized d p m (2 ^ level j) (some_power (level j)) x h;
      free_runs = λ {a} {l} d. ap free_sizes d.is;
    }
