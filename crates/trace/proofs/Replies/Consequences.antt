-- What the replies by the receipts come to, in the words of demand 3. Laws over the receipts alone: a live region's loans are regular, and
-- nothing is known of a memory or of a record. So of any implementation that answers as the receipts say, each field of the claims about
-- an answer follows. Assumes nothing.
use Rattle.std.specs.Prelude.{Option, None, Some}
use mathlib.Core.Path.{◌≡◌, refl, sym, ap, ◌∙◌}
use mathlib.Core.Bool.{Bool, true, false, cond, not, true≢false}
use mathlib.Core.List.{List, [], ◌∷◌, ◌++◌}
use mathlib.Core.Logic.{◌⊎◌, inl, inr, ◌↔◌}
use Prim.Native.Nat.{ℕ, ◌+◌, ◌*◌, ◌/◌, ◌%◌, ◌<◌}
use native.Mathlib.Omega.{arith}
use lib.ListN.{length}
use lib.Dec.{eqb}
use borrow.Author.Tests.{eqb-false, ne_eqb, not-false}
use Rattle.arith.specs.Round.{pages_for}
use Rattle.manager.proofs.Laws.Appended.{by_case}
use Rattle.manager.specs.Kind.{on_place}
use Rattle.manager.specs.Region.{is_alignment}
use Rattle.manager.specs.Result.{Check, check}
use Rattle.manager.specs.declared.Call.TheVariants.{GetSegment, ReturnSegment, SegmentSize, ResizeSegment, RegionInformation, GetBuffer}
use Rattle.manager.specs.declared.Wait as asking
use Rattle.manager.specs.declared.Wait.TheVariants.{No, Yes}
use Rattle.manager.specs.declared.Status.TheVariants.{Successful, InvalidSize, NotDefined, Unsatisfied}
use Rattle.manager.specs.Lists.{In, every}
use Rattle.manager.proofs.Laws.Result.{Passed}
use Rattle.trace.specs.Loans.{Loan, Lent, amend}
use Rattle.trace.specs.Reading.{Serves}
use Rattle.trace.specs.Receipts.{Receipts, RegionEntry, PartitionEntry, Wait, Reply, unit, span_in, address_in, page_in, page_loans, buffers_in, pages_over, need_in, Alignment, servable_in, Servable, reading}
use Rattle.trace.specs.Queue.{queue_of}
use Rattle.trace.specs.Replies.{no, yes, tells, informs, resizes, decided, grants_in, information_in, front, waiting_checks, no_place, by_receipts, place_in, can_have_in}
use Rattle.trace.specs.Claims.{Grants, Full, Takes}
use Rattle.trace.proofs.Segments.{law, Regular, Places, takes, full, places, lent_some, pages_lent, room_lent, regular_returned, regular_resized}
use Rattle.trace.proofs.Servable.{allows, allowed, address_on, servable_claim}
use Rattle.trace.proofs.Grants.{grants_are}
use Rattle.trace.proofs.Regions.Checks.{refuses}
use Rattle.trace.proofs.Replies.Checks.{passed}

-- ---- the answers about a region

module _ (n : ℕ) (t : Receipts) (id : ℕ) (e : RegionEntry) (q : t.regions id ≡ Some e) (g : Regular e) where
  -- a get
  module _ (size alignment task priority ticks : ℕ) where
    -- the place that it finds, and its checks by the region, behind the one for 4
    abbrev found : Option ℕ
    found = place_in e e.loans size alignment

    abbrev checks : List Check
    checks =
        check (not ((reading e).aligns alignment)) NotDefined
        ∷ check (not (is_alignment (unit e) alignment)) InvalidSize
        ∷ check (not (servable_in e size alignment)) InvalidSize
        ∷ []

    -- the place that it takes would serve
    chosen : (p : ℕ) → Takes e e.loans size alignment p → Serves (reading e) (span_in e) (page_loans e) (need_in e size alignment) p
    chosen = (law e).chosen_serves g.fits (pages_for size (unit e)) (alignment / unit e)

    -- THE ADDRESS IS A MULTIPLE OF THE ALIGNMENT: a get that succeeds, and may wait or not, has passed its checks
    module _ (wait : asking.Wait) where
      abbrev asked : Reply
      asked = by_receipts n t (GetSegment id size alignment wait task priority ticks)

      -- its answer by the place
      abbrev placing : Option ℕ → Reply
      placing p = on_place p (λ p. yes (address_in e p)) (no_place wait)

      asked_is : asked ≡ decided (check (eqb size 0) InvalidSize ∷ []) (decided (checks ++ waiting_checks t wait task priority) (placing found))
      unfolding by_receipts
      asked_is = rw q

      waits_refuse : (w : asking.Wait) → every refuses (checks ++ waiting_checks t w task priority) ≡ true
      unfolding every
      waits_refuse No = refl
      waits_refuse Yes = refl

      never_done : (w : asking.Wait) → ¬ ((no_place w).status ≡ Successful)
      never_done No y = let x : ◌≡◌ {A = ℕ} 0 1 = cc in omega arith
      never_done Yes y = let x : ◌≡◌ {A = ℕ} 0 1 = cc in omega arith

      pub aligned_by : 0 < alignment → asked.status ≡ Successful → asked.value % alignment ≡ 0
      unfolding Passed every
      aligned_by o h =
          let s = passed (check (eqb size 0) InvalidSize ∷ []) _ refl (ap (λ (r : Reply). r.status) (sym asked_is) ∙ h) in
          let u = passed (checks ++ waiting_checks t wait task priority) _ (waits_refuse wait) (ap (λ (r : Reply). r.status) (sym (asked_is ∙ s.1)) ∙ h) in
          let a = allows e alignment (not-false ((reading e).aligns alignment) u.0.0) (not-false (is_alignment (unit e) alignment) u.0.1.0) in
          let b : asked ≡ placing found = asked_is ∙ s.1 ∙ u.1 in
          rw b (go a (places e g size alignment (let y = eqb-false size 0 s.0.0 in omega arith)) (ap (λ (r : Reply). r.status) (sym b) ∙ h))
        where
          go : Alignment e alignment → {p : Option ℕ} → Places e size alignment p → (placing p).status ≡ Successful → (placing p).value % alignment ≡ 0
          go a (takes i c r) y = address_on e alignment a o i ((law e).aligned alignment a.known o (span_in e) (need_in e size alignment) i (chosen i c).starts)
          go a (full f) y = absurd (never_done wait y)

    -- one that won't wait
    abbrev at_once : Reply
    at_once = asked No

    abbrev by_place : Option ℕ → Reply
    by_place = placing No

    get_is : at_once ≡ decided (check (eqb size 0) InvalidSize ∷ []) (decided checks (by_place found))
    get_is = asked_is No

    module _ (z : 0 < size) where
      -- 11 EXACTLY WHERE THE KIND DOES NOT KNOW THE ALIGNMENT
      pub undefined_by : (at_once.status ≡ NotDefined) ↔ ((reading e).aligns alignment ≡ false)
      unfolding decided
      undefined_by =
          rw (get_is, ne_eqb size 0 (λ (y : size ≡ 0). omega arith))
          (by_case ((reading e).aligns alignment)
          (λ (b : Bool). ((cond (not b) (no NotDefined) (known (is_alignment (unit e) alignment) (servable_in e size alignment) found)).status ≡ NotDefined) ↔ (b ≡ false))
          (λ h. (λ y. absurd (other (is_alignment (unit e) alignment) (servable_in e size alignment) found y), λ y. absurd (true≢false y)))
          (λ h. (λ y. refl, λ y. refl)))
        where
          known : Bool → Bool → Option ℕ → Reply
          known b c p = cond (not b) (no InvalidSize) (cond (not c) (no InvalidSize) (by_place p))

          other : (b c : Bool) (p : Option ℕ) → ¬ ((known b c p).status ≡ NotDefined)
          other false c p y = let x : ◌≡◌ {A = ℕ} 0 1 = cc in omega arith
          other true false p y = let x : ◌≡◌ {A = ℕ} 0 1 = cc in omega arith
          other true true (Some i) y = let x : ◌≡◌ {A = ℕ} 0 1 = cc in omega arith
          other true true None y = let x : ◌≡◌ {A = ℕ} 0 1 = cc in omega arith

      -- on an alignment that the kind knows
      serves : (servable_in e size alignment ≡ true) ↔ Servable e size alignment
      serves = servable_claim e g.some_unit g.some_page size alignment z

      abbrev by_tests : Bool → Bool → Reply
      by_tests b c = cond (not b) (no InvalidSize) (cond (not c) (no InvalidSize) (by_place found))

      get_known : (reading e).aligns alignment ≡ true → at_once ≡ by_tests (is_alignment (unit e) alignment) (servable_in e size alignment)
      unfolding decided
      get_known k = get_is ∙ rw (ne_eqb size 0 (λ (y : size ≡ 0). omega arith), k)

      -- 8 EXACTLY WHERE IT IS NOT ALLOWED, or no place would serve with nothing lent
      pub invalid_by : (reading e).aligns alignment ≡ true → (at_once.status ≡ InvalidSize) ↔ (¬ (Alignment e alignment × Servable e size alignment))
      invalid_by k =
          rw (get_known k)
          (by_case (is_alignment (unit e) alignment) (λ (b : Bool). ((by_tests b (servable_in e size alignment)).status ≡ InvalidSize) ↔ (¬ Fine))
          (λ h. by_case (servable_in e size alignment) (λ (c : Bool). ((by_tests true c).status ≡ InvalidSize) ↔ (¬ Fine))
          (λ x. (λ y. absurd (other found y), λ f. absurd (f (allows e alignment k h, serves.0 x))))
          (λ x. (λ y s. true≢false (sym (serves.1 s.1) ∙ x), λ f. refl)))
          (λ h. (λ y s. true≢false (sym (allowed e alignment s.0) ∙ h), λ f. refl)))
        where
          Fine : Type 0
          Fine = Alignment e alignment × Servable e size alignment

          other : (p : Option ℕ) → ¬ ((by_place p).status ≡ InvalidSize)
          other (Some i) y = let x : ◌≡◌ {A = ℕ} 0 1 = cc in omega arith
          other None y = let x : ◌≡◌ {A = ℕ} 0 1 = cc in omega arith

      -- on one that is allowed, where it could be served
      module _ (a : Alignment e alignment) (h : Servable e size alignment) where
        get_by : at_once ≡ by_place found
        get_by = get_known a.known ∙ rw (allowed e alignment a, serves.1 h)

        -- 13 EXACTLY WHEN NO PLACE WOULD SERVE
        pub unsatisfied_by : (at_once.status ≡ Unsatisfied) ↔ Full e e.loans size alignment
        unsatisfied_by = rw get_by (go (places e g size alignment z))
          where
            go : {p : Option ℕ} → Places e size alignment p → ((by_place p).status ≡ Unsatisfied) ↔ Full e e.loans size alignment
            go (takes i c o) = (
              λ (x : Successful ≡ Unsatisfied). let y : ◌≡◌ {A = ℕ} 0 1 = cc in absurd (omega arith),
              λ f. absurd (f i (chosen i c)),
            )
            go (full f) = (λ x. f, λ x. refl)

        -- ELSE THE ADDRESS IS THAT OF THE PLACE THAT IT TAKES
        pub lowest_by : (at_once.status ≡ Unsatisfied)
            ⊎ ((p : ℕ) × Takes e e.loans size alignment p × (at_once.status ≡ Successful) × (at_once.value ≡ address_in e p))
        lowest_by = rw get_by (go (places e g size alignment z))
          where
            go : {p : Option ℕ} → Places e size alignment p
                → ((by_place p).status ≡ Unsatisfied)
                ⊎ ((i : ℕ) × Takes e e.loans size alignment i × ((by_place p).status ≡ Successful) × ((by_place p).value ≡ address_in e i))
            go (takes i c o) = inr (i, c, refl, refl)
            go (full f) = inl refl

  -- INFORMATION
  pub information_by : by_receipts n t (RegionInformation id) ≡ informs (information_in e)
  unfolding by_receipts
  information_by = rw q

  -- A LOAN: its size, a return, and a resize
  module _ (a k : ℕ) (x : Lent e.loans a k) where
    some_pages : ¬ (k ≡ 0)
    some_pages z = omega (arith, lent_some e g a k x)

    pub size_by : by_receipts n t (SegmentSize id a) ≡ yes (k * unit e)
    unfolding by_receipts decided
    size_by = rw (q, pages_lent e g a k x, ne_eqb k 0 some_pages)

    return_is : by_receipts n t (ReturnSegment id a) ≡ tells 0 (grants_in e (amend a 0 e.loans) (queue_of id e t))
    unfolding by_receipts decided
    return_is = rw (q, pages_lent e g a k x, ne_eqb k 0 some_pages)

    pub return_by : ((w : Wait) → In w (queue_of id e t) → 0 < w.size)
        → ((by_receipts n t (ReturnSegment id a)).status ≡ Successful)
        × Grants e (amend a 0 e.loans) (queue_of id e t) (by_receipts n t (ReturnSegment id a)).notices
    return_by h = rw return_is (refl, grants_are e (amend a 0 e.loans) (queue_of id e t) (regular_returned e g a k x) h)

    -- a resize, by whether the loan can have the pages
    module _ (size : ℕ) (z : 0 < size) where
      abbrev refitted : List Loan
      refitted = amend a (pages_over e size) e.loans

      abbrev by_room : Bool → Reply
      by_room b = resizes b (k * unit e) (grants_in e refitted (queue_of id e t))

      resize_is : by_receipts n t (ResizeSegment id a size) ≡ by_room (can_have_in e a size)
      unfolding by_receipts decided
      resize_is = rw (ne_eqb size 0 (λ (y : size ≡ 0). omega arith), q, pages_lent e g a k x, ne_eqb k 0 some_pages)

      pub resize_by : ((by_receipts n t (ResizeSegment id a size)).value ≡ k * unit e)
          × (((by_receipts n t (ResizeSegment id a size)).status ≡ Unsatisfied) ↔ (¬ (reading e).Room (span_in e) (page_loans e) (page_in e a) k (pages_over e size)))
      resize_by =
          rw resize_is
          (by_case (can_have_in e a size)
          (λ (b : Bool). ((by_room b).value ≡ k * unit e)
          × (((by_room b).status ≡ Unsatisfied) ↔ (¬ (reading e).Room (span_in e) (page_loans e) (page_in e a) k (pages_over e size))))
          (λ h. (
            refl,
            (
              λ (y : Successful ≡ Unsatisfied). let u : ◌≡◌ {A = ℕ} 0 1 = cc in absurd (omega arith),
              λ f. absurd (f ((room_lent e g a k size x).0 h)),
            ),
          ))
          (λ h. (refl, (λ y r. true≢false (sym ((room_lent e g a k size x).1 r) ∙ h), λ f. refl))))

      pub resize_serves_by : ((w : Wait) → In w (queue_of id e t) → 0 < w.size)
          → (((by_receipts n t (ResizeSegment id a size)).status ≡ Unsatisfied) × ((by_receipts n t (ResizeSegment id a size)).notices ≡ []))
          ⊎ (((by_receipts n t (ResizeSegment id a size)).status ≡ Successful) × Grants e refitted (queue_of id e t) (by_receipts n t (ResizeSegment id a size)).notices)
      resize_serves_by asks =
          rw resize_is
          (by_case (can_have_in e a size)
          (λ (b : Bool). (((by_room b).status ≡ Unsatisfied) × ((by_room b).notices ≡ []))
          ⊎ (((by_room b).status ≡ Successful) × Grants e refitted (queue_of id e t) (by_room b).notices))
          (λ h. inr (refl, grants_are e refitted (queue_of id e t) (regular_resized e g a k size x h) asks))
          (λ h. inl (refl, refl)))

-- ---- the answers about a partition

module _ (n : ℕ) (t : Receipts) (id : ℕ) (e : PartitionEntry) (q : t.partitions id ≡ Some e) (counted : length e.lent + length e.unlent ≡ buffers_in e) where
  front_is : by_receipts n t (GetBuffer id) ≡ front e.unlent
  unfolding by_receipts
  front_is = rw q

  -- 13 EXACTLY WHEN EVERY BUFFER IS HELD
  pub buffer_unsatisfied : ((by_receipts n t (GetBuffer id)).status ≡ Unsatisfied) ↔ (length e.lent ≡ buffers_in e)
  buffer_unsatisfied = rw front_is (go e.unlent counted)
    where
      go : (u : List ℕ) → length e.lent + length u ≡ buffers_in e → ((front u).status ≡ Unsatisfied) ↔ (length e.lent ≡ buffers_in e)
      go [] c = (λ x. omega arith, λ x. refl)
      go (a ∷ u) c = (λ (x : Successful ≡ Unsatisfied). let y : ◌≡◌ {A = ℕ} 0 1 = cc in absurd (omega arith), λ x. absurd (omega arith))

  -- ELSE THE FRONT OF THE CHAIN
  pub buffer_front : (a : ℕ) (u : List ℕ) → e.unlent ≡ a ∷ u
      → ((by_receipts n t (GetBuffer id)).status ≡ Successful) × ((by_receipts n t (GetBuffer id)).value ≡ a)
  buffer_front a u l = rw (front_is, l) (refl, refl)
