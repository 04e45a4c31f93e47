-- What holds of each call's row of the table. The numbers beyond its keys do not count (`whole`). Numbers that fit its keys make a call whose
-- row it is and whose numbers they are (`made`). Assumes nothing.
use mathlib.Core.Path.{◌≡◌, refl, ◌∙◌, ap}
use Prim.Native.Nat.{ℕ, zero, suc, ◌≤◌, ◌<◌}
use mathlib.Core.List.{List, [], ◌∷◌}
use native.Mathlib.Omega.{arith}
use lib.ListN.{length, get_or, take}
use Rattle.manager.specs.declared.Order.{Order}
use Rattle.manager.specs.declared.Order.TheVariants.{Fifo, Priority, HalvesFifo, HalvesPriority}
use Rattle.manager.specs.declared.Wait.{Wait}
use Rattle.manager.specs.declared.Wait.TheVariants.{No, Yes}
use Rattle.manager.specs.declared.Call.{Call}
use Rattle.manager.specs.declared.Call.TheVariants.{CreateRegion, IdentRegion, DeleteRegion, GetSegment, ReturnSegment, SegmentSize, ResizeSegment, RegionInformation, CreatePartition, IdentPartition, DeletePartition, GetBuffer, ReturnBuffer, Tick}
use Rattle.script.specs.Table.{Key, no_key, Row, calls, no_row, order_of, wait_of, create_region_row, get_segment_row, order_number, wait_number, row_of, arguments_of}
use Rattle.script.specs.Written.{Fit}

-- ---- one fact for each row

infixr 20 ◌and◌
pub data All (P : Row → Type 0) : List Row → Type 0 where
  done : All P []
  ◌and◌ : {r : Row} {rs : List Row} → P r → All P rs → All P (r ∷ rs)

pub all_at_lem : (P : Row → Type 0) (rs : List Row) → All P rs → (k : ℕ) → k < length rs → P (get_or rs k no_row)
all_at_lem P [] f k h = absurd (omega arith)
all_at_lem P (r ∷ rs) (p and ps) zero h = p
all_at_lem P (r ∷ rs) (p and ps) (suc k) h = all_at_lem P rs ps k (omega arith)

-- ---- the numbers beyond the keys

Whole : Row → Type 0
Whole r = (a b c d e f g h : ℕ) → r.call (take (length r.keys) (a ∷ b ∷ c ∷ d ∷ e ∷ f ∷ g ∷ h ∷ [])) ≡ r.call (a ∷ b ∷ c ∷ d ∷ e ∷ f ∷ g ∷ h ∷ [])

each_whole : All Whole calls
unfolding Whole
each_whole = search (done, ◌and◌) depth 40 fits 4000

eight : (r : Row) → Whole r → (vs : List ℕ) → length vs ≡ 8 → r.call (take (length r.keys) vs) ≡ r.call vs
unfolding Whole
eight r w (a ∷ b ∷ c ∷ d ∷ e ∷ f ∷ g ∷ h ∷ []) l = w a b c d e f g h
eight r w [] l = absurd (omega arith)
eight r w (a ∷ []) l = absurd (omega arith)
eight r w (a ∷ b ∷ []) l = absurd (omega arith)
eight r w (a ∷ b ∷ c ∷ []) l = absurd (omega arith)
eight r w (a ∷ b ∷ c ∷ d ∷ []) l = absurd (omega arith)
eight r w (a ∷ b ∷ c ∷ d ∷ e ∷ []) l = absurd (omega arith)
eight r w (a ∷ b ∷ c ∷ d ∷ e ∷ f ∷ []) l = absurd (omega arith)
eight r w (a ∷ b ∷ c ∷ d ∷ e ∷ f ∷ g ∷ []) l = absurd (omega arith)
eight r w (a ∷ b ∷ c ∷ d ∷ e ∷ f ∷ g ∷ h ∷ i ∷ vs) l = absurd (omega arith)

pub whole : (k : ℕ) → k < length calls → (vs : List ℕ) → length vs ≡ 8 → (get_or calls k no_row).call (take (length (get_or calls k no_row).keys) vs) ≡ (get_or calls k no_row).call vs
whole k h vs l = eight (get_or calls k no_row) (all_at_lem Whole calls each_whole k h) vs l

-- ---- from numbers to a call and back

pub record Made (r : Row) (vs : List ℕ) : Type 0 where
  pub its_row : row_of (r.call vs) ≡ r
  pub its_numbers : arguments_of (r.call vs) ≡ vs

-- n numbers of vs from place i on
abbrev spread : ℕ → ℕ → List ℕ → List ℕ
spread zero i vs = []
spread (suc n) i vs = get_or vs i 0 ∷ spread n (suc i) vs

spread_more : (n i v : ℕ) (vs : List ℕ) → spread n (suc i) (v ∷ vs) ≡ spread n i vs
spread_more zero i v vs = refl
spread_more (suc n) i v vs = ap (λ (l : List ℕ). get_or vs i 0 ∷ l) (spread_more n (suc i) v vs)

spread_fit : (ks : List Key) (vs : List ℕ) → Fit ks vs → spread (length ks) 0 vs ≡ vs
unfolding Fit
spread_fit [] [] f = refl
spread_fit [] (v ∷ vs) f = absurd f
spread_fit (k ∷ ks) [] f = absurd f
spread_fit (k ∷ ks) (v ∷ vs) f = ap (λ (l : List ℕ). v ∷ l) (spread_more (length ks) 0 v vs ∙ spread_fit ks vs f.1)

Makes : Row → Type 0
Makes r = (vs : List ℕ) → Fit r.keys vs → Made r vs

-- a row whose numbers are held as they are
plain : (r : Row) → ((vs : List ℕ) → row_of (r.call vs) ≡ r) → ((vs : List ℕ) → arguments_of (r.call vs) ≡ spread (length r.keys) 0 vs) → Makes r
unfolding Makes
plain r f g vs h = record { its_row = f vs; its_numbers = g vs ∙ spread_fit r.keys vs h }

order_back : (n : ℕ) → n ≤ 3 → order_number (order_of n) ≡ n
order_back zero h = refl
order_back (suc zero) h = refl
order_back (suc (suc zero)) h = refl
order_back (suc (suc (suc n))) h = let e : n ≡ 0 = omega arith in rw e

wait_back : (n : ℕ) → n ≤ 1 → wait_number (wait_of n) ≡ n
wait_back zero h = refl
wait_back (suc n) h = let e : n ≡ 0 = omega arith in rw e

-- number i of those that fit is at most its key's largest
fit_at : (ks : List Key) (vs : List ℕ) → Fit ks vs → (i : ℕ) → i < length ks → get_or vs i 0 ≤ (get_or ks i no_key).most
unfolding Fit
fit_at [] vs f i h = absurd (omega arith)
fit_at (k ∷ ks) [] f i h = absurd f
fit_at (k ∷ ks) (v ∷ vs) f zero h = f.0
fit_at (k ∷ ks) (v ∷ vs) f (suc i) h = fit_at ks vs f.1 i (omega arith)

makes_create : Makes create_region_row
unfolding Makes
makes_create vs h =
    record {
      its_row = refl;
      its_numbers = rw (order_back (get_or vs 4 0) (fit_at create_region_row.keys vs h 4 (omega arith))) (spread_fit create_region_row.keys vs h);
    }

makes_get : Makes get_segment_row
unfolding Makes
makes_get vs h =
    record {
      its_row = refl;
      its_numbers = rw (wait_back (get_or vs 3 0) (fit_at get_segment_row.keys vs h 3 (omega arith))) (spread_fit get_segment_row.keys vs h);
    }

each_makes : All Makes calls
unfolding Makes
each_makes = search (done, ◌and◌, makes_create, makes_get, plain) depth 40 fits 4000

pub made : (k : ℕ) → k < length calls → (vs : List ℕ) → Fit (get_or calls k no_row).keys vs → Made (get_or calls k no_row) vs
unfolding Makes
made k h vs f = all_at_lem Makes calls each_makes k h vs f

-- a call is the one that its numbers make by its row, and that row is in the table
order_there : (o : Order) → order_of (order_number o) ≡ o
order_there Fifo = refl
order_there Priority = refl
order_there HalvesFifo = refl
order_there HalvesPriority = refl

wait_there : (w : Wait) → wait_of (wait_number w) ≡ w
wait_there No = refl
wait_there Yes = refl

pub record Listed (c : Call) : Type 0 where
  pub place : ℕ
  pub known : place < length calls
  pub is : get_or calls place no_row ≡ row_of c
  pub remade : (row_of c).call (arguments_of c) ≡ c

at_place : (c : Call) (k : ℕ) → k < length calls → get_or calls k no_row ≡ row_of c → (row_of c).call (arguments_of c) ≡ c → Listed c
at_place c k h e f = record { place = k; known = h; is = e; remade = f }

pub listed : (c : Call) → Listed c
listed (CreateRegion n s l p o) = at_place (CreateRegion n s l p o) 0 (omega arith) refl (rw (order_there o))
listed (CreatePartition n s l z) = at_place (CreatePartition n s l z) 1 (omega arith) refl refl
listed (IdentRegion n) = at_place (IdentRegion n) 2 (omega arith) refl refl
listed (IdentPartition n) = at_place (IdentPartition n) 3 (omega arith) refl refl
listed (DeleteRegion i) = at_place (DeleteRegion i) 4 (omega arith) refl refl
listed (DeletePartition i) = at_place (DeletePartition i) 5 (omega arith) refl refl
listed (RegionInformation i) = at_place (RegionInformation i) 6 (omega arith) refl refl
listed (GetBuffer i) = at_place (GetBuffer i) 7 (omega arith) refl refl
listed (GetSegment i z l w t p k) = at_place (GetSegment i z l w t p k) 8 (omega arith) refl (rw (wait_there w))
listed (ReturnSegment i a) = at_place (ReturnSegment i a) 9 (omega arith) refl refl
listed (SegmentSize i a) = at_place (SegmentSize i a) 10 (omega arith) refl refl
listed (ReturnBuffer i a) = at_place (ReturnBuffer i a) 11 (omega arith) refl refl
listed (ResizeSegment i a z) = at_place (ResizeSegment i a z) 12 (omega arith) refl refl
listed Tick = at_place Tick 13 (omega arith) refl refl
