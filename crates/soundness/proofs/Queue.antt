-- The walk over the wait queue. What is left of the queue behind the waiter `before` is sound (`left`) if each place is, no task there
-- is one that was met (`seen`) or waits twice, and nobody goes before the one in front. A sound waiter that was not met goes on to
-- the places behind it (`left_step`); from an unused place on, all must be unused (`left_unused`). Assumes nothing.
use Prim.Native.Nat.{ℕ, zero, suc, ◌+◌, ◌-◌, ◌≤◌, ◌<◌}
use mathlib.Core.Path.{◌≡◌, refl, sym, ap, ◌∙◌}
use mathlib.Core.Bool.{Bool, true, false, cond, not, ◌&&◌, ◌||◌, and-false, and-true, and_assoc}
use mathlib.Core.List.{List, [], ◌∷◌}
use native.Mathlib.Omega.{arith}
use borrow.Author.Tests.{eq-eqb, ne_eqb, eqb-true, eqb-false, leb-true, le-ltb, not-true, not-false}
use lib.Dec.{eqb, leb}
use lib.ListN.{length, length-drop, take, get_or, set, drop, replicate, length-set, drop_of_length-le}
use lib.Seq.{take_all, get_or-set_same, get_or-set_other}
use Rattle.manager.specs.Lists.{every, pairwise, adjacent}
use Rattle.manager.proofs.Laws.Lists.{and_first, and_second, rest_cons}
use Rattle.manager.proofs.Laws.Ids.{first_slot_lem, object_there, object_none, object_beyond}
use Rattle.manager.specs.Queue.{by_priority, urgent, goes_before}
use Rattle.manager.specs.Record.{slots, tasks, slot_of, has_id, no_region, region_of}
use Rattle.manager.specs.Region.{kind, dead, any_held, is_alignment, need_of, servable}
use Rattle.manager.specs.Sound.{unused, empty_waiter, sound_waiter, sound_place, other_task, in_order, sound_queue}
use Rattle.manager.specs.declared.Manager.{Manager}
use Rattle.manager.specs.declared.Order.{Order}
use Rattle.manager.specs.declared.Region.{Region}
use Rattle.manager.specs.declared.Waiter.{Waiter}
use Rattle.soundness.specs.Waiters.{queue_of, facts_of, kept_or, front_waiter, sound_in}
use Rattle.std.specs.declared.option.Option.{Option}
use Rattle.std.specs.declared.option.Option.TheVariants.{None, Some}
use Rattle.std.proofs.lemmas.Option.{none-some, same_Some}
use Rattle.soundness.specs.declared.places.Facts.{Facts}
use Rattle.objects.proofs.Laws.{unmapped}

-- TASKS THAT WERE MET
abbrev pub not_met : List Bool → Waiter → Bool
not_met seen x = unused x || not (get_or seen x.task false)

none_met : (n i : ℕ) → get_or (replicate n false) i false ≡ false
none_met zero i = refl
none_met (suc n) zero = refl
none_met (suc n) (suc i) = none_met n i

or_true : (a : Bool) → (a || true) ≡ true
or_true true = refl
or_true false = refl

every_true : (t : Waiter → Bool) → ((x : Waiter) → t x ≡ true) → (l : List Waiter) → every t l ≡ true
unfolding every
every_true t h [] = refl
every_true t h (x ∷ l) = rw (h x) (every_true t h l)

-- a used waiter is met: then each other one must be of another task
module _ (seen : List Bool) (w : Waiter) (used : w.task ≡ 0 → ⊥) (fits : w.task < length seen) where
  met_by : (x : Waiter) (u e : Bool) → unused x ≡ u → eqb w.task x.task ≡ e
      → ((u || not (get_or seen x.task false)) && not e) ≡ (u || not (get_or (set seen w.task true) x.task false))
  met_by x true true p q = absurd (used (eqb-true w.task x.task q ∙ eqb-true x.task 0 p))
  met_by x true false p q = refl
  met_by x false true p q =
      and-false (not (get_or seen x.task false))
      ∙ rw (← eqb-true w.task x.task q, get_or-set_same seen w.task true false fits)
  met_by x false false p q =
      and-true (not (get_or seen x.task false))
      ∙ sym (ap not (get_or-set_other seen w.task x.task true false (λ e. eqb-false w.task x.task q (sym e))))

  met_one : (x : Waiter) → (not_met seen x && other_task w x) ≡ not_met (set seen w.task true) x
  met_one x = rw (ne_eqb w.task 0 used) (met_by x (unused x) (eqb w.task x.task) refl refl)

  met_all : (l : List Waiter) → (every (not_met seen) l && every (other_task w) l) ≡ every (not_met (set seen w.task true)) l
  unfolding every
  met_all [] = refl
  met_all (x ∷ l) = mixed (not_met seen x) (every (not_met seen) l) (other_task w x) (every (other_task w) l) ∙ rw (met_one x, met_all l)
    where
      mixed : (a b c d : Bool) → ((a && b) && (c && d)) ≡ ((a && c) && (b && d))
      mixed true true c d = refl
      mixed true false true d = refl
      mixed true false false d = refl
      mixed false b c d = refl

-- WHAT IS LEFT OF THE QUEUE
unfoldable pub left : List ℕ → Manager → List Bool → Waiter → List Waiter → Bool
left m d seen before l =
    every (sound_place m d) l && (every (not_met seen) l && (pairwise other_task l && adjacent (in_order d) (before ∷ l)))

-- a row of tests of which one fails
third : (a b c : Bool) → (a && (b && (c && false))) ≡ false
third a b c = rw (and-false c, and-false b, and-false a)

regroup : (e f o p a : Bool) → (e && (f && ((o && p) && a))) ≡ (e && ((f && o) && (p && a)))
regroup e true true p a = refl
regroup e true false p a = refl
regroup e false o p a = refl

module _ (m : List ℕ) (d : Manager) (seen : List Bool) (before w : Waiter) (l : List Waiter) where
  left_unsound : sound_place m d w ≡ false → left m d seen before (w ∷ l) ≡ false
  unfolding left every
  left_unsound e = rw e

  left_met : not_met seen w ≡ false → left m d seen before (w ∷ l) ≡ false
  unfolding left every
  left_met e = rw (e, and-false (sound_place m d w && every (sound_place m d) l))

  left_wrong : in_order d before w ≡ false → left m d seen before (w ∷ l) ≡ false
  unfolding left every adjacent
  left_wrong e =
      rw e (third (sound_place m d w && every (sound_place m d) l) (not_met seen w && every (not_met seen) l) (pairwise other_task (w ∷ l)))

  left_step : sound_place m d w ≡ true → not_met seen w ≡ true → in_order d before w ≡ true → (w.task ≡ 0 → ⊥) → w.task < length seen
      → left m d seen before (w ∷ l) ≡ left m d (set seen w.task true) w l
  unfolding left every pairwise adjacent
  left_step e f g u h =
      rw (e, f, g)
      (regroup (every (sound_place m d) l) (every (not_met seen) l) (every (other_task w) l) (pairwise other_task l) (adjacent (in_order d) (w ∷ l))
      ∙ rw (met_all seen w u h l))

  -- an unused place: no test but its own
  module _ (e : w.task ≡ 0) where
    idle_place : sound_place m d w ≡ empty_waiter w
    unfolding sound_place
    idle_place = rw (eq-eqb w.task 0 e)

    idle_met : not_met seen w ≡ true
    idle_met = rw (eq-eqb w.task 0 e)

    idle_other : (x : Waiter) → other_task w x ≡ true
    idle_other x = rw (eq-eqb w.task 0 e)

    idle_order : in_order d before w ≡ true
    idle_order = rw (eq-eqb w.task 0 e)

    left_idle : left m d seen before (w ∷ l) ≡ (empty_waiter w && left m d seen w l)
    unfolding left every pairwise adjacent
    left_idle =
        rw (idle_place, idle_met, every_true (other_task w) idle_other l, idle_order)
        (and_assoc (empty_waiter w) (every (sound_place m d) l) (every (not_met seen) l && (pairwise other_task l && adjacent (in_order d) (w ∷ l))))

  -- whoever is used goes before an unused place
  idle_before : before.task ≡ 0 → unused w ≡ false → in_order d before w ≡ false
  unfolding goes_before
  idle_before e g = rw (g, eq-eqb before.task 0 e)

module _ (m : List ℕ) (d : Manager) (seen : List Bool) where
  behind_by : (before x : Waiter) (l : List Waiter) (b : Bool) → unused x ≡ b → before.task ≡ 0
      → (x.task ≡ 0 → left m d seen x l ≡ every empty_waiter l) → left m d seen before (x ∷ l) ≡ (empty_waiter x && every empty_waiter l)
  behind_by before x l true e g h =
      let u : x.task ≡ 0 = eqb-true x.task 0 e in
      left_idle m d seen before x l u ∙ ap (λ (v : Bool). empty_waiter x && v) (h u)
  behind_by before x l false e g h = left_wrong m d seen before x l (idle_before m d seen before x l g e) ∙ rw e

  left_none : (before : Waiter) → left m d seen before [] ≡ true
  unfolding left every pairwise adjacent
  left_none before = refl

  left_behind : (before : Waiter) (l : List Waiter) → before.task ≡ 0 → left m d seen before l ≡ every empty_waiter l
  unfolding every
  left_behind before [] e = left_none before
  left_behind before (x ∷ l) e = behind_by before x l (unused x) refl e (λ u. left_behind x l u)

  left_unused : (before x : Waiter) (l : List Waiter) → x.task ≡ 0 → left m d seen before (x ∷ l) ≡ every empty_waiter (x ∷ l)
  unfolding every
  left_unused before x l e = left_idle m d seen before x l e ∙ ap (λ (v : Bool). empty_waiter x && v) (left_behind x l e)

-- THE START: nobody was met, and no waiter goes before the one in front
module _ (m : List ℕ) (d : Manager) where
  front_urgent : (o : Order) (p : ℕ) → urgent o p 0 ≡ false
  front_urgent o p = rw (le-ltb p 0 (omega arith)) (and-false (by_priority o))

  front_order : (x : Waiter) → in_order d front_waiter x ≡ true
  unfolding goes_before
  front_order x =
      let i = slot_of x.region in
      rw (first_slot_lem, le-ltb i 0 (omega arith), front_urgent (region_of d x.region).order x.priority, and-false (eqb i 0), or_true (unused x))

  front_first : (l : List Waiter) → adjacent (in_order d) (front_waiter ∷ l) ≡ adjacent (in_order d) l
  unfolding adjacent
  front_first [] = refl
  front_first (x ∷ l) = rw (front_order x)

  none_first : (l : List Waiter) → every (not_met (replicate (tasks + 1) false)) l ≡ true
  none_first l = every_true (not_met (replicate (tasks + 1) false)) (λ x. rw (none_met (tasks + 1) x.task) (or_true (unused x))) l

  left_start : left m d (replicate (tasks + 1) false) front_waiter d.waiters ≡ sound_queue m d
  unfolding left sound_queue
  left_start = rw (none_first d.waiters, front_first d.waiters)

-- what is in the slot of an id
abbrev in_slot : List Region → ℕ → Region
in_slot rs id = get_or rs (slot_of id) no_region

-- HOW FAR THE WALK HAS COME: to place i, behind `before`, with the facts of one region kept
pub record Walk (m : List ℕ) (rs : List Region) (ws : List Waiter) (f : Option Facts) (before : Waiter) (seen : List Bool) (w : Bool) (i : ℕ) : Type 0 where
  pub places : length ws ≡ tasks
  pub slots_in : length rs ≡ slots
  pub seats : length seen ≡ (tasks + 1)
  pub kept : (k : Facts) → f ≡ Some k → k ≡ facts_of m k.id (in_slot rs k.id)
  pub rest : left m (queue_of rs ws) seen before (drop i ws) ≡ w

-- a waiter is sound by the facts of what is in its region's slot, which are those of its region or of none
module _ (m : List ℕ) (d : Manager) (w : Waiter) where
  abbrev found : Region
  found = in_slot d.regions w.region

  abbrev its : Bool
  its = has_id found.name found.generation w.region

  facts_by : (b : Bool) → its ≡ b → sound_in (facts_of m w.region found) w ≡ sound_waiter m d w
  unfolding sound_waiter
  facts_by true e =
      let a = (kind found).aligns w.alignment in
      let b = is_alignment found.page w.alignment in
      let c = servable found (need_of found w.size w.alignment) in
      let p = leb 1 w.priority && leb w.priority 255 in
      rw (
        object_there (λ r. r.name) (λ r. r.generation) no_region d.regions w.region e,
        e,
        and_first (not (dead found)) _ e,
        and_assoc a (b && c) p,
        and_assoc b c p,
      )
  facts_by false e = rw (object_none (λ r. r.name) (λ r. r.generation) no_region d.regions w.region e, e)

  by_facts : sound_in (facts_of m w.region found) w ≡ sound_waiter m d w
  by_facts = facts_by its refl

  found_region : sound_in (facts_of m w.region found) w ≡ true → found ≡ region_of d w.region
  found_region e =
      sym
      (object_there (λ r. r.name) (λ r. r.generation) no_region d.regions w.region
      (and_first its (any_held m found) (and_first (its && any_held m found) _ (and_second (leb w.task tasks) _ e))))

module _ (m : List ℕ) (rs : List Region) (ws : List Waiter) where
  pub walk_start : (before : Waiter) → length ws ≡ tasks → length rs ≡ slots → before ≡ front_waiter
      → Walk m rs ws None before (replicate (tasks + 1) false) (sound_queue m (queue_of rs ws)) 0
  walk_start before h g eb =
      rw eb
      (record {
        places = h;
        slots_in = g;
        seats = refl;
        kept = λ k e. absurd (none-some k e);
        rest = left_start m (queue_of rs ws);
      })

  module _ (f : Option Facts) (before : Waiter) (seen : List Bool) (w : Bool) (i : ℕ) (v : Walk m rs ws f before seen w i) (h : i < tasks) (z : Waiter) where
    here : left m (queue_of rs ws) seen before (get_or ws i z ∷ drop (i + 1) ws) ≡ w
    here = rw (← rest_cons ws i z (omega (arith, v.places))) v.rest

    pub walk_unused : (get_or ws i z).task ≡ 0 → (b : Bool) → b ≡ every empty_waiter (take (tasks - i) (drop i ws)) → b ≡ w
    walk_unused e b g =
        g
        ∙ ap (every empty_waiter) (take_all (tasks - i) (drop i ws) (omega (arith, v.places, length-drop i ws)))
        ∙ ap (every empty_waiter) (rest_cons ws i z (omega (arith, v.places)))
        ∙ sym (left_unused m (queue_of rs ws) seen before (get_or ws i z) (drop (i + 1) ws) e)
        ∙ here

    module _ (u : (get_or ws i z).task ≡ 0 → ⊥) where
      place_by : (s : Bool) → sound_waiter m (queue_of rs ws) (get_or ws i z) ≡ s → sound_place m (queue_of rs ws) (get_or ws i z) ≡ s
      unfolding sound_place
      place_by s e = rw (ne_eqb (get_or ws i z).task 0 u) e

      pub walk_astray : (slot : ℕ) → slot ≡ slot_of (get_or ws i z).region → slots ≤ slot → false ≡ w
      unfolding sound_waiter
      walk_astray slot e g =
          sym
          (left_unsound m (queue_of rs ws) seen before (get_or ws i z) (drop (i + 1) ws)
          (place_by false
          (rw (object_beyond (λ r. r.name) (λ r. r.generation) no_region rs refl (get_or ws i z).region (omega (arith, v.slots_in)))
          (and-false (leb (get_or ws i z).task tasks)))))
          ∙ here

      pub walk_seat : (n : Facts) (b : Bool) → b ≡ sound_in n (get_or ws i z) → not b ≡ false → (get_or ws i z).task < (tasks + 1)
      walk_seat n b eb g = omega (arith, leb-true (get_or ws i z).task tasks (and_first (leb (get_or ws i z).task tasks) _ (sym eb ∙ not-false b g)))

      -- with the facts of its region, kept or worked out
      module _ (slot : ℕ) (es : slot ≡ slot_of (get_or ws i z).region) (y : Region) (ey : y ≡ get_or rs slot no_region) (n : Facts)
          (en : n ≡ kept_or f (get_or ws i z).region (facts_of m (get_or ws i z).region y)) where
        looked_up : y ≡ in_slot rs (get_or ws i z).region
        looked_up = ey ∙ rw es

        kept_by : (k : Facts) → k ≡ facts_of m k.id (in_slot rs k.id) → (b : Bool) → eqb k.id (get_or ws i z).region ≡ b
            → cond b k (facts_of m (get_or ws i z).region y) ≡ facts_of m (get_or ws i z).region (in_slot rs (get_or ws i z).region)
        kept_by k q true e = rw (← eqb-true k.id (get_or ws i z).region e) q
        kept_by k q false e = rw looked_up

        renewed_by : (o : Option Facts) → ((k : Facts) → o ≡ Some k → k ≡ facts_of m k.id (in_slot rs k.id))
            → kept_or o (get_or ws i z).region (facts_of m (get_or ws i z).region y)
            ≡ facts_of m (get_or ws i z).region (in_slot rs (get_or ws i z).region)
        renewed_by None q = rw looked_up
        renewed_by (Some k) q = kept_by k (q k refl) (eqb k.id (get_or ws i z).region) refl

        renewed : n ≡ facts_of m (get_or ws i z).region (in_slot rs (get_or ws i z).region)
        renewed = en ∙ renewed_by f v.kept

        module _ (b : Bool) (eb : b ≡ sound_in n (get_or ws i z)) where
          told : b ≡ sound_in (facts_of m (get_or ws i z).region (in_slot rs (get_or ws i z).region)) (get_or ws i z)
          told = eb ∙ ap (λ (k : Facts). sound_in k (get_or ws i z)) renewed

          waiter_told : (s : Bool) → b ≡ s → sound_place m (queue_of rs ws) (get_or ws i z) ≡ s
          waiter_told s e = place_by s (sym (by_facts m (queue_of rs ws) (get_or ws i z)) ∙ sym told ∙ e)

          pub walk_unsound : not b ≡ true → false ≡ w
          walk_unsound g =
              sym (left_unsound m (queue_of rs ws) seen before (get_or ws i z) (drop (i + 1) ws) (waiter_told false (not-true b g))) ∙ here

          module _ (g : not b ≡ false) where
            pub walk_met : get_or seen (get_or ws i z).task false ≡ true → false ≡ w
            walk_met e =
                sym
                (left_met m (queue_of rs ws) seen before (get_or ws i z) (drop (i + 1) ws)
                (rw (ne_eqb (get_or ws i z).task 0 u, e)))
                ∙ here

            module _ (new : get_or seen (get_or ws i z).task false ≡ false) (t : Bool) (et : t ≡ goes_before y.order (get_or ws i z) before) where
              order_told : in_order (queue_of rs ws) before (get_or ws i z) ≡ not t
              order_told =
                  let there = found_region m (queue_of rs ws) (get_or ws i z) (sym told ∙ not-false b g) in
                  rw (ne_eqb (get_or ws i z).task 0 u, et, looked_up, there)

              pub walk_wrong : t ≡ true → false ≡ w
              walk_wrong e =
                  sym (left_wrong m (queue_of rs ws) seen before (get_or ws i z) (drop (i + 1) ws) (order_told ∙ ap not e)) ∙ here

              pub walk_next : t ≡ false → Walk m rs ws (Some n) (get_or ws i z) (set seen (get_or ws i z).task true) w (i + 1)
              walk_next e =
                  record {
                    places = v.places;
                    slots_in = v.slots_in;
                    seats = simp length-set v.seats;
                    kept = λ k e. let q : k ≡ n = sym (same_Some n k e) in rw q (renewed ∙ rw (ap (λ (k : Facts). k.id) renewed));
                    rest =
                        sym
                        (left_step m (queue_of rs ws) seen before (get_or ws i z) (drop (i + 1) ws) (waiter_told true (not-false b g))
                        (rw (ne_eqb (get_or ws i z).task 0 u, new)) (order_told ∙ ap not e) u (omega (arith, walk_seat n b eb g, v.seats)))
                        ∙ here;
                  }

  pub walk_end : (f : Option Facts) (before : Waiter) (seen : List Bool) (w : Bool) (i : ℕ) → Walk m rs ws f before seen w i → tasks ≤ i → true ≡ w
  walk_end f before seen w i v h =
      sym (left_none m (queue_of rs ws) seen before) ∙ rw (drop_of_length-le ws {i = i} (omega (arith, v.places))) at v.rest

pub ruleset walking_queue = (unmapped, walk_start, walk_unused, walk_astray, walk_unsound, walk_seat, walk_met, walk_wrong, walk_next, walk_end)
