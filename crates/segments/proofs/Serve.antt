-- Serving a queue: what is left to serve from here on gives what serving from the start gives, with the region live and every waiter
-- asking for something on the way. The array of notices ends the loop only where nobody waits: behind the notices so far there are places
-- for all who do. Assumes nothing.
use Rattle.std.specs.Prelude.{Option, None, Some}
use Prim.Native.Nat.{ℕ, zero, suc, ◌+◌, ◌-◌, ◌≤◌, ◌<◌}
use mathlib.Core.Path.{◌≡◌, refl, sym, ap, ◌∙◌}
use mathlib.Core.Bool.{Bool, true, false, cond, not, ◌||◌}
use mathlib.Core.List.{List, [], ◌++◌}
use native.Mathlib.Omega.{arith}
use lib.ListN.{length, get_or, set}
use lib.Dec.{eqb, leb, ltb}
use borrow.Author.Tests.{lt-ltb, le-ltb, ltb-true, leb-true, not-true}
use Rattle.manager.proofs.Laws.Region as region
use Rattle.manager.specs.Record.{tasks, no_waiter, no_notice, region_of}
use Rattle.manager.proofs.Laws.Lists.{and_first, and_second, every_at, index_passes}
use Rattle.manager.specs.Region.{any_held, address_of, pages_asked, need_of, placed, taken}
use Rattle.manager.specs.Queue.{first_of, waits_for, dequeue}
use Rattle.manager.proofs.Laws.Queue.{dequeue_every, count_remove, length_remove, sound_every}
use Rattle.manager.proofs.Laws.Appended.{every_imp, by_case, count_most}
use Rattle.manager.proofs.Laws.Notices.{first_waits}
use Rattle.manager.specs.Kind.{on_place}
use Rattle.manager.specs.Serve.{Served, quiet, granted, telling, serve_up_to, serve, from_served}
use Rattle.manager.specs.Sound.{sound, sound_place, sound_waiter}
use Rattle.manager.specs.Sound.{Sited}
use Rattle.manager.proofs.Laws.Sound.{sound_queue_lem}
use Rattle.manager.specs.declared.Manager.{Manager}
use Rattle.manager.specs.declared.Region.{Region}
use Rattle.manager.specs.declared.Waiter.{Waiter}
use Rattle.manager.specs.declared.Notice.{Notice}
use Rattle.manager.specs.declared.Need.{Need}
use Rattle.objects.proofs.Laws.{unmapped}
use Rattle.objects.proofs.Fill.{Filling, fill_from, fill_put, fill_count, fill_end}
use Rattle.std.specs.Prelude.{Ok}
use Rattle.reply.specs.Notices.{Notices, told}
use Rattle.reply.specs.Outcomes.{finished}
use Rattle.reply.specs.declared.Noticed.{Noticed}
use Rattle.reply.proofs.Laws.{notices_told}
use Rattle.segments.specs.Lending.{Takes}
use Rattle.segments.proofs.Lend.{taken_address, none_taken}
use Rattle.segments.specs.Serving.{asks, Asking, on_turn, need_first, turn_of, Turns, used, Ready, Fresh, Serves}

-- ---- the first waiter asks for a page

asks_some : (id : ℕ) (w : Waiter) → waits_for id w ≡ true → asks w ≡ true → 1 ≤ w.size
asks_some id w e f =
    let n : eqb w.task 0 ≡ false = not-true (eqb w.task 0) (and_first (not (eqb w.task 0)) (eqb w.region id) e) in
    leb-true 1 w.size (rw n at f)

pub asked_some : (m : List ℕ) (r : Region) (d : Manager) (id i k : ℕ) → Sited m r → Asking d → i ≡ first_of id d.waiters → i < length d.waiters
    → k ≡ pages_asked r (get_or d.waiters i no_waiter).size → 1 ≤ k
asked_some m r d id i k s a q l e =
    let w = get_or d.waiters i no_waiter in
    let h : waits_for id w ≡ true = rw q (index_passes no_waiter (waits_for id) d.waiters (omega arith)) in
    let g : 1 ≤ w.size = asks_some id w h (every_at asks d.waiters i no_waiter a l) in
    rw e (region.asked_some m r s w.size g)

-- the waiters of sound books ask for something
place_asks : (m : List ℕ) (d : Manager) (w : Waiter) → sound_place m d w ≡ true → asks w ≡ true
unfolding sound_place sound_waiter
place_asks m d w e =
    by_case (eqb w.task 0) (λ b. (b || leb 1 w.size) ≡ true) (λ t. refl)
    (λ t. (
    let u = rw t at e in
    let u2 = and_second (leb w.task tasks) _ u in
    let u3 = and_second (not (eqb (region_of d w.region).name 0)) _ u2 in
    let u4 = and_second (any_held m (region_of d w.region)) _ u3 in
    and_first (leb 1 w.size) _ u4
    ))

pub sound_asking : (m : List ℕ) (d : Manager) → sound m d ≡ true → Asking d
sound_asking m d h = every_imp (sound_place m d) asks (place_asks m d) d.waiters (sound_every m d (sound_queue_lem m d h))

-- one waiter less
pub asking_less : (d : Manager) (i : ℕ) → Asking d → Asking (dequeue d i)
asking_less d i a = dequeue_every d i asks refl a

places_same : (d : Manager) (i : ℕ) → length (dequeue d i).waiters ≡ length d.waiters
unfolding dequeue
places_same d i = length_remove i d.waiters

same_region : (d : Manager) (i id : ℕ) → region_of (dequeue d i) id ≡ region_of d id
unfolding dequeue
same_region d i id = refl

-- ---- one turn

module _ (m : List ℕ) (d : Manager) (id : ℕ) (r : Region) (s : Sited m r) (er : r ≡ region_of d id) (i : ℕ) (q : i ≡ first_of id d.waiters) where
  -- nobody waits
  pub turn_none : tasks ≤ i → Turns m d id r m None
  unfolding turn_of
  turn_none h = record { turn = rw (← q, le-ltb i tasks h); memory = refl; sited = s }

  pub turn_asks : Asking d → i < tasks → length d.waiters ≡ tasks → (n : Need) (alignment : ℕ)
      → n ≡ need_of r (get_or d.waiters i no_waiter).size alignment → 1 ≤ n.pages
  turn_asks a h l n alignment e = asked_some m r d id i n.pages s a q (omega arith) (ap (λ (w : Need). w.pages) e)

  module _ (h : i < tasks) (n : Need) (en : n ≡ need_of r (get_or d.waiters i no_waiter).size (get_or d.waiters i no_waiter).alignment) (out : List ℕ) (p : Option ℕ)
      (t : Takes r n m out p) where
    need_first_lem : n ≡ need_first d id
    need_first_lem = en ∙ rw (er, q)

    placed_is : p ≡ placed m (region_of d id) (need_first d id)
    placed_is = t.place ∙ rw (er, need_first_lem)

    -- the first finds no room
    pub turn_no : p ≡ None → Turns m d id r out None
    unfolding turn_of
    turn_no e =
        record {
          turn = rw (← placed_is, e, ← q, lt-ltb i tasks h);
          memory = none_taken m r s n out p t e;
          sited = t.sited;
        }

    pub turn_yes : (j : ℕ) → p ≡ Some j → (a : ℕ) → a ≡ address_of r j → Turns m d id r out (Some (i, granted (get_or d.waiters i no_waiter) a))
    unfolding turn_of
    turn_yes j e a ea =
        record {
          turn = rw (← placed_is, e, ← q, lt-ltb i tasks h, ea, er);
          memory = t.memory ∙ rw (er, need_first_lem);
          sited = t.sited;
        }

pub ruleset turning = (unmapped, turn_none, turn_asks, turn_no, taken_address, turn_yes)

-- ---- one turn of the definition, by what it comes to

module _ (f : ℕ) (m : List ℕ) (d : Manager) (id : ℕ) where
  up_turn : serve_up_to (suc f) m d id ≡ on_turn (turn_of m d id) (λ i n. telling n (serve_up_to f (taken m (region_of d id) (need_first d id)) (dequeue d i) id)) (quiet m d)
  unfolding serve_up_to turn_of
  up_turn = go (ltb (first_of id d.waiters) tasks) (placed m (region_of d id) (need_first d id))
    where
      go : (b : Bool) (p : Option ℕ) →
          cond b (on_place p (λ j. telling (granted (get_or d.waiters (first_of id d.waiters) no_waiter) (address_of (region_of d id) j)) (serve_up_to f (taken m (region_of d id) (need_first d id)) (dequeue d (first_of id d.waiters)) id)) (quiet m d)) (quiet m d)
          ≡ on_turn (cond b (on_place p (λ j. Some (first_of id d.waiters, granted (get_or d.waiters (first_of id d.waiters) no_waiter) (address_of (region_of d id) j))) None) None)
          (λ i n. telling n (serve_up_to f (taken m (region_of d id) (need_first d id)) (dequeue d i) id)) (quiet m d)
      go true (Some j) = refl
      go true None = refl
      go false p = refl

-- ---- places for the notices

-- one leaves: a place less is used
used_less : (d : Manager) (id i : ℕ) → length d.waiters ≡ tasks → i ≡ first_of id d.waiters → i < tasks → used (dequeue d i).waiters + 1 ≡ used d.waiters
unfolding dequeue
used_less d id i n e h =
    let w = first_waits id d.waiters (omega arith) in
    let c = count_remove (λ (x : Waiter). not (eqb x.task 0)) refl (first_of id d.waiters) d.waiters in
    rw e (omega (arith, rw w at c))

-- notices that are told, with places for all who wait
pub ready_told : (d : Manager) (ns : List Notice) (n : Noticed) → Notices d ns n → Asking n.manager → length n.manager.waiters ≡ tasks
    → n.count + used n.manager.waiters ≤ tasks → Ready n
ready_told d ns n x a l f =
    let t = notices_told d ns n x in
    record { notices = record { manager = refl; notices = rw t x.notices; count = rw t x.count }; asking = a; places = l; fits = f }

-- a turn that serves is of the first waiter
turn_place : (m : List ℕ) (d : Manager) (id : ℕ) (t : ℕ × Notice) → turn_of m d id ≡ Some t → (t.0 ≡ first_of id d.waiters) × (t.0 < tasks)
unfolding turn_of
turn_place m d id t e =
    go (ltb (first_of id d.waiters) tasks) refl (placed m (region_of d id) (need_first d id)) e
  where
    go : (b : Bool) → ltb (first_of id d.waiters) tasks ≡ b → (g : Option ℕ)
        → cond b (on_place g (λ p. Some (first_of id d.waiters, granted (get_or d.waiters (first_of id d.waiters) no_waiter) (address_of (region_of d id) p))) None) None ≡ Some t
        → (t.0 ≡ first_of id d.waiters) × (t.0 < tasks)
    go true l (Some p) f = let q : t.0 ≡ first_of id d.waiters = grind arith in (q, omega (arith, ltb-true (first_of id d.waiters) tasks l))
    go true l None f = grind arith
    go false l g f = grind arith

-- a turn that serves nobody is the last
turn_last : (f : ℕ) (m : List ℕ) (d : Manager) (id : ℕ) → turn_of m d id ≡ None → serve_up_to f m d id ≡ quiet m d
unfolding serve_up_to
turn_last zero m d id e = refl
turn_last (suc f) m d id e = up_turn f m d id ∙ rw e

-- ---- the loop

-- what is left to serve from here gives what serving from the start gives, behind the k notices before
pub record Serving (m₀ : List ℕ) (id : ℕ) (r : Region) (d₀ : Manager) (before : List Notice) (k : ℕ) (m : List ℕ) (d : Manager) (ns : List Notice) (n : ℕ) : Type 0 where
  pub from : k ≤ n
  pub size : length m ≡ length m₀
  pub sited : Sited m r
  pub region : r ≡ region_of d id
  pub asking : Asking d
  pub places : length d.waiters ≡ tasks
  pub fits : n + used d.waiters ≤ tasks
  pub memory : (serve_up_to (tasks + k - n) m d id).memory ≡ (serve m₀ d₀ id).memory
  pub manager : (serve_up_to (tasks + k - n) m d id).manager ≡ (serve m₀ d₀ id).manager
  pub told : Filling no_notice tasks ns n (serve_up_to (tasks + k - n) m d id).notices (before ++ (serve m₀ d₀ id).notices)

pub serve_start : (m : List ℕ) (id : ℕ) (r : Region) (so : Noticed) → Sited m r → r ≡ region_of so.manager id → Ready so
    → Serving m id r so.manager (told so) so.count m so.manager so.notices so.count
unfolding serve
serve_start m id r so s er a =
    let f : tasks + so.count - so.count ≡ tasks = omega arith in
    record {
      from = omega arith;
      size = refl;
      sited = s;
      region = er;
      asking = a.asking;
      places = a.places;
      fits = a.fits;
      memory = rw f;
      manager = rw f;
      told = rw f (fill_from no_notice tasks so.notices so.count (told so) a.notices.notices a.notices.count (omega (arith, a.fits)) _);
    }

module _ (m₀ : List ℕ) (id : ℕ) (r : Region) (from : Noticed) (m : List ℕ) (n : Noticed)
    (v : Serving m₀ id r from.manager (told from) from.count m n.manager n.notices n.count) (out : List ℕ) (t : Option (ℕ × Notice)) (u : Turns m n.manager id r out t) where
  -- the last turn
  pub serve_stop : t ≡ None → Serves from (serve m₀ from.manager id) out n × Sited out r
  serve_stop x =
      let e = turn_last (tasks + from.count - n.count) m n.manager id (sym u.turn ∙ x) in
      let b : n.manager ≡ (serve m₀ from.manager id).manager = rw e at v.manager in
      let f : Filling no_notice tasks n.notices n.count [] (told from ++ (serve m₀ from.manager id).notices) = rw e at v.told in
      let y : Notices (serve m₀ from.manager id).manager (told from ++ (serve m₀ from.manager id).notices) n =
      record { manager = b; notices = fill_end no_notice tasks n.notices n.count _ f; count = fill_count no_notice tasks n.notices n.count _ f } in (
        record { memory = u.memory ∙ rw x (rw e at v.memory); told = y; ready = ready_told _ _ n y v.asking v.places v.fits },
        u.sited,
      )

  module _ (w : ℕ × Notice) (e : t ≡ Some w) where
    place : (w.0 ≡ first_of id n.manager.waiters) × (w.0 < tasks)
    place = turn_place m n.manager id w (sym u.turn ∙ e)

    -- there is a place for the notice
    pub serve_room : n.count < tasks
    serve_room = omega (arith, v.fits, used_less n.manager id w.0 v.places place.0 place.1)

    pub serve_more : length out ≡ length m → (d : Manager) → d ≡ dequeue n.manager w.0
        → Serving m₀ id r from.manager (told from) from.count out d (set n.notices n.count w.1) (n.count + 1)
    serve_more len d x =
        let k = from.count in
        let z : tasks + k - n.count ≡ suc (tasks + k - (n.count + 1)) = omega (arith, serve_room) in
        let o : out ≡ taken m (region_of n.manager id) (need_first n.manager id) = u.memory ∙ rw e in
        let y : serve_up_to (tasks + k - n.count) m n.manager id ≡ telling w.1 (serve_up_to (tasks + k - (n.count + 1)) out d id) =
        rw (z, x, o) (up_turn (tasks + k - (n.count + 1)) m n.manager id ∙ rw (← u.turn, e)) in
        record {
          from = omega (arith, v.from);
          size = len ∙ v.size;
          sited = u.sited;
          region = v.region ∙ rw (x, same_region n.manager w.0 id);
          asking = rw x (asking_less n.manager w.0 v.asking);
          places = ap (λ (q : Manager). length q.waiters) x ∙ places_same n.manager w.0 ∙ v.places;
          fits = omega (arith, v.fits, ap (λ (q : Manager). used q.waiters) x, used_less n.manager id w.0 v.places place.0 place.1);
          memory = rw y at v.memory;
          manager = rw y at v.manager;
          told = fill_put no_notice tasks n.notices n.count _ _ _ serve_room (rw y at v.told);
        }

    -- and one less waits
    pub serve_less : (d : Manager) → d ≡ dequeue n.manager w.0 → used d.waiters < used n.manager.waiters
    serve_less d x = omega (arith, ap (λ (q : Manager). used q.waiters) x, used_less n.manager id w.0 v.places place.0 place.1)

-- ---- serving before which nobody was told

pub fresh_ready : (m : List ℕ) (t : Noticed) → sound m t.manager ≡ true → Fresh t → Ready t
fresh_ready m t ok f =
    ready_told t.manager [] t f.nobody (sound_asking m t.manager ok) f.places
    (omega (arith, f.nobody.count, count_most (λ (w : Waiter). not (eqb w.task 0)) t.manager.waiters))

-- what is left then
pub served_left : (before : Noticed) (s : Served) (m : List ℕ) (n : Noticed) → Notices before.manager [] before → Serves before s m n → (v : ℕ)
    → from_served v s ≡ finished m n (Ok v)
served_left before s m n e x v =
    let o : Notices s.manager s.notices n = rw (notices_told before.manager [] before e) at x.told in
    rw (x.memory, o.manager, notices_told s.manager s.notices n o)
