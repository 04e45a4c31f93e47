-- Serving the regions in all slots, one after the other: each is sited when its turn comes, and what is left to serve from a slot on gives
-- what serving from the first one on gives. Assumes nothing.
use Prim.Native.Nat.{ℕ, suc, ◌+◌, ◌-◌, ◌≤◌, ◌<◌}
use mathlib.Core.Path.{◌≡◌, refl, sym, ap, ◌∙◌}
use mathlib.Core.List.{List, ◌++◌, append-nil, append_assoc}
use native.Mathlib.Numerals.{add-one}
use native.Mathlib.Omega.{arith}
use lib.ListN.{length, get_or}
use mir.Syntax.{w32}
use mir.Val.{Fits}
use borrow.Author.Tests.{eq-eqb, ne_eqb}
use Rattle.manager.specs.Record.{slots, no_region, region_of, id_of}
use Rattle.manager.specs.Serve.{Served, quiet, behind, serve, serve_slot, serve_slots, serve_all}
use Rattle.manager.specs.Sound.{Sited, Sites}
use Rattle.manager.specs.declared.Region.{Region}
use Rattle.manager.specs.declared.Notice.{Notice}
use Rattle.manager.proofs.Laws.Ids.{slot_object}
use Rattle.manager.proofs.Laws.Sites.{sites_served}
use Rattle.objects.proofs.Laws.{unmapped, id_fits}
use Rattle.reply.specs.Notices.{told}
use Rattle.reply.specs.declared.Noticed.{Noticed}
use Rattle.reply.proofs.Laws.{notices_told}
use Rattle.segments.specs.Serving.{Ready, Serves}

-- ---- one slot

module _ (m : List ℕ) (before : Noticed) (s : Sites m before.manager) (a : Ready before) (i : ℕ) (h : i < slots) (r : Region)
    (er : r ≡ get_or before.manager.regions i no_region) where
  -- an empty one
  pub slot_none : r.name ≡ 0 → Serves before (serve_slot m before.manager i) m before × Sites m before.manager
  unfolding serve_slot
  slot_none e = (
    rw (← er, eq-eqb r.name 0 e)
        (record {
          memory = refl;
          told = record { manager = refl; notices = a.notices.notices ∙ rw append-nil; count = a.notices.count ∙ rw append-nil };
          ready = a;
        }),
    s,
  )

  -- a live one, under its id
  module _ (named : r.name ≡ 0 → ⊥) where
    pub slot_sited : Sited m r
    slot_sited = rw er (s.sited i h (λ e. named (ap (λ (x : Region). x.name) er ∙ e)))

    -- the id fits
    pub slot_fits : (v : ℕ) → v ≡ id_of i r.generation → Fits w32 v
    slot_fits v e = id_fits i r.generation v h (omega (arith, s.generation i h, ap (λ (x : Region). x.generation) er)) e

    module _ (id : ℕ) (ei : id ≡ id_of i r.generation) where
      live : (get_or before.manager.regions i no_region).name ≡ 0 → ⊥
      live e = named (ap (λ (x : Region). x.name) er ∙ e)

      pub slot_region : r ≡ region_of before.manager id
      slot_region =
          er ∙ sym (slot_object (λ r. r.name) (λ r. r.generation) no_region before.manager.regions i h live)
          ∙ rw (ei, er)

      pub slot_served : (out : List ℕ) (n : Noticed)
          → Serves before (serve m before.manager id) out n × Sited out r
          → Serves before (serve_slot m before.manager i) out n × Sites out n.manager
      unfolding serve_slot
      slot_served out n x =
          let d = before.manager in
          let e : id ≡ id_of i (get_or d.regions i no_region).generation = ei ∙ rw er in
          let o : out ≡ (serve m d id).memory = x.0.memory in (
            rw (ne_eqb (get_or d.regions i no_region).name 0 live, ← e) x.0,
            rw (x.0.told.manager, o) (sites_served m d s i h live id e (rw (← er, ← o) x.1)),
          )

pub ruleset slot = (unmapped, slot_none, slot_sited, slot_fits, slot_region, slot_served)

-- ---- all slots

-- notices before notices
behind_behind : (ns ms : List Notice) (s : Served) → behind ns (behind ms s) ≡ behind (ns ++ ms) s
behind_behind ns ms s = ap (λ (l : List Notice). record { memory = s.memory; manager = s.manager; notices = l }) (sym (append_assoc ns ms s.notices))

-- what is left to serve from slot i on, behind the notices so far, gives what serving all gives behind those before
pub record Rounds (m₀ : List ℕ) (before : Noticed) (m : List ℕ) (n : Noticed) (i : ℕ) : Type 0 where
  pub within : i ≤ slots
  pub size : length m ≡ length m₀
  pub sites : Sites m n.manager
  pub ready : Ready n
  pub left : behind (told n) (serve_slots (slots - i) m n.manager i) ≡ behind (told before) (serve_all m₀ before.manager)

pub rounds_start : (m : List ℕ) (before : Noticed) → Sites m before.manager → Ready before → Rounds m before m before 0
unfolding serve_all
rounds_start m before s a = record { within = omega arith; size = refl; sites = s; ready = a; left = refl }

module _ (m₀ : List ℕ) (before : Noticed) (m : List ℕ) (n : Noticed) (i : ℕ) (v : Rounds m₀ before m n i) where
  pub rounds_next : i < slots → (out : List ℕ) (n' : Noticed) → Serves n (serve_slot m n.manager i) out n' × Sites out n'.manager
      → length out ≡ length m → Rounds m₀ before out n' (i + 1)
  unfolding serve_slots
  rounds_next h out n' x l =
      let s = serve_slot m n.manager i in
      let z : slots - i ≡ suc (slots - suc i) = omega arith in
      let e : told n' ≡ told n ++ s.notices = notices_told s.manager (told n ++ s.notices) n' x.0.told in
      let y : behind (told n) (serve_slots (slots - i) m n.manager i) ≡ behind (told n ++ s.notices) (serve_slots (slots - suc i) s.memory s.manager (suc i)) =
      rw z (behind_behind (told n) s.notices (serve_slots (slots - suc i) s.memory s.manager (suc i))) in
      record {
        within = omega arith;
        size = l ∙ v.size;
        sites = x.1;
        ready = x.0.ready;
        left = rw (e, x.0.memory, x.0.told.manager, add-one i) (sym y ∙ v.left);
      }

  pub rounds_done : slots ≤ i → Serves before (serve_all m₀ before.manager) m n
  unfolding serve_slots
  rounds_done h =
      let z : slots - i ≡ 0 = omega arith in
      let q : behind (told n) (quiet m n.manager) ≡ behind (told before) (serve_all m₀ before.manager) = rw z at v.left in
      let ns : told n ≡ told before ++ (serve_all m₀ before.manager).notices = sym (append-nil (told n)) ∙ ap (λ (s : Served). s.notices) q in
      record {
        memory = ap (λ (s : Served). s.memory) q;
        told = record { manager = ap (λ (s : Served). s.manager) q; notices = rw (← ns) v.ready.notices.notices; count = rw (← ns) v.ready.notices.count };
        ready = v.ready;
      }

pub ruleset rounds = (unmapped, rounds_start, rounds_next, rounds_done)
