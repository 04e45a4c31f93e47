-- What is shown of a directive, and how: every check passes and it acts, or one refuses. A refusal leaves the memory, the record and the
-- receipts as they were. Assumes nothing.
use Rattle.std.specs.Prelude.{Some}
use mathlib.Core.Path.{◌≡◌, refl, ap, subst}
use mathlib.Core.Bool.{Bool, true, false, not, ◌&&◌}
use mathlib.Core.List.{List, []}
use Prim.Native.Nat.{ℕ}
use native.Mathlib.Omega.{arith}
use lib.ListN.{length, get_or}
use lib.Dec.{eqb}
use borrow.Author.Tests.{not-true}
use Rattle.manager.specs.Lists.{every}
use Rattle.manager.proofs.Laws.Lists.{and_first, and_second}
use Rattle.manager.proofs.Laws.Result.{Passed, by_checks, answered_sound}
use Rattle.manager.specs.Status.{number_of}
use Rattle.manager.specs.Result.{Result, Check, replied, refused}
use Rattle.manager.specs.Regions.{answered}
use Rattle.manager.specs.declared.Manager.{Manager}
use Rattle.manager.specs.declared.Call.{Call}
use Rattle.manager.specs.declared.Information.{Information}
use Rattle.manager.specs.declared.Status.{Status}
use Rattle.manager.specs.declared.Status.TheVariants.{Successful, InternalError}
use Rattle.trace.specs.Receipts.{Receipts, RegionEntry, reply_of, all_noticed, is_success, is_waiting}
use Rattle.trace.specs.Replies.{by_receipts, note, entered, waited}
use Rattle.trace.proofs.Invariant.{Inv, OnlyMap}
use Rattle.trace.proofs.Clients.{Stays, map_stays}

-- 25; and a status that refuses: not 0, not 255 and not 25
abbrev pub damaged : Status → Bool
damaged s = eqb (number_of s) 25

abbrev pub refusing : Status → Bool
refusing s = not (is_success s) && (not (is_waiting s) && not (damaged s))

pub record Refusing (s : Status) : Type 0 where
  pub no_success : is_success s ≡ false
  pub no_waiting : is_waiting s ≡ false
  pub undamaged : damaged s ≡ false

pub refusal : (s : Status) → refusing s ≡ true → Refusing s
refusal s r =
    let h = and_second (not (is_success s)) _ r in
    record {
      no_success = not-true (is_success s) (and_first (not (is_success s)) _ r);
      no_waiting = not-true (is_waiting s) (and_first (not (is_waiting s)) _ h);
      undamaged = not-true (damaged s) (and_second (not (is_waiting s)) _ h);
    }

pub not_damaged : (s : Status) → damaged s ≡ false → ¬ (s ≡ InternalError)
not_damaged s n e =
    let f : damaged InternalError ≡ false = subst (λ (u : Status). damaged u ≡ false) e n in
    let z : ◌≡◌ {A = ℕ} 0 1 = cc in
    omega arith

abbrev pub refuses : Check → Bool
refuses c = refusing c.status

-- of sound records: what holds of the action and of each refusal holds of the answer
pub by_sound : {ok : Bool} (m : List ℕ) (d : Manager) (cs : List Check) (act : Result) → ok ≡ true → (P : Result → Type 0) → every refuses cs ≡ true
    → ((s : Status) → refusing s ≡ true → P (refused m d s)) → (Passed cs → P act) → P (answered ok m d cs act)
by_sound m d cs act e P h f g = rw (answered_sound m d cs act e) (by_checks P refusing cs (refused m d) act h f g)

-- what a call that is answered without notices enters
module _ (c : Call) (m : List ℕ) (d : Manager) (t : Receipts) where
  pub note_done : (v : ℕ) (s : Status) → is_success s ≡ true → note c (reply_of (replied m d s v)) t ≡ entered c v t
  unfolding note all_noticed
  note_done v s e = rw e

  pub note_waiting : (v : ℕ) (s : Status) → is_success s ≡ false → is_waiting s ≡ true → note c (reply_of (replied m d s v)) t ≡ waited c t
  unfolding note all_noticed
  note_waiting v s e f = rw (e, f)

  pub note_other : (v : ℕ) (s : Status) → is_success s ≡ false → is_waiting s ≡ false → note c (reply_of (replied m d s v)) t ≡ t
  unfolding note all_noticed
  note_other v s e f = rw (e, f)

-- WHAT A DIRECTIVE KEEPS: the invariant, with the receipts noted, and the words of clients; and it does not call the records damaged
pub record Kept (c : Call) (m : List ℕ) (t : Receipts) (s : Result) : Type 0 where
  pub inv : Inv s.memory s.manager (note c (reply_of s) t)
  pub stays : Stays t (note c (reply_of s) t) m s.memory
  pub undamaged : damaged s.status ≡ false

-- WHAT IS SHOWN OF A DIRECTIVE: it keeps all that, and is answered as the receipts say
pub record Right (c : Call) (m : List ℕ) (t : Receipts) (s : Result) : Type 0 where
  pub kept : Kept c m t s
  pub replies : reply_of s ≡ by_receipts (length m) t c

-- where it changes no word
pub kept_words : (c : Call) (m : List ℕ) (t : Receipts) (s : Result) → s.memory ≡ m → damaged s.status ≡ false
    → Inv s.memory s.manager (note c (reply_of s) t) → Kept c m t s
kept_words c m t s e u v = record { inv = v; stays = λ w o h. ap (λ (l : List ℕ). get_or l w 0) e; undamaged = u }

module _ (c : Call) (m : List ℕ) (d : Manager) (t : Receipts) (v : Inv m d t) where
  -- where it changes only the map of a live region
  pub kept_map : (id : ℕ) (e : RegionEntry) → t.regions id ≡ Some e → (s : Result) → OnlyMap e m s.memory → damaged s.status ≡ false
      → Inv s.memory s.manager (note c (reply_of s) t) → Kept c m t s
  kept_map id e q s o u v' = record { inv = v'; stays = λ w h h'. map_stays m d t v id e q m s.memory o w h; undamaged = u }

  -- where it enters nothing, and tells nobody
  module _ (n : ℕ) (i : Information) where
    abbrev answer : Result
    answer = record { memory = m; status = Successful; value = n; information = i; notices = []; manager = d }

    pub kept_answer : entered c n t ≡ t → Kept c m t answer
    unfolding note all_noticed
    kept_answer e = kept_words c m t answer refl refl (rw e v)

  -- a refusal keeps it, with whatever value
  pub kept_refused : (s : Status) (n : ℕ) → refusing s ≡ true → Kept c m t (replied m d s n)
  kept_refused s n r =
      let h = refusal s r in
      kept_words c m t (replied m d s n) refl h.undamaged (rw (note_other c m d t n s h.no_success h.no_waiting) v)

  -- a directive keeps it where its action does
  pub kept_checked : {ok : Bool} (cs : List Check) (act : Result) → ok ≡ true → every refuses cs ≡ true → (Passed cs → Kept c m t act)
      → Kept c m t (answered ok m d cs act)
  kept_checked cs act e h k = by_sound m d cs act e (Kept c m t) h (λ s r. kept_refused s 0 r) k
