-- Texts that are written one after another: `Wrote` of each gives `Wrote` of all (`wrote_append`). Assumes nothing.
use mathlib.Core.Path.{◌≡◌, refl, sym, ◌∙◌, ap}
use Prim.Native.Nat.{ℕ, suc, ◌+◌, ◌*◌, ◌≤◌, ◌<◌}
use mathlib.Core.List.{List, [], ◌∷◌, ◌++◌, append-nil, append_assoc}
use native.Mathlib.Nat.{add-suc, suc-add, add-zero}
use native.Mathlib.Numerals.{add-one}
use native.Mathlib.Omega.{arith}
use lib.ListN.{length, get_or, take, drop, set, length-append}
use lib.Seq.{sets, sets-eq, length-sets, drop-drop, take-suc}
use mathlib.Core.Bool.{Bool, true, false, cond}
use lib.Dec.{eqb}
use borrow.Author.Tests.{eq-eqb, ne_eqb}
use Rattle.manager.specs.Record.{no_notice}
use Rattle.manager.specs.declared.Notice.{Notice}
use Rattle.run.specs.declared.output.Writer.{Writer}
use Rattle.run.specs.Output.{Puts, notice_text, notices_text, most_notice}
use Rattle.run.specs.Writer.{Room, Wrote}

sets_append : (l xs ys : List ℕ) (i : ℕ) → sets l i (xs ++ ys) ≡ sets (sets l i xs) (i + length xs) ys
sets_append l [] ys i = rw add-zero
sets_append l (x ∷ xs) ys i = sets_append (set l i x) xs ys (suc i) ∙ rw (add-suc, suc-add)

puts_append : {m n : ℕ} {a b c x y : List ℕ} {at e f : ℕ} → Puts m a at x b e → Puts n b e y c f → Puts (m + n) a at (x ++ y) c f
puts_append {m} {n} {a} {b} {c} {x} {y} {at} {e} {f} p q =
    let pe = p.ends in
    let pw = p.within in
    let qe = q.ends in
    let qw = q.within in
    record {
      stores = q.stores ∙ rw (p.stores, p.ends) (sym (sets_append a x y at));
      ends = omega (arith, length-append x y);
      within = omega arith;
    }

pub puts_most : {m n : ℕ} {a b x : List ℕ} {at e : ℕ} → m ≤ n → Puts m a at x b e → Puts n a at x b e
puts_most {m} {n} {a} {b} {x} {at} {e} h p =
    let w = p.within in
    record { stores = p.stores; ends = p.ends; within = omega arith }

pub wrote_append : {m n : ℕ} {x y : List ℕ} {u v w : Writer} → Wrote m x u v → Wrote n y v w → Wrote (m + n) (x ++ y) u w
wrote_append p q = record { puts = puts_append p.puts q.puts; size = q.size ∙ p.size; same = q.same ∙ p.same }

pub wrote_most : {m n : ℕ} {x : List ℕ} {u v : Writer} → m ≤ n → Wrote m x u v → Wrote n x u v
wrote_most h p = record { puts = puts_most h p.puts; size = p.size; same = p.same }

pub wrote_nothing : (n : ℕ) (u : Writer) → Wrote n [] u u
wrote_nothing n u = record { puts = record { stores = refl; ends = omega arith; within = omega arith }; size = refl; same = refl }

-- the room that is left
pub room_left : (n : ℕ) {m k : ℕ} {x : List ℕ} {u v : Writer} → Wrote m x u v → m + n ≤ k → Room k u → Room n v
room_left n {m} {k} {x} {u} {v} p h r =
    let w = p.puts.within in
    let s = p.size in
    omega arith

-- a text that was stored behind what was written, or copied into its place
wrote_stores : (t : List ℕ) {u v : Writer} → v.out.now ≡ sets u.out.now u.len t → v.len ≡ u.len + length t → v.out.ghost_name ≡ u.out.ghost_name → Wrote (length t) t u v
wrote_stores t {u} {v} e l s = record { puts = record { stores = e; ends = l; within = omega arith }; size = ap (λ (x : List ℕ). length x) e ∙ length-sets u.out.now u.len t; same = s }

pub copied : (t : List ℕ) {u v : Writer} (k : ℕ) (ys : List ℕ) →
    ys ≡ t →
    k ≡ length t →
    Room (length t) u →
    v.out.now ≡ take u.len u.out.now ++ (ys ++ drop k (drop u.len u.out.now)) →
    v.len ≡ u.len + length t →
    v.out.ghost_name ≡ u.out.ghost_name →
    Wrote (length t) t u v
copied t {u} {v} k ys e f h g l s =
    wrote_stores t (g ∙ rw (e, f, drop-drop) (sym (sets-eq t u.out.now u.len h ∙ append_assoc (take u.len u.out.now) t (drop (u.len + length t) u.out.now)))) l s

-- ---- the notices, one more

notices_snoc : (ns : List Notice) (n : Notice) → notices_text (ns ++ (n ∷ [])) ≡ notices_text ns ++ notices_text (n ∷ [])
unfolding notices_text
notices_snoc [] n = refl
notices_snoc (x ∷ ns) n = go (eqb x.task 0) (notices_snoc ns n)
  where
    go : (t : Bool) → notices_text (ns ++ (n ∷ [])) ≡ notices_text ns ++ notices_text (n ∷ []) → cond t (notices_text (ns ++ (n ∷ []))) (notice_text x ++ notices_text (ns ++ (n ∷ []))) ≡ cond t (notices_text ns) (notice_text x ++ notices_text ns) ++ notices_text (n ∷ [])
    go true e = e
    go false e = rw e (sym (append_assoc (notice_text x) (notices_text ns) (notices_text (n ∷ []))))

module _ (ns : List Notice) (i : ℕ) {u v : Writer} (h : i < length ns) (p : Wrote (most_notice * i) (notices_text (take i ns)) u v) where
  next : notices_text (take (i + 1) ns) ≡ notices_text (take i ns) ++ notices_text (get_or ns i no_notice ∷ [])
  next = rw (add-one, take-suc ns i no_notice h, notices_snoc)

  pub notice_unused : (get_or ns i no_notice).task ≡ 0 → Wrote (most_notice * (i + 1)) (notices_text (take (i + 1) ns)) u v
  unfolding notices_text
  notice_unused e = rw (next, eq-eqb _ _ e, append-nil) (wrote_most (omega arith) p)

  pub notice_used : {w : Writer} → ((get_or ns i no_notice).task ≡ 0 → ⊥) → Wrote most_notice (notice_text (get_or ns i no_notice)) v w → Wrote (most_notice * (i + 1)) (notices_text (take (i + 1) ns)) u w
  unfolding notices_text
  notice_used e q = rw (next, ne_eqb _ _ e, append-nil) (wrote_most (omega arith) (wrote_append p q))
