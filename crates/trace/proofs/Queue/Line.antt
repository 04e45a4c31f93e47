-- Lists in order, into which each newcomer is put before the first that it goes before, or at the end. What is kept of such a list is the
-- list of those kept, in the order in which they came. Assumes nothing.
use mathlib.Core.Path.{◌≡◌, refl, sym, ap, ◌∙◌, subst}
use mathlib.Core.Bool.{Bool, true, false, cond, ◌&&◌}
use mathlib.Core.List.{List, [], ◌∷◌, ◌++◌}
use mathlib.Core.Logic.{◌⊎◌, inl, inr, ◌↔◌}
use Prim.Native.Nat.{ℕ, suc, ◌+◌}
use native.Mathlib.Omega.{arith}
use lib.ListN.{length}
use Rattle.manager.proofs.Laws.Appended.{by_case}
use Rattle.manager.specs.Lists.{In}
use Rattle.trace.specs.Queue.{insert_by, insert_all}

pub true_false : (b : Bool) → b ≡ true → b ≡ false → ⊥
true_false b e f = let z : ◌≡◌ {A = ℕ} 0 1 = cc in omega arith

module _ {A : Type 0} where
  -- those that pass a test
  unfoldable pub keep : (A → Bool) → List A → List A
  keep p [] = []
  keep p (x ∷ l) = cond (p x) (x ∷ keep p l) (keep p l)

  -- none of them goes before w; w goes before each
  unfoldable pub Behind : (A → A → Bool) → A → List A → Type 0
  Behind lt w [] = Unit {0}
  Behind lt w (x ∷ q) = (lt x w ≡ false) × Behind lt w q

  unfoldable pub Ahead : (A → A → Bool) → A → List A → Type 0
  Ahead lt w [] = Unit {0}
  Ahead lt w (x ∷ q) = (lt w x ≡ true) × Ahead lt w q

  -- nobody goes before one who stands in front of him
  unfoldable pub Sorted : (A → A → Bool) → List A → Type 0
  Sorted lt [] = Unit {0}
  Sorted lt (x ∷ q) = Behind lt x q × Sorted lt q

  -- MEMBERS
  pub in_append : (x : A) (a b : List A) → In x (a ++ b) ↔ (In x a ⊎ In x b)
  unfolding In
  in_append x [] b = (λ h. inr h, λ h. elim h [ inl y ↦ absurd y | inr y ↦ y ])
  in_append x (y ∷ a) b = (
    λ h. elim h [ inl e ↦ inl (inl e) | inr k ↦ elim ((in_append x a b).0 k) [ inl z ↦ inl (inr z) | inr z ↦ inr z ] ],
    λ h. elim h [
      | inl k ↦ elim k [ inl e ↦ inl e | inr z ↦ inr ((in_append x a b).1 (inl z)) ]
      | inr z ↦ inr ((in_append x a b).1 (inr z))
    ],
  )

  pub in_keep : (p : A → Bool) (x : A) (l : List A) → In x (keep p l) ↔ (In x l × (p x ≡ true))
  unfolding In keep
  in_keep p x [] = (λ h. absurd h, λ h. absurd h.0)
  in_keep p x (y ∷ l) =
      let ih = in_keep p x l in
      by_case (p y) (λ b. In x (cond b (y ∷ keep p l) (keep p l)) ↔ (In x (y ∷ l) × (p x ≡ true)))
      (λ t. (
        λ h. elim h [ inl e ↦ (inl e, ap p (sym e) ∙ t) | inr k ↦ (inr (ih.0 k).0, (ih.0 k).1) ],
        λ h. elim h.0 [ inl e ↦ inl e | inr k ↦ inr (ih.1 (k, h.1)) ],
      ))
      (λ f. (
        λ h. (inr (ih.0 h).0, (ih.0 h).1),
        λ h. elim h.0 [ inl e ↦ absurd (true_false (p x) h.1 (ap p (sym e) ∙ f)) | inr k ↦ ih.1 (k, h.1) ],
      ))

  pub in_insert : (lt : A → A → Bool) (w x : A) (q : List A) → In x (insert_by lt w q) ↔ ((w ≡ x) ⊎ In x q)
  unfolding In insert_by
  in_insert lt w x [] = (λ h. h, λ h. h)
  in_insert lt w x (y ∷ q) =
      let ih = in_insert lt w x q in
      by_case (lt w y) (λ b. In x (cond b (w ∷ y ∷ q) (y ∷ insert_by lt w q)) ↔ ((w ≡ x) ⊎ In x (y ∷ q)))
      (λ t. (λ h. h, λ h. h))
      (λ f. (
        λ h. elim h [ inl e ↦ inr (inl e) | inr k ↦ elim (ih.0 k) [ inl z ↦ inl z | inr z ↦ inr (inr z) ] ],
        λ h. elim h [ inl e ↦ inr (ih.1 (inl e)) | inr k ↦ elim k [ inl e ↦ inl e | inr z ↦ inr (ih.1 (inr z)) ] ],
      ))

  pub in_line_lem : (lt : A → A → Bool) (x : A) (q ws : List A) → In x (insert_all lt q ws) ↔ (In x q ⊎ In x ws)
  unfolding In insert_all
  in_line_lem lt x q [] = (λ h. inl h, λ h. elim h [ inl y ↦ y | inr y ↦ absurd y ])
  in_line_lem lt x q (w ∷ ws) =
      let ih = in_line_lem lt x (insert_by lt w q) ws in
      let s = in_insert lt w x q in (
        λ h. elim (ih.0 h) [ inl k ↦ elim (s.0 k) [ inl e ↦ inr (inl e) | inr z ↦ inl z ] | inr z ↦ inr (inr z) ],
        λ h. elim h [
          | inl k ↦ ih.1 (inl (s.1 (inr k)))
          | inr k ↦ elim k [ inl e ↦ ih.1 (inl (s.1 (inl e))) | inr z ↦ ih.1 (inr z) ]
        ],
      )

  -- LENGTHS
  pub length_insert : (lt : A → A → Bool) (w : A) (q : List A) → length (insert_by lt w q) ≡ suc (length q)
  unfolding insert_by
  length_insert lt w [] = refl
  length_insert lt w (x ∷ q) =
      let ih = length_insert lt w q in
      by_case (lt w x) (λ b. length (cond b (w ∷ x ∷ q) (x ∷ insert_by lt w q)) ≡ suc (suc (length q))) (λ t. refl) (λ f. ap suc ih)

  pub length_line : (lt : A → A → Bool) (q ws : List A) → length (insert_all lt q ws) ≡ length q + length ws
  unfolding insert_all
  length_line lt q [] = omega arith
  length_line lt q (w ∷ ws) = omega (arith, length_line lt (insert_by lt w q) ws, length_insert lt w q)

  -- two orders that agree on all that is put into a line make one line
  insert_same : (f g : A → A → Bool) (w : A) (q : List A) → ((x : A) → In x q → f w x ≡ g w x) → insert_by f w q ≡ insert_by g w q
  unfolding insert_by In
  insert_same f g w [] e = refl
  insert_same f g w (x ∷ q) e = rw (e x (inl refl), insert_same f g w q (λ y h. e y (inr h)))

  pub line_same : (P : A → Type 0) (f g : A → A → Bool) → ((w x : A) → P w → P x → f w x ≡ g w x) → (q ws : List A)
      → ((x : A) → In x q → P x) → ((x : A) → In x ws → P x) → insert_all f q ws ≡ insert_all g q ws
  unfolding insert_all In
  line_same P f g e q [] a b = refl
  line_same P f g e q (w ∷ ws) a b =
      let p = b w (inl refl) in
      rw (insert_same f g w q (λ x h. e w x p (a x h)))
      (line_same P f g e (insert_by g w q) ws (λ x h. elim ((in_insert g w x q).0 h) [ inl z ↦ subst P z p | inr z ↦ a x z ]) (λ x h. b x (inr h)))

  pub line_append : (lt : A → A → Bool) (q a b : List A) → insert_all lt q (a ++ b) ≡ insert_all lt (insert_all lt q a) b
  unfolding insert_all
  line_append lt q [] b = refl
  line_append lt q (w ∷ a) b = line_append lt (insert_by lt w q) a b

  pub keep_append : (p : A → Bool) (a b : List A) → keep p (a ++ b) ≡ keep p a ++ keep p b
  unfolding keep
  keep_append p [] b = refl
  keep_append p (x ∷ a) b =
      let ih = keep_append p a b in
      by_case (p x) (λ t. cond t (x ∷ keep p (a ++ b)) (keep p (a ++ b)) ≡ cond t (x ∷ keep p a) (keep p a) ++ keep p b)
      (λ t. ap (◌∷◌ x) ih) (λ f. ih)

  -- two tests that agree on a list keep the same of it
  pub keep_same : (p r : A → Bool) (l : List A) → ((x : A) → In x l → p x ≡ r x) → keep p l ≡ keep r l
  unfolding keep In
  keep_same p r [] e = refl
  keep_same p r (x ∷ l) e = rw (e x (inl refl), keep_same p r l (λ y h. e y (inr h)))

  pub keep_all : (p : A → Bool) (l : List A) → ((x : A) → In x l → p x ≡ true) → keep p l ≡ l
  unfolding keep In
  keep_all p [] e = refl
  keep_all p (x ∷ l) e = rw (e x (inl refl), keep_all p l (λ y h. e y (inr h)))

  -- one test after the other
  pub keep_keep : (p r : A → Bool) (l : List A) → keep p (keep r l) ≡ keep (λ x. r x && p x) l
  unfolding keep
  keep_keep p r [] = refl
  keep_keep p r (x ∷ l) =
      let ih = keep_keep p r l in
      by_case (r x) (λ t. keep p (cond t (x ∷ keep r l) (keep r l)) ≡ cond (t && p x) (x ∷ keep (λ y. r y && p y) l) (keep (λ y. r y && p y) l))
      (λ t. rw ih) (λ f. ih)

  -- IN ORDER: `lt` is a strict order in which those that are not apart are alike
  pub record Strict (lt : A → A → Bool) : Type 0 where
    pub asym : (x y : A) → lt x y ≡ true → lt y x ≡ false
    pub other : (x y z : A) → lt x z ≡ true → lt y z ≡ false → lt x y ≡ true

  module _ (lt : A → A → Bool) (s : Strict lt) where
    ahead_of : (w x : A) (q : List A) → lt w x ≡ true → Behind lt x q → Ahead lt w q
    unfolding Behind Ahead
    ahead_of w x [] e b = tt
    ahead_of w x (y ∷ q) e b = (s.other w y x e b.0, ahead_of w x q e b.1)

    ahead_behind : (w : A) (q : List A) → Ahead lt w q → Behind lt w q
    unfolding Behind Ahead
    ahead_behind w [] h = tt
    ahead_behind w (x ∷ q) h = (s.asym w x h.0, ahead_behind w q h.1)

    behind_insert : (v w : A) (q : List A) → lt w v ≡ false → Behind lt v q → Behind lt v (insert_by lt w q)
    unfolding Behind insert_by
    behind_insert v w [] e b = (e, tt)
    behind_insert v w (x ∷ q) e b =
        let ih = behind_insert v w q e b.1 in
        by_case (lt w x) (λ t. Behind lt v (cond t (w ∷ x ∷ q) (x ∷ insert_by lt w q))) (λ t. (e, b)) (λ f. (b.0, ih))

    pub sorted_insert : (w : A) (q : List A) → Sorted lt q → Sorted lt (insert_by lt w q)
    unfolding Sorted Behind Ahead insert_by
    sorted_insert w [] h = (tt, tt)
    sorted_insert w (x ∷ q) h =
        let ih = sorted_insert w q h.1 in
        by_case (lt w x) (λ t. Sorted lt (cond t (w ∷ x ∷ q) (x ∷ insert_by lt w q)))
        (λ t. (ahead_behind w (x ∷ q) (t, ahead_of w x q t h.0), h))
        (λ f. (behind_insert x w q f h.0, ih))

    pub sorted_line : (q ws : List A) → Sorted lt q → Sorted lt (insert_all lt q ws)
    unfolding insert_all
    sorted_line q [] h = h
    sorted_line q (w ∷ ws) h = sorted_line (insert_by lt w q) ws (sorted_insert w q h)

    ahead_keep : (p : A → Bool) (w : A) (q : List A) → Ahead lt w q → Ahead lt w (keep p q)
    unfolding Ahead keep
    ahead_keep p w [] h = tt
    ahead_keep p w (x ∷ q) h =
        let ih = ahead_keep p w q h.1 in
        by_case (p x) (λ t. Ahead lt w (cond t (x ∷ keep p q) (keep p q))) (λ t. (h.0, ih)) (λ f. ih)

    insert_ahead : (w : A) (q : List A) → Ahead lt w q → insert_by lt w q ≡ w ∷ q
    unfolding Ahead insert_by
    insert_ahead w [] h = refl
    insert_ahead w (x ∷ q) h = rw h.0

    -- WHAT IS KEPT OF A LINE
    keep_new : (p : A → Bool) (w : A) (q : List A) → p w ≡ true → Sorted lt q → keep p (insert_by lt w q) ≡ insert_by lt w (keep p q)
    unfolding Sorted Ahead keep insert_by
    keep_new p w [] e h = rw e
    keep_new p w (x ∷ q) e h =
        let ih = keep_new p w q e h.1 in
        by_case (lt w x) (λ t. keep p (cond t (w ∷ x ∷ q) (x ∷ insert_by lt w q)) ≡ insert_by lt w (keep p (x ∷ q)))
        (λ t. rw e (sym (insert_ahead w (keep p (x ∷ q)) (ahead_keep p w (x ∷ q) (t, ahead_of w x q t h.0)))))
        (λ f. by_case (p x) (λ t. cond t (x ∷ keep p (insert_by lt w q)) (keep p (insert_by lt w q)) ≡ insert_by lt w (cond t (x ∷ keep p q) (keep p q)))
        (λ t. rw f (ap (◌∷◌ x) ih)) (λ g. ih))

    keep_not : (p : A → Bool) (w : A) (q : List A) → p w ≡ false → keep p (insert_by lt w q) ≡ keep p q
    unfolding keep insert_by
    keep_not p w [] e = rw e
    keep_not p w (x ∷ q) e =
        let ih = keep_not p w q e in
        by_case (lt w x) (λ t. keep p (cond t (w ∷ x ∷ q) (x ∷ insert_by lt w q)) ≡ keep p (x ∷ q)) (λ t. rw e) (λ f. rw ih)

    pub keep_line : (p : A → Bool) (q ws : List A) → Sorted lt q → keep p (insert_all lt q ws) ≡ insert_all lt (keep p q) (keep p ws)
    unfolding keep insert_all
    keep_line p q [] h = refl
    keep_line p q (w ∷ ws) h =
        let ih = keep_line p (insert_by lt w q) ws (sorted_insert w q h) in
        by_case (p w) (λ t. keep p (insert_all lt (insert_by lt w q) ws) ≡ insert_all lt (keep p q) (cond t (w ∷ keep p ws) (keep p ws)))
        (λ t. ih ∙ ap (λ (l : List A). insert_all lt l (keep p ws)) (keep_new p w q t h))
        (λ f. ih ∙ ap (λ (l : List A). insert_all lt l (keep p ws)) (keep_not p w q f))
