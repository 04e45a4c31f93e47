-- Tests in a row, all of which must hold: the first that fails answers, and after one that holds the others answer. The answer of a
-- call is told by what it ensures. Assumes nothing.
use mathlib.Core.Path.{◌≡◌, sym, ◌∙◌}
use mathlib.Core.Bool.{Bool, true, false, not, ◌&&◌}
use borrow.Author.Tests.{not-true, not-false}

module _ (a b : Bool) where
  pub and_no : a ≡ false → false ≡ (a && b)
  and_no e = rw e

  -- a call's answer
  pub told_no : b ≡ a → not b ≡ true → a ≡ false
  told_no e g = sym e ∙ not-true b g

  pub told_yes : b ≡ a → not b ≡ false → a ≡ true
  told_yes e g = sym e ∙ not-false b g

pub and_go : (v a b : Bool) → a ≡ true → v ≡ b → v ≡ (a && b)
and_go v a b e g = rw e g

pub ruleset row = (and_no, and_go, told_no, told_yes)
