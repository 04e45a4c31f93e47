-- The kind of a region by its order, where code has asked which it is. Assumes nothing.
use mathlib.Core.Path.{◌≡◌, sym, ap, ◌∙◌}
use mathlib.Core.Bool.{Bool, true, false, cond}
use Rattle.manager.specs.Paged.{paged}
use Rattle.manager.specs.Halves.{halves}
use Rattle.manager.specs.Region.{by_halves, kind_of}
use Rattle.manager.specs.declared.Order.{Order}

module _ (o : Order) (b : Bool) (e : b ≡ by_halves o) where
  pub kind_halves : b ≡ true → kind_of o ≡ halves
  kind_halves h = ap (λ (x : Bool). cond x halves paged) (sym e ∙ h)

  pub kind_pages : b ≡ false → kind_of o ≡ paged
  kind_pages h = ap (λ (x : Bool). cond x halves paged) (sym e ∙ h)
