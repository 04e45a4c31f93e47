-- The numbers of the choices: of an order, and of whether a get may wait. Assumes nothing.
use Rattle.std.specs.Prelude.{ℕ, cond, eqb, Result, Ok, Err}
use Rattle.manager.specs.declared.Order.{Order}
use Rattle.manager.specs.declared.Order.TheVariants.{Fifo, Priority, HalvesFifo, HalvesPriority}
use Rattle.manager.specs.declared.Wait.{Wait}
use Rattle.manager.specs.declared.Wait.TheVariants.{No, Yes}
use Rattle.manager.specs.declared.UnknownNumber.{UnknownNumber}

abbrev pub unknown : ℕ → UnknownNumber
unknown n = record { 0 = n }

-- 0 to 3, and no other number
abbrev pub order_of : ℕ → Result Order UnknownNumber
order_of n =
    cond (eqb n 0) (Ok Fifo)
    (cond (eqb n 1) (Ok Priority)
    (cond (eqb n 2) (Ok HalvesFifo)
    (cond (eqb n 3) (Ok HalvesPriority)
    (Err (unknown n)))))

-- 0 and 1, and no other number
abbrev pub wait_of : ℕ → Result Wait UnknownNumber
wait_of n = cond (eqb n 0) (Ok No) (cond (eqb n 1) (Ok Yes) (Err (unknown n)))
