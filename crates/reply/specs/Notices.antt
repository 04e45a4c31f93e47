-- The record and the notices that serving or a tick leaves. Assumes nothing.
use Rattle.std.specs.Prelude.{◌+◌, ◌≡◌, List, length, set, take}
use Rattle.manager.specs.Record.{tasks, no_notice}
use Rattle.manager.specs.Result.{pad}
use Rattle.manager.specs.declared.Manager.{Manager}
use Rattle.manager.specs.declared.Notice.{Notice}
use Rattle.reply.specs.declared.Noticed.{Noticed}

pub record Notices (d : Manager) (ns : List Notice) (n : Noticed) : Type 0 where
  pub manager : n.manager ≡ d
  pub notices : n.notices ≡ pad tasks no_notice ns
  pub count : n.count ≡ length ns

-- the notices that are told: those in the used places
abbrev pub told : Noticed → List Notice
told n = take n.count n.notices

-- no place behind them is used
abbrev pub Padded : Noticed → Type 0
Padded n = Notices n.manager (told n) n

-- with one notice more, behind the others
abbrev pub with_notice : Noticed → Notice → Noticed
with_notice n x = record { manager = n.manager; notices = set n.notices n.count x; count = n.count + 1 }
