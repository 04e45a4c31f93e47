-- What the methods of a writer ask and ensure. Assumes nothing.
use Rattle.std.specs.Prelude.{ℕ, ◌+◌, ◌≤◌, ◌≡◌, List, length}
use Rattle.run.specs.declared.output.Writer.{Writer}
use Rattle.run.specs.Output.{Puts}

-- room for n bytes more
abbrev pub Room : ℕ → Writer → Type 0
Room n w = w.len + n ≤ length w.out.now

-- the text, of at most `most` bytes, was put behind what was written into the same buffer
pub record Wrote (most : ℕ) (text : List ℕ) (w v : Writer) : Type 0 where
  pub puts : Puts most w.out.now w.len text v.out.now v.len
  pub size : length v.out.now ≡ length w.out.now
  pub same : v.out.ghost_name ≡ w.out.ghost_name
