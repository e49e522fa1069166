-- `table::read::first_row` meets its contract: rows rise, so that they turn once. Assumes nothing.
use mathlib.Core.Path.{refl}
use native.Mathlib.Omega.{arith}
use Rattle.std.proofs.Common.{rules}
use Rattle.words.proofs.Exact.{granted, denied}
use Rattle.table.proofs.Symbols.{turns}
use Rattle.table.proofs.read.first_row.Goals as goal

pub returns : goal.returns
returns c =
    turns c.args.file.now c.requires.rows (omega arith)
    (λ k e. granted (let h = c.first_not.ensures.before k e in search rules) refl)
    (λ w. denied (let h = c.first_not.ensures.onward (omega arith) in search rules) refl)
