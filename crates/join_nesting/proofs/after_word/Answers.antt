-- `join_nesting::after_word` meets its contract. Assumes nothing.
use native.Mathlib.Omega.{arith}
use Rattle.join_nesting.proofs.Levels.{read-start, read_next, read-end}
use Rattle.join_nesting.proofs.after_word.Goals as goal

pub loop-symbol-init : goal.loop-symbol-init
loop-symbol-init c = read-start _ _ _

pub after_symbol-requires : goal.after_symbol-requires
after_symbol-requires c = let r = c.loop-symbol.invariant in
    (c.requires.0, omega arith)

pub loop-symbol-preserved : goal.loop-symbol-preserved
loop-symbol-preserved c = read_next _ c.loop-symbol.invariant (omega arith) (c.in_ok-many.ensures)

pub returns : goal.returns
returns c = read-end _ c.loop-symbol.invariant (omega arith)
