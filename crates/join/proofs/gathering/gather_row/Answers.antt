-- `join::gathering::gather_row` meets its contract. Assumes nothing.
use native.Mathlib.Omega.{arith}
use Rattle.table.specs.File.{table_of}
use Rattle.join.proofs.Passing.{passing-next, passing-end, passing-out}
use Rattle.join.proofs.Given.{by-states}
use Rattle.join.proofs.gathering.gather_row.Goals as goal

pub loop-state-preserved : goal.loop-state-preserved
loop-state-preserved c = passing-next c.loop-state.invariant c.in_ok-made.ensures

pub returns-in_err-made : goal.returns-in_err-made
returns-in_err-made c =
    rw c.from_residual.ensures
    (passing-out (passing-next c.loop-state.invariant c.in_err-made.ensures) (table_of c.args.second.now).states
    (omega arith) (by-states c.args.wanted c.args.first.now c.args.second.now c.args.row))

pub returns : goal.returns
returns c = passing-end c.loop-state.invariant (table_of c.args.second.now).states (omega arith)
    (by-states c.args.wanted c.args.first.now c.args.second.now c.args.row)
