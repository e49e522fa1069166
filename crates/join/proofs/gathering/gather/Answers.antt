-- `join::gathering::gather` meets its contract. Assumes nothing.
use mathlib.Core.List.{[]}
use native.Mathlib.Omega.{arith}
use Rattle.table.specs.File.{row_count}
use Rattle.join.proofs.Passing.{passing-ready, passing-next, passing-end, passing-out}
use Rattle.join.proofs.Given.{given-all}
use Rattle.join.proofs.gathering.gather.Goals as goal

pub gather_row-requires-clause-some_shelved : goal.gather_row-requires-clause-some_shelved
gather_row-requires-clause-some_shelved c = passing-ready c.loop-row.invariant ([], c.start-made.ensures _)

pub loop-row-preserved : goal.loop-row-preserved
loop-row-preserved c = passing-next c.loop-row.invariant c.in_ok-made.ensures

pub returns-in_err-made : goal.returns-in_err-made
returns-in_err-made c =
    rw c.from_residual.ensures
    (passing-out (passing-next c.loop-row.invariant c.in_err-made.ensures) (row_count c.args.first.now) (omega arith)
    (given-all c.args.wanted c.args.first.now c.args.second.now) [] (c.start-made.ensures _))

pub returns : goal.returns
returns c = passing-end c.loop-row.invariant (row_count c.args.first.now) (omega arith)
    (given-all c.args.wanted c.args.first.now c.args.second.now) [] (c.start-made.ensures _)
