-- `join::gathering::return_rows` meets its contract. Assumes nothing.
use native.Mathlib.Omega.{arith}
use Rattle.join.proofs.Passing.{passing-next, passing-end, passing-out}
use Rattle.join.proofs.FromMarks.{returns-all}
use Rattle.join.proofs.gathering.return_rows.Goals as goal

pub loop-i-preserved : goal.loop-i-preserved
loop-i-preserved c = passing-next c.loop-i.invariant c.in_ok-made.ensures

pub returns-in_err-made : goal.returns-in_err-made
returns-in_err-made c =
    rw c.from_residual.ensures
    (passing-out (passing-next c.loop-i.invariant c.in_err-made.ensures) c.args.count (omega arith)
    (returns-all c.requires.all_marks c.args.at.row c.args.at.state c.requires.at.1))

pub returns : goal.returns
returns c = passing-end c.loop-i.invariant c.args.count (omega arith)
    (returns-all c.requires.all_marks c.args.at.row c.args.at.state c.requires.at.1)
