-- `step_growth::growth::follow_return` meets its contract: what the links passed give was made. Assumes nothing.
use mathlib.Core.Path.{refl}
use native.Mathlib.Omega.{arith}
use Rattle.session_meaning.specs.Bytes.{link_count}
use Rattle.step_growth.proofs.Gathering.{passing-ready, passing-next, passing-over}
use Rattle.step_growth.proofs.Following.{return-fitting, return-end, return-stop}
use Rattle.step_growth.proofs.growth.follow_return.Goals as goal

pub returns-then-level : goal.returns-then-level
returns-then-level c =
    return-stop c.args.file.now c.args.session.now c.args.i c.args.r c.requires.usable.0 c.loop-j.invariant (omega arith)
    (omega arith)

pub uncover-requires-clause-some_grown : goal.uncover-requires-clause-some_grown
uncover-requires-clause-some_grown c = (
  passing-ready c.loop-j.invariant c.requires.some_grown.0,
  return-fitting c.args.file.now c.args.session.now c.args.i c.args.r c.loop-j.j (omega arith) c.requires.some_grown.1,
)

pub returns-in_err-clash : goal.returns-in_err-clash
returns-in_err-clash c =
    let over = passing-next c.loop-j.invariant c.in_err-clash.ensures in
    rw c.from_residual.ensures
    (return-end c.args.file.now c.args.session.now c.args.i c.args.r
    (passing-over over (link_count c.args.session.now) (omega arith)) refl)

pub loop-j-preserved : goal.loop-j-preserved
loop-j-preserved c = passing-next c.loop-j.invariant c.in_ok-clash.ensures

pub returns : goal.returns
returns c = return-end c.args.file.now c.args.session.now c.args.i c.args.r c.loop-j.invariant (omega arith)
