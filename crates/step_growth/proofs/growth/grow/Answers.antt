-- `step_growth::growth::grow` meets its contract: what the links passed give was made. Assumes nothing.
use mathlib.Core.Path.{refl}
use mathlib.Core.List.{[]}
use native.Mathlib.Omega.{arith}
use Rattle.session_meaning.specs.Bytes.{link_count}
use Rattle.step_growth.proofs.Gathering.{grown-none, passing-ready, passing-next, passing-over}
use Rattle.step_growth.proofs.Following.{grow-fitting, grow-end}
use Rattle.step_growth.proofs.growth.grow.Goals as goal

pub by_rows-requires-clause-some_grown : goal.by_rows-requires-clause-some_grown
by_rows-requires-clause-some_grown c = (
  passing-ready c.loop-i.invariant ([], grown-none c.clear.ensures),
  grow-fitting c.args.file.now c.args.session.now c.args.symbol c.loop-i.i (omega arith) c.requires.1,
)

pub returns-in_err-clash : goal.returns-in_err-clash
returns-in_err-clash c =
    let over = passing-next c.loop-i.invariant c.in_err-clash.ensures in
    rw c.from_residual.ensures
    (grow-end c.args.file.now c.args.session.now c.args.symbol
    (passing-over over (link_count c.args.session.now) (omega arith)) refl (grown-none c.clear.ensures))

pub loop-i-preserved : goal.loop-i-preserved
loop-i-preserved c = passing-next c.loop-i.invariant c.in_ok-clash.ensures

pub returns : goal.returns
returns c = grow-end c.args.file.now c.args.session.now c.args.symbol c.loop-i.invariant (omega arith)
    (grown-none c.clear.ensures)
