-- `words::beginning::common_length` meets its contract: the words agree below i. Assumes nothing.
use mathlib.Core.Path.{◌≡◌, sym, ◌∙◌}
use native.Mathlib.Omega.{arith}
use Rattle.words.proofs.Agreed.{agreed-start, agreed-next, agreed-differ, agreed-end}
use Rattle.words.proofs.beginning.common_length.Goals as goal

pub loop-i-init : goal.loop-i-init
loop-i-init c = agreed-start _ _

pub returns-then-a-i : goal.returns-then-a-i
returns-then-a-i c = agreed-differ c.loop-i.invariant (omega arith) (omega arith) c.if-a-i.true

pub loop-i-preserved : goal.loop-i-preserved
loop-i-preserved c = agreed-next c.loop-i.invariant (omega arith) (omega arith) c.if-a-i.false

pub returns : goal.returns
returns c =
    let e : c.loop-i.i ≡ c.min-n.result = omega arith in
    sym e ∙ agreed-end c.loop-i.invariant (e ∙ c.min-n.ensures)
