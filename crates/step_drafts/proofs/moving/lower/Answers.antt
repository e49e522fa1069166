-- `step_drafts::moving::lower` meets its contract. Assumes nothing.
use mathlib.Core.Path.{refl}
use native.Mathlib.Omega.{arith}
use Rattle.step_drafts.proofs.Carried.{lowering-none, lowering-more, lowering-all}
use Rattle.step_drafts.proofs.moving.lower.Goals as goal

pub loop-i-init : goal.loop-i-init
loop-i-init c = lowering-none _ _

pub loop-i-preserved : goal.loop-i-preserved
loop-i-preserved c = let carry = c.carry.ensures in
    lowering-more _ c.loop-i.invariant refl (omega arith) carry.0 carry.1

pub returns : goal.returns
returns c = lowering-all _ c.loop-i.invariant (omega arith)
