-- `step_drafts::moving::lift` meets its contract. Assumes nothing.
use mathlib.Core.Path.{◌≡◌, refl}
use native.Mathlib.Omega.{arith}
use Rattle.step_drafts.proofs.Carried.{lifted-none, lifted-more}
use Rattle.step_drafts.proofs.moving.lift.Goals as goal

pub loop-i-init : goal.loop-i-init
loop-i-init c = (omega arith, lifted-none _ _ _ (omega arith))

pub loop-i-preserved : goal.loop-i-preserved
loop-i-preserved c = let carry = c.carry.ensures in (
  omega arith,
  lifted-more _ _ c.loop-i.invariant.1 (omega arith) refl (omega arith) (omega arith) carry.0 carry.1,
)

pub returns : goal.returns
returns c = let e : c.loop-i.i ≡ c.args.at = omega arith in
    rw (← e) c.loop-i.invariant.1
