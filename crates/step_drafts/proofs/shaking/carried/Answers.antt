-- `step_drafts::shaking::carried` meets its contract. Assumes nothing.
use native.Mathlib.Omega.{arith}
use Rattle.words.proofs.Exact.{no-exact}
use Rattle.step_drafts.proofs.Shaken.{not-high}
use Rattle.step_drafts.proofs.shaking.carried.Goals as goal

pub returns-then-level : goal.returns-then-level
returns-then-level c =
    no-exact
    (λ h.
    not-high c.requires c.loop-i.i (omega arith) c.loop-i.invariant c.level.ensures.0 c.if-level.true h)
