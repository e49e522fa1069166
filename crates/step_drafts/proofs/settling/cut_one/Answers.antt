-- `step_drafts::settling::cut_one` meets its contract. Assumes nothing.
use native.Mathlib.Omega.{arith}
use Rattle.step_drafts.proofs.Cut.{cut-one}
use Rattle.step_drafts.proofs.settling.cut_one.Goals as goal

pub returns : goal.returns
returns c = cut-one c.args.work.now _ c.args.i _ _ c.args.many (omega arith) c.requires.0 c.long-long.ensures.0
    c.start-at.ensures.0 (omega (arith, c.long-long.ensures.0))
    (omega (arith, c.long-long.ensures.0, c.start-at.ensures.0)) c.set_length.ensures
    c.set_start.ensures c.long-long.ensures.1
