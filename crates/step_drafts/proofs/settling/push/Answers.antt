-- `step_drafts::settling::push` meets its contract. Assumes nothing.
use native.Mathlib.Omega.{arith}
use Rattle.step_drafts.proofs.Pushing.{pushing-start, pushing-room}
use Rattle.step_drafts.proofs.Pushing.{pushing-more, pushing-all}
use Rattle.step_drafts.proofs.settling.push.Goals as goal

pub loop-i-init : goal.loop-i-init
loop-i-init c = pushing-start c.requires.0 c.count-i.ensures.value.0

pub push_one-requires-clause-i_len_bound : goal.push_one-requires-clause-i_len_bound
push_one-requires-clause-i_len_bound c = pushing-room _ c.loop-i.invariant (omega arith) c.requires.2

pub loop-i-preserved : goal.loop-i-preserved
loop-i-preserved c = pushing-more _ c.loop-i.invariant (omega arith) c.push_one.ensures

pub returns : goal.returns
returns c = pushing-all c.loop-i.invariant (omega arith)
