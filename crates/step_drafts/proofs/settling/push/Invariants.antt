use Rattle.step_drafts.proofs.Pushing.{Pushing}
use Rattle.step_drafts.proofs.settling.push.Given as goal

abbrev pub invariant-loop-i : goal.invariant-loop-i
invariant-loop-i l = Pushing l.initial.work l.i l.work
