use Rattle.step_drafts.proofs.Groups.{Narrowing}
use Rattle.step_drafts.proofs.settling.common_on.Given as goal

abbrev pub invariant-loop-i : goal.invariant-loop-i
invariant-loop-i l = Narrowing l.work l.foot l.at l.i l.length
