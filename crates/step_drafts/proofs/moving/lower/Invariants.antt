use Rattle.step_drafts.proofs.Carried.{Lowering}
use Rattle.step_drafts.proofs.moving.lower.Given as goal

abbrev pub invariant-loop-i : goal.invariant-loop-i
invariant-loop-i l = Lowering l.initial.work l.first l.i l.work
