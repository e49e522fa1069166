use Rattle.step.specs.Writing.{Written}
use Rattle.step_drafts.specs.Drafts.{drafts_of}
use Rattle.step.proofs.write.write_places.Given as goal

abbrev pub invariant-loop-p : goal.invariant-loop-p
invariant-loop-p l = Written (drafts_of l.work) l.initial.session l.p l.session
