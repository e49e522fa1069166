use Rattle.meaning.specs.Answers.{links_cap}
use Rattle.step_drafts.specs.Drafts.{drafts_in}
use Rattle.step_drafts.proofs.Shaken.{Shaking}
use Rattle.step_drafts.proofs.shaking.shake.Given as goal

abbrev pub invariant-loop-i : goal.invariant-loop-i
invariant-loop-i l = Shaking l.session l.depth (drafts_in l.initial.work l.initial.first links_cap) l.i l.work l.first
