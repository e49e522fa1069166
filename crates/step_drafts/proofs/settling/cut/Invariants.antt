use mathlib.Core.Path.{◌≡◌}
use Rattle.session_meaning.specs.Bytes.{link_count}
use Rattle.step_drafts.specs.Drafts.{CutTo}
use Rattle.step_drafts.proofs.settling.cut.Given as goal

abbrev pub invariant-loop-i : goal.invariant-loop-i
invariant-loop-i l = (l.i-end ≡ link_count l.initial.work) × CutTo l.initial.work l.i l.work
