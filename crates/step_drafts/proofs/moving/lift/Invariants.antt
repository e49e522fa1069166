use Prim.Native.Nat.{◌≤◌}
use Rattle.step_drafts.specs.Drafts.{Lifted}
use Rattle.step_drafts.proofs.moving.lift.Given as goal

abbrev pub invariant-loop-i : goal.invariant-loop-i
invariant-loop-i l = (l.at ≤ l.i) × Lifted l.initial.work l.i l.n l.by l.work
