use Rattle.links.proofs.Levelled.{Found}
use Rattle.links.proofs.levels.find.Given as goal

abbrev pub invariant-loop-i : goal.invariant-loop-i
invariant-loop-i l = Found l.bytes l.starts l.i
