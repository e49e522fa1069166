use Rattle.words.proofs.Agreed.{Agreed}
use Rattle.words.proofs.beginning.common_length.Given as goal

abbrev pub invariant-loop-i : goal.invariant-loop-i
invariant-loop-i l = Agreed l.a l.b l.i
