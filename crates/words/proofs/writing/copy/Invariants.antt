use Rattle.words.proofs.Pasted.{Pasting}
use Rattle.words.proofs.writing.copy.Given as goal

abbrev pub invariant-loop-i : goal.invariant-loop-i
invariant-loop-i l = Pasting l.initial.to l.at l.part l.i l.to
