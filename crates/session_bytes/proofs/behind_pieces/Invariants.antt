use Rattle.session_meaning.specs.Numbers.{ClearBehind}
use Rattle.session_bytes.proofs.behind_pieces.Given as goal

abbrev pub invariant-loop-i : goal.invariant-loop-i
invariant-loop-i l = ClearBehind l.session l.i
