use Rattle.session_meaning.proofs.Started.{Starting}
use Rattle.session.proofs.fresh.start.Given as goal

abbrev pub invariant-loop-i : goal.invariant-loop-i
invariant-loop-i l = Starting l.set l.i l.rest l.session
