use Rattle.session_meaning.specs.Numbers.{Weighed}
use Rattle.links.proofs.weigh.longest.Given as goal

abbrev pub invariant-loop-i : goal.invariant-loop-i
invariant-loop-i l = Weighed l.bytes l.loads l.i
