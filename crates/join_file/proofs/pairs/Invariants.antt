use Rattle.join_file.proofs.Sets.{Pairing}
use Rattle.join_file.proofs.pairs.Given as goal

abbrev pub invariant-loop-rest : goal.invariant-loop-rest
invariant-loop-rest l = Pairing l.one l.other l.n l.all l.rest

abbrev pub decreases-loop-rest : goal.decreases-loop-rest
decreases-loop-rest l = l.rest
