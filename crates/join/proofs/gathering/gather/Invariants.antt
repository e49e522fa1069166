use Rattle.std.specs.Prelude.{Some}
use Rattle.join.specs.Gathering.{given_by}
use Rattle.join.proofs.Passing.{Passing}
use Rattle.join.proofs.gathering.gather.Given as goal

abbrev pub invariant-loop-row : goal.invariant-loop-row
invariant-loop-row l =
    Passing (given_by l.wanted l.first l.second) l.initial.rows (Some l.initial.made) l.row l.rows (Some l.made)
