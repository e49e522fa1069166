use Rattle.std.specs.Prelude.{Some}
use Rattle.join.specs.Gathering.{given_at}
use Rattle.join.proofs.Passing.{Passing}
use Rattle.join.proofs.gathering.gather_row.Given as goal

abbrev pub invariant-loop-state : goal.invariant-loop-state
invariant-loop-state l =
    Passing (given_at l.wanted l.first l.second l.row) l.initial.rows (Some l.initial.made) l.state l.rows (Some l.made)
