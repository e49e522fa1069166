use Rattle.std.specs.Prelude.{Some}
use Rattle.join_shelf.specs.Shelved.{word_at}
use Rattle.join.specs.Gathering.{mark_of, given_from}
use Rattle.join.proofs.Passing.{Passing}
use Rattle.join.proofs.gathering.return_rows.Given as goal

abbrev pub invariant-loop-i : goal.invariant-loop-i
invariant-loop-i l =
    Passing (λ i. given_from l.first l.second l.at.row l.at.state (mark_of (word_at l.marks i))) l.initial.rows
    (Some l.initial.made) l.i l.rows (Some l.made)
