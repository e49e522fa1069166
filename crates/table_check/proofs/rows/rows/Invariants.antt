use Rattle.table.proofs.Passed.{Passed}
use Rattle.table_check.proofs.rows.rows.Given as goal

abbrev pub invariant-loop-i : goal.invariant-loop-i
invariant-loop-i l = Passed l.file l.i l.last
