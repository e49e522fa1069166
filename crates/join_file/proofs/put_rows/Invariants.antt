use Rattle.join_file.proofs.Rows.{RowsPut}
use Rattle.join_file.proofs.put_rows.Given as goal

abbrev pub invariant-loop-i : goal.invariant-loop-i
invariant-loop-i l = RowsPut l.rows l.initial.out l.at l.i l.out l.end l.start
