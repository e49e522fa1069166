-- What is left of the word, twice: a reading and a branch come one after the other.
use Rattle.std.proofs.Common.{◌+◌, ◌*◌, ◌≤◌, length, get_or}
use Rattle.std.specs.Prelude.{Some}
use Rattle.table.specs.Calls.{RowsFrom}
use Rattle.join.specs.Reading.{config_of, marks_of, Untouched}
use Rattle.join.proofs.Findings.{by_row}
use Rattle.join.proofs.Passing.{Passing}
use Rattle.join.proofs.reading.+branch_read.Given as goal

abbrev pub decreases-branch : goal.decreases-branch
decreases-branch l = 2 * length l.rest.now + 2

abbrev pub decreases-read : goal.decreases-read
decreases-read l = 2 * length l.word.now + 1

abbrev pub invariant-read-loop-row : goal.invariant-read-loop-row
invariant-read-loop-row l = record {
  rows :
      RowsFrom l.second (get_or l.word 0 0) l.cursor.state l.initial.row-iterator.start l.row-iterator.end;
  from : l.initial.row-iterator.start ≤ l.row-iterator.start;
  within : l.row-iterator.start ≤ l.row-iterator.end;
  kept : Untouched l.initial.tape l.cursor.end l.tape;
  passed : Passing
      (by_row l.second (marks_of l.marks l.goal) l.goal (get_or l.word 0 0) l.rest (config_of l.cursor l.initial.tape))
      l.initial.rows (Some l.initial.made) l.row-iterator.start l.rows (Some l.made);
}
