use Prim.Native.Nat.{◌≤◌}
use Rattle.std.specs.Prelude.{Some}
use Rattle.table.specs.Calls.{RowsFrom}
use Rattle.session_meaning.specs.Bytes.{link_at}
use Rattle.step_growth.specs.Growing.{by_row}
use Rattle.step_growth.proofs.Gathering.{Passing}
use Rattle.step_growth.proofs.growth.by_rows.Given as goal

abbrev pub invariant-loop-r : goal.invariant-loop-r
invariant-loop-r l = record {
  rows : RowsFrom l.file l.symbol (link_at l.session l.i).here.state l.initial.r-iterator.start l.r-iterator.end;
  start : l.initial.r-iterator.start ≤ l.r-iterator.start;
  end : l.r-iterator.start ≤ l.r-iterator.end;
  passed : Passing (by_row l.file l.session l.symbol l.i) l.initial.work (Some l.initial.clash) l.r-iterator.start l.work
      (Some l.clash);
}
