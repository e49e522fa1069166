use Prim.Native.Nat.{ℕ, ◌<◌}
use Rattle.table.specs.File.{row_at, table_of}
use Rattle.join_nesting.specs.Nesting.{RowNests}
use Rattle.join_nesting.proofs.rows_nest.Given as goal

abbrev pub invariant-loop-i : goal.invariant-loop-i
invariant-loop-i l = (m : ℕ) → m < l.i → RowNests (table_of l.second).class (table_of l.first) (row_at l.first m)
