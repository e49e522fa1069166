use Prim.Native.Nat.{ℕ, ◌<◌}
use Rattle.table.specs.File.{row_at, table_of}
use Rattle.join_nesting.specs.Nesting.{PairNests}
use Rattle.join_nesting.proofs.pairs_nest.Given as goal

abbrev pub invariant-loop-j : goal.invariant-loop-j
invariant-loop-j l = (m : ℕ) → m < l.j → PairNests (table_of l.second).class (table_of l.first) (row_at l.first l.i) (row_at l.first m)
