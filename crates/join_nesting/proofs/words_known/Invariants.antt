use Prim.Native.Nat.{ℕ, ◌<◌}
use Rattle.table.specs.File.{row_at, table_of}
use Rattle.join_nesting.specs.Nesting.{Known}
use Rattle.join_nesting.proofs.words_known.Given as goal

abbrev pub invariant-loop-i : goal.invariant-loop-i
invariant-loop-i l = (m : ℕ) → m < l.i → Known (table_of l.second).class (row_at l.first m).word
