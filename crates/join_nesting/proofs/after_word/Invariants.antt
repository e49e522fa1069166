use Rattle.table.specs.File.{table_of}
use Rattle.join_nesting.proofs.Levels.{Read}
use Rattle.join_nesting.proofs.after_word.Given as goal

abbrev pub invariant-loop-symbol : goal.invariant-loop-symbol
invariant-loop-symbol l = Read (table_of l.second).class l.word l.from l.symbol-index l.many
