use Rattle.table.specs.File.{table_of}
use Rattle.session_meaning.proofs.Passed.{Risen}
use Rattle.session.proofs.rules.links.Given as goal

abbrev pub invariant-loop-i : goal.invariant-loop-i
invariant-loop-i l = Risen (table_of l.file) l.session l.i l.least
