use Rattle.words.specs.Calls.{Appended}
use Rattle.meaning.specs.Runs.{said}
use Rattle.join_file.specs.Written.{rows_in}
use Rattle.join_file.proofs.put_words.Given as goal

abbrev pub invariant-loop-i : goal.invariant-loop-i
invariant-loop-i l = Appended l.initial.out l.at (said (rows_in l.rows l.i)) l.end l.out
