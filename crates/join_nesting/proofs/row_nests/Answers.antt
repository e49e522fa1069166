-- `join_nesting::row_nests` meets its contract. Assumes nothing.
use mathlib.Core.Path.{sym, ap, ◌∙◌}
use Rattle.table.specs.Calls.{meant}
use Rattle.join_nesting.proofs.ByRow.{row-inner}
use Rattle.join_nesting.proofs.row_nests.Goals as goal

pub returns-in-Internal : goal.returns-in-Internal
returns-in-Internal c = row-inner (sym c.row_class.ensures ∙ ap meant c.in-Internal.is)
    (rw (← c.row_word-word.ensures) c.closes.ensures)
