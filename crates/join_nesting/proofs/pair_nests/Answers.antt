-- `join_nesting::pair_nests` meets its contract. Assumes nothing.
use mathlib.Core.Path.{sym, ap, ◌∙◌}
use native.Mathlib.Omega.{arith}
use Rattle.table.specs.Calls.{meant}
use Rattle.join_nesting.proofs.ByRow.{word-short, opens-few, pair-closes}
use Rattle.join_nesting.proofs.pair_nests.Goals as goal

pub closes-requires : goal.closes-requires
closes-requires c = (c.requires.0.hops.second, opens-few c.requires.0, word-short c.requires.0.hops _ c.row_word.ensures)

pub returns-in-Return : goal.returns-in-Return
returns-in-Return c = pair-closes (sym c.row_class.ensures ∙ ap meant c.in-Return.is) (omega arith)
    c.requires.0.is
    (rw (← c.row_word.ensures) c.closes.ensures)
