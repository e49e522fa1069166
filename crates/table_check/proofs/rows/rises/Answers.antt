-- `table_check::rows::rises` meets its contract: the heads decide, and the words where they agree. Assumes nothing.
use native.Mathlib.Omega.{arith}
use Rattle.words.proofs.Exact.{exact-as}
use Rattle.table_check.proofs.Heads.{words-decide}
use Rattle.table_check.proofs.rows.rises.Goals as goal

pub returns-then-head-next-2 : goal.returns-then-head-next-2
returns-then-head-next-2 c = exact-as (λ l. record { less = l }, λ h. h.less)
    (words-decide c.requires.word_in.1 c.requires.word_in_2.1 c.compare.result (omega arith) c.row_word.ensures
    c.row_word-then-head-next-2.ensures c.compare.ensures (cc))
