-- `join_nesting::rows_nest` meets its contract. Assumes nothing.
use native.Mathlib.Omega.{arith}
use borrow.Author.Count.{below_more}
use Rattle.words.proofs.Exact.{yes-exact, no-exact, denied, granted}
use Rattle.join_nesting.proofs.ByRow.{row-among, rows-each}
use Rattle.join_nesting.proofs.rows_nest.Goals as goal

pub loop-i-init : goal.loop-i-init
loop-i-init c = λ m l. absurd (omega arith)

pub returns-then-not-row_nests : goal.returns-then-not-row_nests
returns-then-not-row_nests c = no-exact (λ h.
    denied c.row_nests.ensures c.if-not-row_nests.true (h.each _ (row-among _ _ (omega arith))))

pub loop-i-preserved : goal.loop-i-preserved
loop-i-preserved c = below_more _ _ c.loop-i.invariant
    (granted c.row_nests.ensures c.if-not-row_nests.false)

pub returns : goal.returns
returns c = yes-exact (record { each = rows-each _ _ (λ j l. c.loop-i.invariant j (omega arith)) })
