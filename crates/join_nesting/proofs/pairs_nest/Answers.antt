-- `join_nesting::pairs_nest` meets its contract. Assumes nothing.
use native.Mathlib.Omega.{arith}
use borrow.Author.Count.{below_more}
use Rattle.words.proofs.Exact.{yes-exact, no-exact, denied, granted}
use Rattle.join_nesting.proofs.ByRow.{row-among, rows-each}
use Rattle.join_nesting.proofs.pairs_nest.Goals as goal

pub loop-j-init : goal.loop-j-init
loop-j-init c = λ m l. absurd (omega arith)

pub returns-then-not-pair_nests : goal.returns-then-not-pair_nests
returns-then-not-pair_nests c = no-exact (λ h.
    denied c.pair_nests.ensures c.if-not-pair_nests.true (h.each _ (row-among _ _ (omega arith))))

pub loop-j-preserved : goal.loop-j-preserved
loop-j-preserved c = below_more _ _ c.loop-j.invariant
    (granted c.pair_nests.ensures c.if-not-pair_nests.false)

pub returns : goal.returns
returns c = yes-exact (record { each = rows-each _ _ (λ j l. c.loop-j.invariant j (omega arith)) })
