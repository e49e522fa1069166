-- `join_nesting::words_known` meets its contract. Assumes nothing.
use native.Mathlib.Omega.{arith}
use borrow.Author.Count.{below_more}
use Rattle.words.specs.Lists.{Exact}
use Rattle.words.proofs.Exact.{yes-exact, no-exact, denied, granted}
use Rattle.table.specs.File.{row_at, table_of}
use Rattle.table.proofs.Passed.{good-word}
use Rattle.join_nesting.specs.Nesting.{Known}
use Rattle.join_nesting.proofs.ByRow.{row-among, rows-each}
use Rattle.join_nesting.proofs.words_known.Goals as goal
use Rattle.join_nesting.proofs.words_known.Goals.{After-all_known}

pub loop-i-init : goal.loop-i-init
loop-i-init c = λ m l. absurd (omega arith)

pub row_word-requires : goal.row_word-requires
row_word-requires c = good-word _ _ c.requires.first (omega arith)

-- what is looked at is the word of the row
looked : (c : After-all_known) →
    Exact (Known (table_of c.args.second.now).class (row_at c.args.first.now c.loop-i.i).word)
    c.all_known.result
looked c = rw (← c.row_word.ensures) c.all_known.ensures

pub returns-then-not-all_known : goal.returns-then-not-all_known
returns-then-not-all_known c = no-exact (λ h.
    denied (looked (goal.at.returns-then-not-all_known c).After-all_known) c.if-not-all_known.true
    (h.each _ (row-among _ _ (omega arith))))

pub loop-i-preserved : goal.loop-i-preserved
loop-i-preserved c = below_more _ _ c.loop-i.invariant
    (granted (looked (goal.at.loop-i-preserved c).After-all_known) c.if-not-all_known.false)

pub returns : goal.returns
returns c = yes-exact (record { each = rows-each _ _ (λ j l. c.loop-i.invariant j (omega arith)) })
