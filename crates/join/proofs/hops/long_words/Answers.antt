-- `join::hops::long_words` meets its contract: the words passed are not long. Assumes nothing.
use mathlib.Core.Path.{ap}
use Prim.Native.Nat.{ℕ, ◌<◌, ◌≤◌}
use native.Mathlib.Omega.{arith}
use lib.ListN.{length}
use Rattle.words.proofs.Exact.{yes-exact, no-exact}
use Rattle.table.specs.File.{row_count, word_of, row_at}
use Rattle.join_nesting.proofs.ByRow.{row-among, rows-each}
use Rattle.join.proofs.hops.long_words.Goals as goal

pub returns-then-row_word-gt16 : goal.returns-then-row_word-gt16
returns-then-row_word-gt16 c = let file = c.args.file.now in
    let i = c.loop-i.i in
    yes-exact
    (row_at file i, row-among file i (omega arith), omega (arith, ap length c.row_word.ensures))

pub returns : goal.returns
returns c = let file = c.args.file.now in
    let all : (j : ℕ) → j < row_count file → length (word_of file j) ≤ 16 =
    λ j lt. c.loop-i.invariant j (omega arith) in
    no-exact (λ l. omega (arith, l.2, rows-each file (λ r. length r.word ≤ 16) all l.0 l.1))
