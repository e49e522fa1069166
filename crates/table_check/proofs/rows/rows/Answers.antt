-- `table_check::rows::rows` meets its contract: rows up to i fit and rise, and last is the head of i. Assumes nothing.
use native.Mathlib.Omega.{arith}
use Rattle.words.proofs.Exact.{granted}
use Rattle.table.proofs.Passed.{passed-next}
use Rattle.table_check.proofs.rows.rows.Goals as goal

pub loop-i-preserved : goal.loop-i-preserved
loop-i-preserved c =
    let fits = granted c.row_fits-in-loop-i.ensures c.if-not-row_fits-2.false in
    let rises = granted c.rises.ensures c.if-not-rises.false in
    passed-next c.loop-i.invariant (omega arith) fits c.row_head-next.ensures rises
