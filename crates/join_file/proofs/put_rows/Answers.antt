-- `join_file::put_rows` meets its contract. Assumes nothing.
use native.Mathlib.Omega.{arith}
use Rattle.join_file.proofs.Rows.{key-of, row_room, row_put}
use Rattle.join_file.proofs.put_rows.Goals as goal

pub put_row-end-requires : goal.put_row-end-requires
put_row-end-requires c = (
  row_room _ c.loop-i.invariant c.word-key.result.now c.args.count _ c.requires.room (omega arith),
  key-of _ c.requires.keys c.word-key.ensures (omega arith),
)

pub loop-i-preserved : goal.loop-i-preserved
loop-i-preserved c =
    let key = key-of _ c.requires.keys c.word-key.ensures (omega arith) in
    row_put _ c.loop-i.invariant _ c.word-key.ensures key c.put_row-end.ensures
