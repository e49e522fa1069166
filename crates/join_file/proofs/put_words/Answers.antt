-- `join_file::put_words` meets its contract. Assumes nothing.
use native.Mathlib.Omega.{arith}
use Rattle.join_file.proofs.Rows.{word_room, word-put}
use Rattle.join_file.proofs.put_words.Goals as goal

pub put_bytes-end-requires : goal.put_bytes-end-requires
put_bytes-end-requires c =
    word_room c.args.rows.now _ c.loop-i.i c.word-key.ensures c.loop-i.invariant c.args.count c.requires.room (omega arith)

pub loop-i-preserved : goal.loop-i-preserved
loop-i-preserved c = word-put c.args.rows.now _ c.loop-i.i c.word-key.ensures c.loop-i.invariant c.put_bytes-end.ensures
