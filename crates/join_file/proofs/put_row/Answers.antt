-- `join_file::put_row` meets its contract. Assumes nothing.
use Rattle.words.proofs.Puts.{appended-next}
use Rattle.join_file.proofs.Rows.{key-put}
use Rattle.join_file.proofs.put_row.Goals as goal

pub returns : goal.returns
returns c = key-put c.args.start c.args.key.now c.requires.1
    (appended-next c.put_bytes-next.ensures c.put_entry.ensures)
