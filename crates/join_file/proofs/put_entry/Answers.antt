-- `join_file::put_entry` meets its contract. Assumes nothing.
use Rattle.words.proofs.Puts.{appended-next}
use Rattle.join_file.proofs.put_entry.Goals as goal

pub returns : goal.returns
returns c =
    rw (c.to_le_bytes.ensures, c.to_le_bytes-2.ensures) at (appended-next c.put_bytes-next.ensures c.put_bytes.ensures)
