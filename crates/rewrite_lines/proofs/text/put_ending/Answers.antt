-- What is put behind one another is the line.
use Rattle.words.proofs.Puts.{appended-next}
use Rattle.rewrite_lines.proofs.text.put_ending.Goals as goal

pub returns : goal.returns
returns c =
    rw c.from.ensures at
    (appended-next (appended-next c.put_bytes-second.ensures c.put_field-third.ensures) c.put_last.ensures)
