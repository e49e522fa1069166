-- The fields are put one behind the other.
use Rattle.words.proofs.Puts.{appended-next}
use Rattle.rewrite_lines.proofs.text.put_line.Goals as goal

pub returns : goal.returns
returns c =
    let two = appended-next c.put_field-second.ensures c.put_field-third.ensures in
    let four = appended-next (appended-next two c.put_field-fourth.ensures) c.put_field-fifth.ensures in
    rw (c.from.ensures, c.from-2.ensures) at (appended-next four c.put_last.ensures)
