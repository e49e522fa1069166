-- `join_file::write` meets its contract. Assumes nothing.
use Rattle.words.specs.Calls.{Appended}
use Rattle.words.proofs.Puts.{appended-next}
use Rattle.join_file.proofs.File.{front, rows_fit, words-fit, all-put}
use Rattle.join_file.proofs.write.Goals as goal
use Rattle.join_file.proofs.write.Goals.{After-put_sets-body}

-- what is put before the rows
front-put : (c : After-put_sets-body)
    → Appended c.args.out.now 0 (front c.requires) c.put_sets-body.result c.put_sets-body.new.out
front-put c =
    let two = appended-next c.put_head-contents.ensures c.put_entries-classes.ensures in
    appended-next (appended-next two c.put_bytes-starting.ensures) c.put_sets-body.ensures

pub put_rows-words-requires-clause-room : goal.put_rows-words-requires-clause-room
put_rows-words-requires-clause-room c =
    rows_fit c.requires (front-put (goal.at.put_rows-words-requires-clause-room c).After-put_sets-body)

pub put_words-requires-clause-room : goal.put_words-requires-clause-room
put_words-requires-clause-room c =
    let before = front-put (goal.at.put_words-requires-clause-room c).After-put_sets-body in
    words-fit c.requires (appended-next before c.put_rows-words.ensures)

pub returns : goal.returns
returns c =
    let before = front-put (goal.at.returns c).After-put_sets-body in
    all-put c.requires (appended-next (appended-next before c.put_rows-words.ensures) c.put_words.ensures)
