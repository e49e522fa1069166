-- `join_file::put_entries` meets its contract. Assumes nothing.
use Rattle.words.proofs.Puts.{appended-next}
use Rattle.join_file.proofs.put_entries.Goals as goal

pub returns : goal.returns
returns c = let two = appended-next c.put_entry-second.ensures c.put_entry-third.ensures in
    let three = appended-next two c.put_entry-fourth.ensures in
    appended-next (appended-next three c.put_entry-fifth.ensures) c.put_entry.ensures
