-- `join_file::put_sets` meets its contract. Assumes nothing.
use mathlib.Core.Path.{◌∙◌}
use Rattle.words.proofs.Puts.{appended-next}
use Rattle.join_file.proofs.Numbers.{eight-bytes}
use Rattle.join_file.proofs.Sets.{starting-asked, final-asked, pairs-number}
use Rattle.join_file.proofs.put_sets.Goals as goal

pub pairs-starting-requires : goal.pairs-starting-requires
pairs-starting-requires c = starting-asked c.requires.0 c.states-n.ensures c.starting_set.ensures
    c.starting_set-2.ensures

pub pairs-accepting-requires : goal.pairs-accepting-requires
pairs-accepting-requires c = final-asked c.requires.0 c.states-n.ensures c.final_set.ensures
    c.final_set-2.ensures

pub returns : goal.returns
returns c = let n = c.states-n.ensures in
    let s =
    pairs-number _ _ c.pairs-starting.ensures n c.starting_set.ensures
    c.starting_set-2.ensures in
    let f =
    pairs-number _ _ c.pairs-accepting.ensures n c.final_set.ensures
    c.final_set-2.ensures in
    let a = c.to_le_bytes.ensures ∙ eight-bytes _ in
    let b = c.to_le_bytes-2.ensures ∙ eight-bytes _ in
    rw (a, b, s, f) at (appended-next c.put_bytes-next.ensures c.put_bytes.ensures)
