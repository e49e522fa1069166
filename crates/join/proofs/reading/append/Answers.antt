-- `join::reading::append` meets its contract. Assumes nothing.
use Prim.Native.Nat.{◌+◌, ◌≤◌}
use native.Mathlib.Omega.{arith}
use lib.ListN.{length, length-take}
use Rattle.table.specs.File.{row_start, word_of}
use Rattle.join.proofs.Moves.{appended}
use Rattle.join.proofs.reading.append.Goals as goal
use Rattle.join.proofs.reading.append.Goals.{After-row_word-word}

-- a byte says how long a row's word is
short : (c : After-row_word-word) → length (word_of c.args.second.now c.args.r) ≤ 255
short c = simp length-take (let n = c.type_inv.second (row_start c.args.r + 6) in omega arith)

pub returns : goal.returns
returns c = let s = short (goal.at.returns c).After-row_word-word in
    appended c.row_word-word.ensures c.put_bytes.ensures s
