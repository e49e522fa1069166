-- `session_bytes::put_entry` meets its contract. Assumes nothing.
use native.Mathlib.Omega.{arith}
use Rattle.session_bytes.proofs.Entered.{Parts, parts-made, put-over, put-behind}
use Rattle.session_bytes.proofs.put_entry.Goals as goal
use Rattle.session_bytes.proofs.put_entry.Goals.{After-copy}

-- the link's bytes, its length and its piece are there
parts_at : (c : After-copy)
    → Parts c.args.session.now c.args.i c.args.link c.args.piece.now c.copy.new.to
parts_at c = parts-made (omega arith) c.requires c.put.ensures c.copy.ensures

pub returns-then-n-old : goal.returns-then-n-old
returns-then-n-old c =
    put-behind (omega arith) c.requires c.long-old.ensures.0 (omega arith)
    (parts_at (goal.at.returns-then-n-old c).After-copy) c.clear.ensures

pub returns-else-n-old : goal.returns-else-n-old
returns-else-n-old c =
    put-over c.requires c.long-old.ensures.0 c.if-n-old.false
    (parts_at (goal.at.returns-else-n-old c).After-copy)
