-- `step_drafts::room::clear` meets its contract. Assumes nothing.
use native.Mathlib.Omega.{arith}
use Rattle.step_drafts.proofs.Rooms.{cleared}
use Rattle.step_drafts.proofs.room.clear.Goals as goal

pub returns : goal.returns
returns c = cleared _ (omega arith) c.set_count.ensures c.count.ensures.bytes
