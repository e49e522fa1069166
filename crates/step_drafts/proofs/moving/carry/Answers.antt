-- `step_drafts::moving::carry` meets its contract. Assumes nothing.
use Rattle.step_drafts.proofs.Rooms.{five-small, drew-moved}
use Rattle.step_drafts.proofs.moving.carry.Goals as goal

pub write-requires-clause-bytes : goal.write-requires-clause-bytes
write-requires-clause-bytes c = (c.requires.2, five-small c.requires.2 c.read-link.ensures)

pub returns : goal.returns
returns c = (
  c.write.ensures.wrote,
  drew-moved c.write.ensures _ c.read-link.ensures c.long-long.ensures.0
      c.start-at.ensures.0,
)
