-- `step_drafts::shaking::draft_lower` meets its contract. Assumes nothing.
use mathlib.Core.Path.{refl}
use Rattle.step_drafts.proofs.Rooms.{five-small}
use Rattle.step_drafts.proofs.Shaken.{lower-more}
use Rattle.step_drafts.proofs.shaking.draft_lower.Goals as goal

pub write-requires-clause-bytes : goal.write-requires-clause-bytes
write-requires-clause-bytes c = (c.fill.ensures.bytes, five-small c.requires.kept.0.small c.read-link.ensures)

pub returns : goal.returns
returns c =
    lower-more _ c.requires.kept.0 c.requires.kept.1 c.requires.kept.2 c.requires.first_nonzero.0
    c.requires.first_nonzero.1 c.piece-piece.ensures
    c.read-link.ensures
    c.slot-slot.ensures.0 refl c.fill.ensures.written c.write.ensures c.fill.ensures.bytes
