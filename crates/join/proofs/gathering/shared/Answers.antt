-- `join::gathering::shared` meets its contract. Assumes nothing.
use Rattle.join.proofs.Given.{from_byte, to-byte}
use Rattle.join.proofs.gathering.shared.Goals as goal

pub pair_number-from-requires : goal.pair_number-from-requires
pair_number-from-requires c = (c.requires.small.hops.second, from_byte c.requires c.row_from.ensures)

pub pair_number-base-requires : goal.pair_number-base-requires
pair_number-base-requires c = (c.requires.small.hops.second, to-byte c.requires c.row_to.ensures)
