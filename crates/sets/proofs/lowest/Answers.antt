-- `sets::lowest` meets its contract: the zeros below the lowest digit that is 1 are its number. Assumes nothing.
use Rattle.sets.proofs.Members.{first, first_some}
use Rattle.sets.proofs.lowest.Goals as goal

pub returns : goal.returns
returns c = record { value = first _ c.ranges.set.fits; upper_bound = first_some _ c.ranges.set.fits }
