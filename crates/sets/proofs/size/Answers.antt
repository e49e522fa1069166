-- `sets::size` meets its contract: as many digits are 1 as there are members. Assumes nothing.
use Rattle.sets.proofs.Members.{count}
use Rattle.sets.proofs.size.Goals as goal

pub returns : goal.returns
returns c = count c.args.set c.ranges.set.fits
