-- `links::weigh::longest` meets its contract: the links from i on are weighed. Assumes nothing.
use native.Mathlib.Omega.{arith}
use Rattle.links.proofs.Weighed.{heaviest-longest}
use Rattle.links.proofs.Levelled.{heaviest-from}
use Rattle.links.proofs.weigh.longest.Goals as goal

pub returns : goal.returns
returns c =
    heaviest-longest c.requires.1 c.requires.0.graded.bottom
    (heaviest-from c.requires.0 c.most_on.ensures (omega arith))
