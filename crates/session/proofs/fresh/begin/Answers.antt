-- `session::fresh::begin` meets its contract: the session is that of the table's starting states. Assumes nothing.
use mathlib.Core.Path.{refl}
use Rattle.session.proofs.Began.{begun-taken}
use Rattle.session.proofs.fresh.begin.Goals as goal

pub returns : goal.returns
returns c = let good = c.in_ok-check.ensures.good.0 refl in
    begun-taken _ good c.starting_set-set.ensures c.start.ensures c.size.ensures
