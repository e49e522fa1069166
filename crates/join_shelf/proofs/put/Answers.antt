-- `join_shelf::put` meets its contract. Assumes nothing.
use Rattle.join_shelf.proofs.Laws.{gathers-full}
use Rattle.join_shelf.proofs.put.Goals as goal

pub returns-in_err-shelf : goal.returns-in_err-shelf
returns-in_err-shelf c = rw c.from_residual.ensures (gathers-full _ c.in_err-shelf.was)
