-- `join_shelf::place` meets its contract: a search ends there. Assumes nothing.
use Rattle.join_shelf.proofs.place.Goals as goal

pub returns-in-Ok : goal.returns-in-Ok
returns-in-Ok c = (c.seek.ensures.found _ c.in-Ok.is).0

pub returns-in-Err : goal.returns-in-Err
returns-in-Err c = (c.seek.ensures.missed _ c.in-Err.is).0
