-- `table_check::parts::classes` meets its contract. Assumes nothing.
use Rattle.table_check.proofs.Classes.{classes-exact}
use Rattle.table_check.proofs.parts.classes.Goals as goal

pub returns : goal.returns
returns c = rw c.together.ensures (classes-exact _ c.requires)
