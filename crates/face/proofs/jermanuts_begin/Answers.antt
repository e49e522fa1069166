use native.Mathlib.Omega.{arith}
use Rattle.session.proofs.Began.{begun-few}
use Rattle.face.proofs.jermanuts_begin.Goals as goal

-- A fresh session starts in few states.
pub overflow_cast-states : goal.overflow_cast-states
overflow_cast-states c = grind (arith, begun-few c.begin-answer.ensures)
