-- `session_bytes::unused` meets its contract. Assumes nothing.
use native.Mathlib.Omega.{arith}
use Rattle.session_meaning.proofs.Clear.{unused-behind}
use Rattle.session_bytes.proofs.unused.Goals as goal

pub returns-else-behind_pieces : goal.returns-else-behind_pieces
returns-else-behind_pieces c = grind (arith, unused-behind)
