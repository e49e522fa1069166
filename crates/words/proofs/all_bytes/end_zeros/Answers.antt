-- `words::all_bytes::end_zeros` meets its contract. Assumes nothing.
use native.Mathlib.Nat.{sub-zero}
use Rattle.words.proofs.Cleared.{ends-exact}
use Rattle.words.proofs.all_bytes.end_zeros.Goals as goal

pub returns : goal.returns
returns c = ends-exact _ _ c.requires.0 c.requires.1 (rw sub-zero at c.together.ensures) c.together-2.ensures
