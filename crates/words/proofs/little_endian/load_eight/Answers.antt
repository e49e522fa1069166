-- `words::little_endian::load_eight` meets its contract. Assumes nothing.
use native.Mathlib.Nat.{add_assoc}
use native.Mathlib.Omega.{arith}
use Rattle.words.specs.LittleEndian.{eight}
use Rattle.words.proofs.little_endian.load_eight.Goals as goal

pub returns : goal.returns
unfolding eight
returns c = simp add_assoc (omega arith)
