-- `join_file::put_head` meets its contract. Assumes nothing.
use native.Mathlib.Omega.{arith}
use Rattle.join_file.proofs.File.{depth_small}
use Rattle.join_file.proofs.put_head.Goals as goal

pub overflow_cast-depth : goal.overflow_cast-depth
overflow_cast-depth c = omega (arith, c.depth_cap-depth.ensures, depth_small _ c.requires.0.first)
