-- `sets::without_lowest` meets its contract: the lowest digit that is 1 is cleared. Assumes nothing.
use Prim.Native.Nat.{◌-◌}
use native.Mathlib.Omega.{arith}
use lib.Bits.{and_le_r}
use Rattle.sets.proofs.Members.{none, others}
use Rattle.sets.proofs.without_lowest.Goals as goal

pub returns-then-set-eq0 : goal.returns-then-set-eq0
returns-then-set-eq0 c = (rw (c.if-set-eq0.true, none), omega arith)

pub returns : goal.returns
returns c = let n = c.args.set in (others n c.ranges.set.fits (omega arith), and_le_r n (n - 1))
