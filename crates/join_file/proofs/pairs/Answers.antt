-- `join_file::pairs` meets its contract. Assumes nothing.
use Prim.Native.Nat.{◌*◌, ◌<◌}
use native.Mathlib.Omega.{arith}
use Rattle.join_file.proofs.Sets.{pairing-none, pairing-all, shift-below, pairing-more}
use Rattle.join_file.proofs.pairs.Goals as goal
use Rattle.join_file.proofs.pairs.Goals.{After-lowest-p}

-- how far is shifted
shift : (c : After-lowest-p) → c.lowest-p.result * c.args.n < 64
shift c = shift-below c.loop-rest.invariant _ (c.lowest-p.ensures.upper_bound (omega arith)).1

pub loop-rest-init : goal.loop-rest-init
loop-rest-init c = pairing-none c.requires c.ranges.other.fits

pub overflow_mul-all : goal.overflow_mul-all
overflow_mul-all c = omega (arith, shift (goal.at.overflow_mul-all c).After-lowest-p)

pub overflow_shl-all : goal.overflow_shl-all
overflow_shl-all c = shift (goal.at.overflow_shl-all c).After-lowest-p

pub loop-rest-preserved : goal.loop-rest-preserved
loop-rest-preserved c = pairing-more c.loop-rest.invariant _ (c.lowest-p.ensures.upper_bound (omega arith)).1
    c.without_lowest-rest.ensures.0

pub returns : goal.returns
returns c = pairing-all c.loop-rest.invariant (omega arith)
