-- `sets::has` meets its contract: a shift and a mask leave the digit. Assumes nothing.
use mathlib.Core.Path.{sym, ap, ◌∙◌}
use Prim.Native.Nat.{◌/◌, ◌^◌, ℕ}
use lib.Dec.{eqb}
use lib.Bits.{and_mask}
use borrow.Author.Tests.{le-ltb}
use Rattle.sets.proofs.Members.{far}
use Rattle.sets.proofs.has.Goals as goal

pub returns-then-i-lt64 : goal.returns-then-i-lt64
returns-then-i-lt64 c = ap (λ (x : ℕ). eqb x 1) (and_mask (c.args.set / 2 ^ c.args.i) 1)

pub returns-else-i-lt64 : goal.returns-else-i-lt64
returns-else-i-lt64 c = le-ltb _ _ c.if-i-lt64.false ∙ sym (far _ _ c.ranges.set.fits c.if-i-lt64.false)
