-- `links::levels::find` meets its contract: the links before i are looked at. Assumes nothing.
use mathlib.Core.Path.{ap}
use Prim.Native.Nat.{ℕ, ◌+◌}
use native.Mathlib.Omega.{arith}
use Rattle.links.proofs.Levelled.{found-start, found-next, found_all}
use Rattle.links.proofs.levels.find.Goals as goal

pub loop-i-init : goal.loop-i-init
loop-i-init c = found-start _

pub loop-i-preserved : goal.loop-i-preserved
loop-i-preserved c = let level = ap (λ (k : ℕ). k + 1) c.level.ensures.0 in
    found-next c.requires c.loop-i.invariant (omega arith) _ _ level (omega arith)
    (omega (arith, c.requires.low c.loop-i.i (omega arith)))

pub returns : goal.returns
returns c = found_all c.requires c.count-i-end.ensures.bytes (omega arith) c.loop-i.invariant
