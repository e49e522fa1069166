-- `links::weigh::most_on` meets its contract: the links before j are looked at. Assumes nothing.
use mathlib.Core.Path.{ap}
use Prim.Native.Nat.{ℕ, ◌+◌}
use native.Mathlib.Omega.{arith}
use lib.ListN.{get_or}
use Rattle.session_meaning.specs.Numbers.{foot_at, level_of}
use Rattle.links.proofs.Weighed.{sought-past, sought-met}
use Rattle.links.proofs.Levelled.{sought-ended}
use Rattle.links.proofs.weigh.most_on.Goals as goal

pub loop-j-preserved-then-foot-below : goal.loop-j-preserved-then-foot-below
loop-j-preserved-then-foot-below c = let inv = c.loop-j.invariant in
    let within = c.requires.levelled.0.within (level_of c.args.below + 1) in
    let next = c.in-Some.ensures.steps.1 in
    let load = ap (λ (k : ℕ). get_or c.args.loads.now k 0) next.1 in
    (omega arith, omega arith, rw next.2 (sought-met inv.2 (omega arith) (cc) c.requires.weighed (grind (arith, load))))

pub loop-j-preserved : goal.loop-j-preserved
loop-j-preserved c = let inv = c.loop-j.invariant in
    let within = c.requires.levelled.0.within (level_of c.args.below + 1) in
    let next = c.in-Some.ensures.steps.1 in
    let foot = ap (foot_at c.args.bytes.now) next.1 in
    (omega arith, omega arith, rw next.2 (sought-past inv.2 (omega arith) (λ e. omega arith) (omega arith)))

pub returns : goal.returns
returns c = let inv = c.loop-j.invariant in
    sought-ended c.requires.levelled.0 inv.2 (omega (arith, c.in-None.ensures.steps)) inv.1
