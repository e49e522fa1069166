-- `session::fresh::start` meets its contract: the states visited have their links. Assumes nothing.
use mathlib.Core.Path.{◌≡◌}
use Prim.Native.Nat.{◌<◌}
use native.Mathlib.Omega.{arith}
use Rattle.sets.proofs.Members.{members-le, visit-done, turn}
use Rattle.session_meaning.proofs.Started.{starting-more}
use Rattle.session.proofs.fresh.start.Goals as goal
use Rattle.session.proofs.fresh.start.Goals.{After-lowest}

-- before the end a state is next
some : (c : After-lowest) → 0 < c.loop-i.rest
some c =
    let none : c.loop-i.rest ≡ 0 → ⊥ = λ e. omega (arith, visit-done c.loop-i.invariant.visit e) in
    omega arith

pub overflow_cast-lowest : goal.overflow_cast-lowest
overflow_cast-lowest c = omega (arith, (c.lowest.ensures.upper_bound (some c)).0)

pub add_start-requires : goal.add_start-requires
add_start-requires c = omega (arith, members-le c.args.set)

pub loop-i-preserved : goal.loop-i-preserved
loop-i-preserved c =
    let low = c.lowest.ensures.upper_bound (some (goal.at.loop-i-preserved c).After-lowest) in
    starting-more c.loop-i.invariant (turn c.loop-i.invariant.visit low.1 c.without_lowest-rest.ensures.0)
    c.add_start.ensures
