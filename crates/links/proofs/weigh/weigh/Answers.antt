-- `links::weigh::weigh` meets its contract: the piece and what stands on it are the load. Assumes nothing.
use mathlib.Core.Path.{◌≡◌}
use Prim.Native.Nat.{◌+◌}
use native.Mathlib.Omega.{arith}
use Rattle.session_meaning.specs.Numbers.{load_at}
use Rattle.links.proofs.Weighed.{loads-small, heaviest-load, weighed-next}
use Rattle.links.proofs.Levelled.{heaviest-from, seat-past}
use Rattle.links.proofs.weigh.weigh.Goals as goal
use Rattle.links.proofs.weigh.weigh.Goals.{After-long-own}

load : (c : After-long-own)
    → c.long-own.result + c.most_on-above.result ≡ load_at c.args.bytes.now c.args.i
load c =
    let levels = c.requires.levelled.0 in
    let past = seat-past levels _ c.requires.i_bound.0 c.seat.ensures in
    heaviest-load _ levels.small c.long-own.ensures.0 c.seat.ensures
    (heaviest-from levels c.most_on-above.ensures (omega (arith, past)))

pub overflow_add-loads : goal.overflow_add-loads
overflow_add-loads c =
    omega (
      arith,
      load (goal.at.overflow_add-loads c).After-long-own,
      loads-small c.requires.levelled.1 _ c.requires.i_bound.0,
      c.requires.levelled.0.graded.few,
    )

pub overflow_cast-loads : goal.overflow_cast-loads
overflow_cast-loads c =
    omega (
      arith,
      load (goal.at.overflow_cast-loads c).After-long-own,
      loads-small c.requires.levelled.1 _ c.requires.i_bound.0,
      c.requires.levelled.0.graded.few,
    )

pub returns : goal.returns
returns c =
    weighed-next _ c.requires.i_bound.1 (omega (arith, c.requires.levelled.0.graded.few))
    (load (goal.at.returns c).After-long-own)
