-- `step_drafts::settling::cut` meets its contract. Assumes nothing.
use mathlib.Core.Path.{◌≡◌}
use native.Mathlib.Omega.{arith}
use Rattle.session_meaning.specs.Bytes.{link_count}
use Rattle.step_drafts.proofs.Cut.{cut-start, turn-fits, turn-next}
use Rattle.step_drafts.proofs.settling.cut.Goals as goal

pub loop-i-init : goal.loop-i-init
loop-i-init c = (c.count-i-end.ensures.value.0, cut-start _)

pub cut_one-requires : goal.cut_one-requires
cut_one-requires c =
    let few = c.requires.0.drafts.few in
    let fits = turn-fits c.requires.0 c.requires.1 c.loop-i.invariant.1 (omega arith) c.cut_by-many.ensures in
    (omega arith, fits.0, fits.1)

pub loop-i-preserved : goal.loop-i-preserved
loop-i-preserved c = let inv = c.loop-i.invariant in (
  inv.0,
  turn-next c.requires.0 c.requires.1 inv.1 (omega arith) c.cut_by-many.ensures c.cut_one.ensures,
)

pub returns : goal.returns
returns c = let inv = c.loop-i.invariant in
    let e : c.loop-i.i ≡ link_count c.args.work.now = omega arith in
    rw (← e) inv.1
