-- `step_drafts::settling::common_on` meets its contract. Assumes nothing.
use mathlib.Core.Path.{refl}
use Prim.Native.Nat.{◌+◌, ◌≤◌}
use native.Mathlib.Nat.{add-sub_cancel_left}
use native.Mathlib.Omega.{arith}
use Rattle.session_meaning.specs.Bytes.{link_count}
use Rattle.session_meaning.specs.Numbers.{level_of}
use Rattle.step_drafts.proofs.Groups.{common-none, narrowing-start, narrowing-more, common-some}
use Rattle.step_drafts.proofs.settling.common_on.Goals as goal
use Rattle.step_drafts.proofs.settling.common_on.Goals.{After-part-i-end}

pub returns-in_default : goal.returns-in_default
returns-in_default c = (omega arith, common-none _ c.in_default.ensures refl)

pub loop-i-init : goal.loop-i-init
loop-i-init c = let told = c.in-Some.ensures in
    narrowing-start _ told.0 c.requires.0 told.1 c.start-at.ensures.0 c.long-length.ensures.0

-- the level's end
end-low : (c : After-part-i-end) → c.part-i-end.result.end ≤ link_count c.args.work.now
end-low c = let w = c.requires.1.within (level_of c.args.foot + 1) in omega (arith, c.part-i-end.ensures.1)

pub loop-i-preserved : goal.loop-i-preserved
loop-i-preserved c =
    let e = end-low (goal.at.loop-i-preserved c).After-part-i-end in
    narrowing-more c.loop-i.invariant (omega arith) c.narrowed-length.ensures

pub returns : goal.returns
returns c =
    let g = c.loop-i.invariant in
    (omega arith, rw add-sub_cancel_left (common-some c.requires.1 g (omega (arith, c.part-i-end.ensures.1))))
