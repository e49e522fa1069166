-- `step_drafts::settling::settle` meets its contract. Assumes nothing.
use native.Mathlib.Omega.{arith}
use Rattle.step_drafts.proofs.Pushing.{same-levelled}
use Rattle.step_drafts.proofs.Cut.{ready-graded, settle-cutting, settle-levelled, settle-weighable, settled-to}
use Rattle.step_drafts.proofs.settling.settle.Goals as goal

pub find-requires : goal.find-requires
find-requires c = ready-graded c.requires

pub common_on-sent-requires : goal.common_on-sent-requires
common_on-sent-requires c = let p = c.push.ensures in
    (p.drafts, same-levelled p.links c.find.ensures, omega arith)

pub cut-requires : goal.cut-requires
cut-requires c = let p = c.push.ensures in
    let v = same-levelled p.links c.find.ensures in
    (settle-cutting c.requires p v c.common_on-sent.ensures.1, v)

pub longest-longest-requires : goal.longest-longest-requires
longest-longest-requires c = let p = c.push.ensures in
    let v = same-levelled p.links c.find.ensures in
    let on = c.common_on-sent.ensures.1 in (
      settle-levelled c.requires p v on c.cut.ensures,
      settle-weighable c.requires p v on c.cut.ensures,
    )

pub returns : goal.returns
returns c = let p = c.push.ensures in
    let v = same-levelled p.links c.find.ensures in
    settled-to c.requires p v c.common_on-sent.ensures.1 c.cut.ensures c.longest-longest.ensures
