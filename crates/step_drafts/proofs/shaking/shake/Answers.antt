-- `step_drafts::shaking::shake` meets its contract. Assumes nothing.
use mathlib.Core.Path.{refl, subst}
use mathlib.Core.List.{List}
use Prim.Native.Nat.{ℕ, ◌-◌}
use native.Mathlib.Omega.{arith}
use mathlib.Core.Bool.{Bool}
use Rattle.words.proofs.Exact.{denied}
use Rattle.meaning.specs.Answers.{links_cap}
use Rattle.session_meaning.specs.Sessions.{Entry}
use Rattle.step_drafts.specs.Drafts.{drafts_in, drafts_of, shaken_over, ShakenTo}
use Rattle.step_drafts.proofs.Shaken.{shaking-start, lifted-same, shaking-met, shaking-past}
use Rattle.step_drafts.proofs.Shaken.{shaking-full}
use Rattle.step_drafts.proofs.Shaken.{shaking-end}
use Rattle.step_drafts.proofs.shaking.shake.Goals as goal
use Rattle.step_drafts.proofs.shaking.shake.Goals.{After-count-i}

pub loop-i-init : goal.loop-i-init
loop-i-init c = shaking-start c.requires.kept.1 c.count-n.ensures.value.0 refl c.lift.ensures _ c.requires.all_at.0
    c.count-i.ensures.value.0

-- what is left of those at the last places is what is left of the drafts that were there
shaken : (c : After-count-i) {r : Bool} {work : List ℕ}
    → ShakenTo (shaken_over c.args.session.now c.args.depth
    (drafts_in c.lift.new.work (64 - c.count-n.result) links_cap)) r work
    → ShakenTo (shaken_over c.args.session.now c.args.depth (drafts_of c.args.work.now)) r work
shaken c {r} {work} h =
    let e = lifted-same c.requires.kept.1 c.count-n.ensures.value.0 refl c.lift.ensures in
    subst (λ (D : List Entry). ShakenTo (shaken_over c.args.session.now c.args.depth D) r work) e h

pub returns-then-first-eq0 : goal.returns-then-first-eq0
returns-then-first-eq0 c = shaken (goal.at.returns-then-first-eq0 c).After-count-i
    (shaking-full c.requires.kept.0.small c.loop-i.invariant _ (omega arith) (c.stays.ensures.1 c.if-stays.true)
    c.if-first-eq0.true c.loop-i.work)

pub loop-i-preserved-then-stays : goal.loop-i-preserved-then-stays
loop-i-preserved-then-stays c = let left = c.if-first-eq0.false in
    shaking-met c.requires.kept.0.small c.loop-i.invariant _ (omega arith) (omega arith) c.requires.all_at.1
    (c.stays.ensures.1 c.if-stays.true) c.draft_lower.ensures

pub loop-i-preserved : goal.loop-i-preserved
loop-i-preserved c = shaking-past c.requires.kept.0.small c.loop-i.invariant _ (omega arith)
    (denied c.stays.ensures c.if-stays.false)

pub returns : goal.returns
returns c = shaken (goal.at.returns c).After-count-i
    (shaking-end c.loop-i.invariant (omega arith) refl c.lower.ensures c.set_count.ensures)
