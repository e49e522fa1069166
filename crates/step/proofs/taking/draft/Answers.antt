-- `step::taking::draft` meets its contract. Assumes nothing.
use mathlib.Core.Path.{refl, ◌∙◌}
use native.Mathlib.Omega.{arith}
use Rattle.step.proofs.Asked.{opened-usable, opened-fitting, opened-crowded}
use Rattle.step.proofs.Asked.{grown-empty, grown-level, grown-crowded, grown-conflict, grown-left}
use Rattle.step.proofs.taking.draft.Goals as goal

pub grow-requires : goal.grow-requires
grow-requires c = (opened-usable c.requires, opened-fitting c.requires)

pub returns-in_default : goal.returns-in_default
returns-in_default c = opened-crowded c.requires (c.in_default.ensures.full refl)

pub returns-then-count-eq0 : goal.returns-then-count-eq0
returns-then-count-eq0 c =
    let g = c.in-Some.ensures.made _ refl in
    grown-empty c.requires g (omega arith)

pub shake-requires-clause-all_at : goal.shake-requires-clause-all_at
shake-requires-clause-all_at c =
    (grown-level c.requires (c.in-Some.ensures.made _ refl), λ j k z le lt. (opened-usable c.requires).levels j k le lt)

pub returns-then-not-shake : goal.returns-then-not-shake
returns-then-not-shake c =
    let g = c.in-Some.ensures.made _ refl in
    let full = c.shake.ensures.full c.if-not-shake.true in
    grown-crowded c.requires g (λ e. c.if-count-eq0.false (c.count.ensures.value.0 ∙ e)) full

pub returns-then-clash : goal.returns-then-clash
returns-then-clash c =
    let g = c.in-Some.ensures.made _ refl in
    let d = c.shake.ensures.drafted c.if-not-shake.false in
    grown-conflict c.requires g (λ e. c.if-count-eq0.false (c.count.ensures.value.0 ∙ e)) d c.if-clash.true

pub returns : goal.returns
returns c =
    let g = c.in-Some.ensures.made _ refl in
    let d = c.shake.ensures.drafted c.if-not-shake.false in
    grown-left c.requires g (λ e. c.if-count-eq0.false (c.count.ensures.value.0 ∙ e)) d c.if-clash.false
