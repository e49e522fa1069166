use Rattle.std.specs.Prelude.{Some}
use Rattle.step_growth.specs.Growing.{uncovered}
use Rattle.step_growth.proofs.Gathering.{Passing}
use Rattle.step_growth.proofs.growth.follow_return.Given as goal

abbrev pub invariant-loop-j : goal.invariant-loop-j
invariant-loop-j l =
    Passing (uncovered l.file l.session l.i l.r) l.initial.work (Some l.initial.clash) l.j l.work (Some l.clash)
