use Rattle.std.specs.Prelude.{Some}
use Rattle.step_growth.specs.Growing.{by_rows}
use Rattle.step_growth.proofs.Gathering.{Passing}
use Rattle.step_growth.proofs.growth.grow.Given as goal

abbrev pub invariant-loop-i : goal.invariant-loop-i
invariant-loop-i l =
    Passing (by_rows l.file l.session l.symbol) l.initial.work (Some l.initial.clash) l.i l.work (Some l.clash)
