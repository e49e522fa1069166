-- `step_growth::growth::add` meets its contract. Assumes nothing.
use mathlib.Core.Path.{refl}
use mathlib.Core.Logic.{inl, inr}
use Rattle.step_growth.proofs.Gathering.{gathered-rises, gathered-same, gathered-other, gathered-new}
use Rattle.step_growth.proofs.Gathering.{gathered-full}
use Rattle.step_growth.proofs.Gathering.{grown-made, grown-full}
use Rattle.step_growth.proofs.growth.add.Goals as goal

pub put-requires-clause-drafted : goal.put-requires-clause-drafted
put-requires-clause-drafted c = let g = c.requires.some_grown.0.1.made _ refl in
    (g.drafts, gathered-rises g, c.requires.some_grown.1)

pub returns-in-Same : goal.returns-in-Same
returns-in-Same c = λ made g.
    let h = g.made _ refl in
    grown-made
    (elim c.in-Same.is [
      | inl is ↦ gathered-same h c.put.ensures is
      | inr is ↦ gathered-new h c.put.ensures is
    ])

pub returns-in-Other : goal.returns-in-Other
returns-in-Other c = λ made g. grown-made (gathered-other (g.made _ refl) c.put.ensures c.in-Other.is)

pub returns-in-Full : goal.returns-in-Full
returns-in-Full c = λ made g. grown-full (gathered-full (g.made _ refl) c.put.ensures c.in-Full.is)
