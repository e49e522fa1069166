-- `step_drafts::keeping::place` meets its contract. Assumes nothing.
use mathlib.Core.Path.{◌≡◌, ◌∙◌, sym}
use Prim.Native.Nat.{◌-◌}
use native.Mathlib.Omega.{arith}
use borrow.Author.Rules.{rules}
use Rattle.step_drafts.proofs.Putting.{told-below, told-from, place-edge}
use Rattle.step_drafts.proofs.keeping.place.Goals as goal

pub returns-then-is_lt : goal.returns-then-is_lt
returns-then-is_lt c =
    let lt = told-below c.compare.ensures (sym c.is_lt.ensures ∙ c.if-is_lt.true) in
    place-edge c.requires.0 c.requires.1 c.requires.2 (omega arith)
    (λ i e. let f : i ≡ c.args.n - 1 = omega arith in rw f lt) (λ h. absurd (omega arith))

pub returns : goal.returns
returns c =
    place-edge c.requires.0 c.requires.1 c.requires.2 c.first_not.ensures.within
    (λ i e. let h = c.first_not.ensures.before i e in search (rules, told-below))
    (λ l. let h = c.first_not.ensures.onward l in search (rules, told-from))
