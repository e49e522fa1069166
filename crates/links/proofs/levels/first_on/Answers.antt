-- `links::levels::first_on` meets its contract. Assumes nothing.
use Rattle.std.proofs.Common.{rules, arith, ◌≡◌, ◌+◌}
use Rattle.std.proofs.lemmas.Iterator.{first_from_Range}
use borrow.Author.Tests.{tests}
use Rattle.session_meaning.specs.Numbers.{foot_at, level_of}
use Rattle.links.proofs.Levelled.{found_in, foot-after, foot-before}
use Rattle.links.proofs.levels.first_on.Goals as goal

pub returns : goal.returns
returns c =
    let at = foot_at c.args.bytes.now in
    let levels = c.requires.0 in
    let within = levels.within (level_of c.args.below + 1) in
    found_in c.find.result (omega arith)
    (λ k l e. omega (arith, foot-after levels c.args.below k l e))
    (λ k l e. omega (arith, foot-before levels c.args.below k l e))
    (first_from_Range _ _ _ c.find.result (λ k. at k ≡ c.args.below) (λ k. at k ≡ c.args.below → ⊥) c.find.ensures.ran
    (λ x q k. search (rules, tests)) (λ x q k. search (rules, tests)))
