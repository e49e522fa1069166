-- `links::levels::first_with` meets its contract. Assumes nothing.
use Rattle.std.proofs.Common.{rules, arith, ◌≡◌, ◌+◌, ◌-◌, ap}
use Rattle.std.proofs.lemmas.Iterator.{first_from_Range}
use borrow.Author.Tests.{tests}
use Rattle.session_meaning.specs.Numbers.{seat_at, start_of, level_of}
use Rattle.links.proofs.Levelled.{found_in, seat-after, seat-before}
use Rattle.links.proofs.levels.first_with.Goals as goal

pub returns : goal.returns
returns c =
    let at = seat_at c.args.bytes.now in
    let levels = c.requires.0 in
    let level = level_of c.args.above in
    let within = levels.within level in
    let start = start_of c.args.starts.now in
    let end : start (level - 1 + 1) ≡ start level = ap start (omega arith) in
    found_in c.find.result (omega arith)
    (λ k l e. omega (arith, seat-after levels c.args.above k l e))
    (λ k l e. omega (arith, seat-before levels c.args.above k l e))
    (first_from_Range _ _ _ c.find.result (λ k. at k ≡ c.args.above) (λ k. at k ≡ c.args.above → ⊥) c.find.ensures.ran
    (λ x q k. search (rules, tests)) (λ x q k. search (rules, tests)))
