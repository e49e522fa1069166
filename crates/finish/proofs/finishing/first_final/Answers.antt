-- `finish::finishing::first_final` meets its contract. Assumes nothing.
use Rattle.std.proofs.Common.{rules, arith, ◌≡◌, ◌<◌, ◌≤◌, ℕ, true, false, List}
use Rattle.std.specs.Prelude.{Option, None, Some, MatchOption}
use Rattle.std.proofs.lemmas.Iterator.{first_from_Range}
use borrow.Author.Tests.{tests}
use Rattle.session_meaning.specs.Bytes.{link_count}
use Rattle.finish.specs.Finishing.{final_at, FoundFinal}
use Rattle.finish.proofs.finishing.first_final.Goals as goal

-- what a search over the places of all links says
found : (finals : ℕ) (session : List ℕ) {n : ℕ} (r : Option ℕ) → n ≡ link_count session
    → MatchOption r ((k : ℕ) → 0 ≤ k → k < n → final_at finals session k ≡ false)
    (λ i. (0 ≤ i) × (i < n) × (final_at finals session i ≡ true)
    × ((k : ℕ) → 0 ≤ k → k < i → final_at finals session k ≡ false))
    → FoundFinal finals session r
found finals session None e h = λ k l. h k (omega arith) (omega arith)
found finals session (Some i) e h =
    record { within = omega arith; before = λ k l. h.3 k (omega arith) l; here = h.2 }

pub returns : goal.returns
returns c =
    let at = final_at c.args.finals c.args.session.now in
    found c.args.finals c.args.session.now c.find.result c.count.ensures.value.0
    (first_from_Range _ _ _ c.find.result (λ k. at k ≡ true) (λ k. at k ≡ false) c.find.ensures.ran
    (λ x q k. search (rules, tests)) (λ x q k. search (rules, tests)))
