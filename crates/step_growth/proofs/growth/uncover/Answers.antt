-- `step_growth::growth::uncover` meets its contract. Assumes nothing.
use mathlib.Core.Path.{◌≡◌, sym, ◌∙◌, ap}
use Prim.Native.Nat.{ℕ}
use Rattle.session_meaning.specs.Bytes.{link_at}
use Rattle.step_meaning.specs.Stepping.{moved_to}
use mathlib.Core.List.{[], ◌∷◌, ◌++◌}
use lib.ListN.{length, length-append}
use native.Mathlib.Omega.{arith}
use Rattle.step_growth.specs.Growing.{lowered, uncovered}
use Rattle.step_growth.proofs.Gathering.{added, gathers-none, gathers-as, fitting-as}
use Rattle.step_growth.proofs.Following.{fitting-only, uncovered-not, uncovered-is}
use Rattle.step_growth.proofs.growth.uncover.Goals as goal
use Rattle.step_growth.proofs.growth.uncover.Goals.{Else-seat-foot}

pub returns-then-seat-foot : goal.returns-then-seat-foot
returns-then-seat-foot c = gathers-as gathers-none (uncovered-not c.requires.usable.0 _ _ _ (λ e. omega arith))

-- the link that goes stands on this one
met : (c : Else-seat-foot)
    → lowered c.args.file.now c.args.session.now c.args.i c.args.r c.args.j ∷ []
    ≡ uncovered c.args.file.now c.args.session.now c.args.i c.args.r c.args.j
met c = uncovered-is c.requires.usable.0 _ _ _ (omega arith)

pub add-requires-clause-c_len_bound : goal.add-requires-clause-c_len_bound
add-requires-clause-c_len_bound c = let lower = ap length c.piece-lower.ensures in
    let upper = ap length c.piece-upper.ensures in
    let word = ap length c.row_word-word.ensures in
    let one = sym (met (goal.at.add-requires-clause-c_len_bound c).Else-seat-foot) in
    let room = simp length-append at (fitting-only (fitting-as c.requires.some_grown.1 one)).1 in
    omega arith

pub returns : goal.returns
returns c = gathers-as
    (added c.add.ensures
    (c.moved-link.ensures.is ∙ ap (λ (q : ℕ). moved_to q (link_at c.args.session.now c.args.j))
    c.row_to.ensures)
    (λ i. c.piece-lower.ensures i ++ c.piece-upper.ensures i ++ c.row_word-word.ensures i))
    (met (goal.at.returns c).Else-seat-foot)
