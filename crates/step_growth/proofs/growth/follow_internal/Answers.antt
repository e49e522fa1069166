-- `step_growth::growth::follow_internal` meets its contract. Assumes nothing.
use mathlib.Core.Path.{◌∙◌, ap}
use Prim.Native.Nat.{ℕ}
use Rattle.session_meaning.specs.Bytes.{link_at}
use Rattle.step_meaning.specs.Stepping.{moved_to}
use mathlib.Core.List.{◌++◌, append-nil}
use lib.ListN.{length, length-append}
use native.Mathlib.Omega.{arith}
use Rattle.step_growth.proofs.Gathering.{added}
use Rattle.step_growth.proofs.Following.{fitting-only}
use Rattle.step_growth.proofs.growth.follow_internal.Goals as goal

pub add-requires-clause-c_len_bound : goal.add-requires-clause-c_len_bound
add-requires-clause-c_len_bound c = let piece = ap length c.piece-piece.ensures in
    let word = ap length c.row_word-word.ensures in
    let room = simp length-append at (fitting-only c.requires.some_grown.1).1 in
    omega arith

pub returns : goal.returns
returns c = added c.add.ensures
    (c.moved-link.ensures.is ∙ ap (λ (q : ℕ). moved_to q (link_at c.args.session.now c.args.i))
    c.row_to.ensures)
    (simp append-nil (λ i. c.piece-piece.ensures i ++ c.row_word-word.ensures i))
