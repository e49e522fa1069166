-- `step_growth::growth::follow_call` meets its contract. Assumes nothing.
use mathlib.Core.Path.{ap, ap₂, ◌∙◌}
use Prim.Native.Nat.{ℕ}
use lib.ListN.{length}
use native.Mathlib.Omega.{arith}
use mathlib.Core.List.{append-nil}
use Rattle.meaning.specs.Trails.{on}
use Rattle.session_meaning.specs.Bytes.{link_at}
use Rattle.step_growth.proofs.Gathering.{added}
use Rattle.step_growth.proofs.Following.{fitting-only}
use Rattle.step_growth.proofs.growth.follow_call.Goals as goal

pub over-link-requires : goal.over-link-requires
over-link-requires c = (
  c.requires.usable.0.kept,
  c.requires.usable.1,
  rw (c.row_to.ensures, c.row_marker.ensures) (fitting-only c.requires.some_grown.1).0,
)

pub add-requires-clause-c_len_bound : goal.add-requires-clause-c_len_bound
add-requires-clause-c_len_bound c = let word = ap length c.row_word-word.ensures in
    let room = (fitting-only c.requires.some_grown.1).1 in
    omega arith

pub returns : goal.returns
returns c = added c.add.ensures
    (c.over-link.ensures.is
    ∙ ap₂ (λ (q m : ℕ). on q m (link_at c.args.session.now c.args.i)) c.row_to.ensures
    c.row_marker.ensures)
    (simp append-nil c.row_word-word.ensures)
