-- `step_drafts::room::write` meets its contract. Assumes nothing.
use mathlib.Core.Path.{ap, ◌∙◌}
use Prim.Native.Nat.{ℕ}
use native.Mathlib.Omega.{arith}
use mathlib.Core.List.{List}
use Rattle.step_drafts.specs.Drafts.{where_start}
use Rattle.words.specs.LittleEndian.{with_two}
use Rattle.step_drafts.proofs.Rooms.{drew}
use Rattle.step_drafts.proofs.room.write.Goals as goal

pub returns : goal.returns
returns c = drew c.args.work.now c.args.i c.args.link c.args.n c.args.at (omega arith) (omega arith)
    (c.set_start.ensures
    ∙ ap (λ (m : List ℕ). with_two m (where_start c.args.i) c.args.at) c.put.ensures)
    (omega arith) (omega arith) c.requires.bytes.0 c.requires.bytes.1
