-- `step::write::write_place` meets its contract. Assumes nothing.
use native.Mathlib.Omega.{arith}
use Rattle.step.proofs.Rewritten.{put-none, put-draft}
use Rattle.step.proofs.write.write_place.Goals as goal

pub returns-then-count-p : goal.returns-then-count-p
returns-then-count-p c = put-none c.args.work.now c.count.ensures.value.0
    c.if-count-p.true c.clear_entry.ensures

pub returns : goal.returns
returns c = put-draft c.requires.2 _ (omega arith) c.read.ensures c.piece.ensures
    c.put_entry.ensures
