-- `finish::finishing::like` meets its contract: the links passed are like the first. Assumes nothing.
use borrow.Author.Count.{below_more}
use Rattle.words.proofs.Exact.{granted}
use Rattle.finish.proofs.finishing.like.Goals as goal

pub loop-j-preserved : goal.loop-j-preserved
loop-j-preserved c =
    below_more _ _ c.loop-j.invariant (λ after. granted c.like_at.ensures c.if-not-like_at.false)
