-- `session::rules::ByLevel::groups` meets its contract: the links passed stand and carry. Assumes nothing.
use borrow.Author.Count.{below_more}
use Rattle.words.proofs.Exact.{granted}
use Rattle.session.proofs.rules.ByLevel.groups.Goals as goal

pub loop-i-preserved : goal.loop-i-preserved
loop-i-preserved c =
    below_more _ _ c.loop-i.invariant
    (granted c.rooted.ensures c.if-not-rooted.false, granted c.carries.ensures c.if-not-carries.false)
