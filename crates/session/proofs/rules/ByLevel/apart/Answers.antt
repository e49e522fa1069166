-- `session::rules::ByLevel::apart` meets its contract: the pieces passed begin with `first`, and none outside the level
-- has the foot. Assumes nothing.
use native.Mathlib.Omega.{arith}
use Rattle.std.proofs.Common.{rules}
use Rattle.words.proofs.Exact.{no-exact}
use Rattle.links.proofs.Levelled.{foot-after}
use Rattle.session.proofs.Rising.{heads-ended}
use Rattle.session.proofs.rules.ByLevel.apart.Goals as goal

pub loop-j-init : goal.loop-j-init
loop-j-init c =
    let v = c.args.self.now.levelled in
    search (rules, foot-after)

pub returns : goal.returns
returns c = let inv = c.loop-j.invariant in
    let done = c.in-None.ensures.steps in
    no-exact (λ d. d (heads-ended c.args.self.now.levelled _ inv.heads (omega (arith, inv.end))))
