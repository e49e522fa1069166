-- `session::rules::ByLevel::rooted` meets its contract: a foot other than 0 is over level 0. Assumes nothing.
use native.Mathlib.Omega.{arith}
use Rattle.session_meaning.specs.Bytes.{link_start}
use Rattle.links.proofs.Levelled.{foot-level}
use Rattle.session.proofs.rules.ByLevel.rooted.Goals as goal

pub first_with-requires : goal.first_with-requires
first_with-requires c =
    let v = c.args.self.now.levelled in
    let level = foot-level _ v.small (link_start c.args.i) in
    let bottom = v.graded.bottom _ c.requires in
    (v, grind arith, omega (arith, v.graded.low _ c.requires))
