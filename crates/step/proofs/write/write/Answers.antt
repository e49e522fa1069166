-- `step::write::write` meets its contract. Assumes nothing.
use mathlib.Core.Path.{◌∙◌}
use native.Mathlib.Omega.{arith}
use Rattle.session_meaning.proofs.Held.{tidy-kept}
use Rattle.step.proofs.Rewritten.{written_all}
use Rattle.step.proofs.write.write.Goals as goal

pub write_places-requires : goal.write_places-requires
write_places-requires c = let e = c.max-end.ensures in (
  omega (arith, c.requires.1.few, c.requires.0.count),
  λ i lt. tidy-kept c.requires.0 i (omega (arith, c.requires.1.few, c.requires.0.count)),
  c.requires.1,
)

pub returns : goal.returns
returns c = let e = c.max-end.ensures in
    c.set_head.ensures
    ∙ written_all c.args.work.now c.args.depth
    c.count-n.ensures.value.0 c.requires.0 (omega arith)
    (omega arith) c.write_places.ensures
