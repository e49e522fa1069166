-- `words::writing::copy` meets its contract. Assumes nothing.
use mathlib.Core.Path.{refl}
use native.Mathlib.Omega.{arith}
use Rattle.words.proofs.Pasted.{pasting-none, pasting-more, pasting-all}
use Rattle.words.proofs.writing.copy.Goals as goal

pub loop-i-init : goal.loop-i-init
loop-i-init c = pasting-none _ _ _ c.requires

pub loop-i-preserved : goal.loop-i-preserved
loop-i-preserved c = pasting-more c.loop-i.invariant (omega arith) _ refl

pub returns : goal.returns
returns c = pasting-all c.loop-i.invariant (omega arith)
