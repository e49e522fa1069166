-- `step::write::write_places` meets its contract: the places passed are written. Assumes nothing.
use Prim.Native.Nat.{◌<◌}
use native.Mathlib.Omega.{arith}
use Rattle.session_meaning.proofs.Held.{tidy-same}
use Rattle.step.proofs.Rewritten.{written-more}
use Rattle.step.proofs.write.write_places.Goals as goal

pub write_place-requires : goal.write_place-requires
write_place-requires c = let p = c.loop-p.p in
    let inside : p < 64 = omega arith in
    (inside, tidy-same (c.loop-p.invariant.rest p (omega arith) inside) (c.requires.1 p (omega arith)), c.requires.2)

pub loop-p-preserved : goal.loop-p-preserved
loop-p-preserved c = written-more c.loop-p.invariant (omega arith) c.write_place.ensures
