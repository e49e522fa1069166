use Prim.Native.Nat.{ℕ, ◌<◌}
use Rattle.finish.specs.Finishing.{LikeAt}
use Rattle.finish.proofs.finishing.like.Given as goal

abbrev pub invariant-loop-j : goal.invariant-loop-j
invariant-loop-j l = (k : ℕ) → k < l.j → l.i < k → LikeAt l.finals l.session l.i k
