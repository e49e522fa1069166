use Prim.Native.Nat.{ℕ, ◌<◌, ◌≤◌}
use lib.ListN.{length}
use Rattle.join_shelf.specs.Shelved.{word_at}
use Rattle.join.proofs.hops.long_rows.Given as goal

abbrev pub invariant-loop-i : goal.invariant-loop-i
invariant-loop-i l = (k : ℕ) → k < l.i → length (word_at l.rows k) ≤ 259
