-- At most one is counted for each value passed.
use Rattle.std.proofs.Common.{◌≤◌}
use Rattle.cases.proofs.checks.values.Given as goal

abbrev pub invariant-loop-v : goal.invariant-loop-v
invariant-loop-v l = l.sum ≤ l.v
