-- At most 256 are counted for each place passed.
use Rattle.std.proofs.Common.{◌*◌, ◌≤◌}
use Rattle.cases.proofs.checks.changes.Given as goal

abbrev pub invariant-loop-at : goal.invariant-loop-at
invariant-loop-at l = l.sum ≤ 256 * l.at
