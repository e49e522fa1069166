-- At most 255 bytes for each row passed.
use Rattle.std.proofs.Common.{◌*◌, ◌≤◌}
use Rattle.cases.proofs.pairs.put_rows.Given as goal

abbrev pub invariant-loop-i : goal.invariant-loop-i
invariant-loop-i l = l.start ≤ 255 * l.i
