-- Each line passed took at most 2,100 bytes.
use Rattle.std.proofs.Common.{◌*◌, ◌≤◌}
use Rattle.rewrite.proofs.put_symbols.Given as goal

abbrev pub invariant-loop-i : goal.invariant-loop-i
invariant-loop-i l = l.at ≤ 2100 * l.i
