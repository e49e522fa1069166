-- The place rises at each turn.
use Rattle.std.proofs.Common.{◌-◌, ◌^◌}
use Rattle.rewrite.proofs.on_table.Given as goal

abbrev pub decreases-loop-place : goal.decreases-loop-place
decreases-loop-place g l = 2 ^ 64 - l.place
