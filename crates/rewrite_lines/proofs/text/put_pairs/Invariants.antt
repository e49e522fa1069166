-- The digits of the bytes passed are put.
use Rattle.std.proofs.Common.{take}
use Rattle.words.specs.Calls.{Appended}
use Rattle.rewrite_lines.specs.Text.{hex}
use Rattle.rewrite_lines.proofs.text.put_pairs.Given as goal

abbrev pub invariant-loop-byte : goal.invariant-loop-byte
invariant-loop-byte l = Appended l.initial.text l.at (hex (take l.byte-index l.bytes)) l.end l.text
