use mathlib.Core.Path.{◌≡◌}
use lib.ListN.{drop}
use Rattle.words.specs.Together.{blank}
use Rattle.words.proofs.all_bytes.blank.Given as goal

-- the rest decides
abbrev pub invariant-loop-block : goal.invariant-loop-block
invariant-loop-block g l = blank (drop l.block-index l.blocks) ≡ blank l.blocks
