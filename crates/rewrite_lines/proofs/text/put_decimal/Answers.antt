-- `rewrite_lines::text::put_decimal` meets its contract: what `io` spells is the number. Assumes nothing.
use mathlib.Core.Path.{◌≡◌, ◌∙◌}
use lib.ListN.{take}
use Rattle.rewrite_lines.specs.Text.{decimal}
use Rattle.rewrite_lines.proofs.Numerals.{decimal-spelled}
use Rattle.rewrite_lines.proofs.text.put_decimal.Goals as goal
use Rattle.rewrite_lines.proofs.text.put_decimal.Goals.{After-decimal-many}

-- what is handed on
handed : (c : After-decimal-many) → take c.decimal-many.result c.decimal-many.new.out ≡ decimal c.args.n
handed c = c.decimal-many.ensures.digits ∙ decimal-spelled _ _ c.decimal-many.ensures.len

pub put_bytes-requires : goal.put_bytes-requires
put_bytes-requires c = rw (handed (goal.at.put_bytes-requires c).After-decimal-many) c.requires

pub returns : goal.returns
returns c = rw (handed (goal.at.returns c).After-decimal-many) at c.put_bytes.ensures
