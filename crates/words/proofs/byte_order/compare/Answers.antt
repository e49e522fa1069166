-- `words::byte_order::compare` meets its contract: std's order of slices is ours. Assumes nothing.
use Rattle.std.proofs.Common.{◌∙◌, ap}
use Rattle.words.specs.Calls.{side_of}
use Rattle.words.proofs.Calls.{side-slice_cmp}
use Rattle.words.proofs.byte_order.compare.Goals as goal

pub returns : goal.returns
returns c = ap side_of c.cmp.ensures ∙ side-slice_cmp c.args.a.now c.args.b.now
