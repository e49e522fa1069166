-- `words::all_bytes::together` meets its contract: the chain folds by or. Assumes nothing.
use Rattle.std.proofs.Common.{rules, ◌≡◌, ◌∙◌}
use Rattle.std.specs.List.{fold}
use Rattle.std.specs.Int.Bits.{bit_or}
use Rattle.std.proofs.iter.runs.Made.{chains}
use Rattle.words.proofs.Below.{fold-together}
use Rattle.words.proofs.all_bytes.together.Goals as goal

pub returns : goal.returns
returns c =
    let folds : c.fold.result ≡ fold bit_or 0 c.args.bytes.now = search (rules, chains) in
    folds ∙ fold-together 0 c.args.bytes.now
