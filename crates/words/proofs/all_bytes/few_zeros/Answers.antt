-- `words::all_bytes::few_zeros` meets its contract. Assumes nothing.
use Rattle.words.proofs.Cleared.{zero-exact}
use Rattle.words.proofs.all_bytes.few_zeros.Goals as goal

pub returns : goal.returns
returns c = rw c.together.ensures (zero-exact _)
