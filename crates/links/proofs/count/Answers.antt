-- `links::count` meets its contract. Assumes nothing.
use native.Mathlib.Omega.{arith}
use Rattle.words.proofs.Lists.{byte-get_or}
use Rattle.links.proofs.count.Goals as goal

pub returns-clause-bytes : goal.returns-clause-bytes
returns-clause-bytes c = byte-get_or _ (λ k. omega (arith, c.type_inv.bytes k))
