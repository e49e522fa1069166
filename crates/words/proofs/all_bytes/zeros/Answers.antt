-- `words::all_bytes::zeros` meets its contract: the blocks are 0, and the rest. Assumes nothing.
use mathlib.Core.Path.{refl}
use Prim.Native.Nat.{◌*◌, ◌/◌}
use lib.ListN.{length}
use Rattle.words.proofs.Exact.{no-exact, denied, granted}
use Rattle.words.proofs.Cleared.{zero_in, blocks-exact, rest-exact}
use Rattle.words.proofs.all_bytes.zeros.Goals as goal

pub returns-then-not-blank : goal.returns-then-not-blank
returns-then-not-blank c =
    let w = c.args.bytes.now in
    let blocks = blocks-exact w 0 1024 (length w / 1024) refl c.as_chunks.ensures.front c.blank.ensures in
    no-exact (λ z. denied blocks c.if-not-blank.true (zero_in w 0 _ z))

pub returns : goal.returns
returns c =
    let w = c.args.bytes.now in
    let blocks = blocks-exact w 0 1024 (length w / 1024) refl c.as_chunks.ensures.front c.blank.ensures in
    rest-exact w (length w / 1024 * 1024) (granted blocks c.if-not-blank.false) c.as_chunks.ensures.back c.few_zeros.ensures
