-- `session_bytes::clear` meets its contract. Assumes nothing.
use mathlib.Core.Path.{refl}
use Rattle.session_meaning.specs.Bytes.{size}
use Rattle.session_meaning.proofs.Started.{cleared}
use Rattle.session_bytes.proofs.clear.Goals as goal

pub returns : goal.returns
returns c = cleared size refl
