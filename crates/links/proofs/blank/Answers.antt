-- `links::blank` meets its contract. Assumes nothing.
use mathlib.Core.Path.{refl}
use Rattle.session_meaning.proofs.Clear.{clear-exact}
use Rattle.links.proofs.blank.Goals as goal

pub returns : goal.returns
returns c = clear-exact refl c.zeros.ensures
