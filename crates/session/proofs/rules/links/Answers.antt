-- `session::rules::links` meets its contract: links passed fit and rise. Assumes nothing.
use native.Mathlib.Omega.{arith}
use Rattle.words.proofs.Exact.{no-exact, denied}
use Rattle.session_meaning.proofs.Passed.{risen-not}
use Rattle.session.proofs.rules.links.Goals as goal

pub returns-then-not-link_fits : goal.returns-then-not-link_fits
returns-then-not-link_fits c = no-exact (λ h. denied c.link_fits.ensures c.if-not-link_fits.true (h.fit _ (omega arith)))

pub returns-then-key-least : goal.returns-then-key-least
returns-then-key-least c = no-exact (risen-not c.loop-i.invariant (omega arith) _ c.key-key.ensures.0 (omega arith))
