-- `session::rules::ByLevel::carries` meets its contract: what stands on a link has its seat as foot. Assumes nothing.
use mathlib.Core.Logic.{inr, ⊎_elim}
use native.Mathlib.Omega.{arith}
use Rattle.links.proofs.Levelled.{seat-low}
use Rattle.session.proofs.rules.ByLevel.carries.Goals as goal

pub apart-requires : goal.apart-requires
apart-requires c = seat-low c.args.self.now.levelled _ c.requires c.seat.ensures

pub returns-else-level-depth : goal.returns-else-level-depth
returns-else-level-depth c =
    let apart = rw c.seat.ensures at c.apart.ensures in
    (⊎_elim (λ e. absurd (omega arith)) apart.0, λ t. inr (apart.1 t))
