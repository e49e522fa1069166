-- `table_check::parts::within` meets its contract: no digit is left when the low ones are shifted out. Assumes nothing.
use native.Mathlib.Omega.{arith}
use borrow.Author.Tests.{le-leb}
use Rattle.table_check.proofs.Within.{wide_enough, shift-exact}
use Rattle.table_check.proofs.parts.within.Goals as goal

pub returns-then-states-ge64 : goal.returns-then-states-ge64
returns-then-states-ge64 c =
    let wide = c.if-states-ge64.true in
    (λ h. le-leb 64 c.args.states wide, λ e. wide_enough c.args.set c.args.states (omega arith) wide)

pub returns-else-states-ge64 : goal.returns-else-states-ge64
returns-else-states-ge64 c = shift-exact c.args.set c.args.states
