-- `join::reading::found` meets its contract. Assumes nothing.
use Prim.Native.Nat.{◌+◌, ◌<◌}
use native.Mathlib.Omega.{arith}
use borrow.Author.Tests.{eq-eqb}
use lib.ListN.{length}
use Rattle.join_shelf.proofs.Laws.{gathers-none, gathers-as}
use Rattle.join.proofs.Found.{suited-one, keys-call, keys-left}
use Rattle.join.proofs.reading.found.Goals as goal
use Rattle.join.proofs.reading.found.Goals.{After-wide, After-wide-in-Close}

-- what is asked of the ending, by its goal
call-state : (c : After-wide) → c.wide.result + c.args.state < 256
call-state c =
    omega (arith, (suited-one (rw c.in-Call.is at c.requires.suited)).0, c.wide.ensures.0)

close-state : (c : After-wide-in-Close) → c.wide-in-Close.result + c.args.state < 256
close-state c =
    omega (arith, suited-one (rw c.in-Close.is at c.requires.suited), c.wide-in-Close.ensures.0)

pub overflow_add-to : goal.overflow_add-to
overflow_add-to c = omega (arith, call-state (goal.at.overflow_add-to c).After-wide)

pub overflow_cast-to : goal.overflow_cast-to
overflow_cast-to c = omega (arith, call-state (goal.at.overflow_cast-to c).After-wide)

pub returns-then-not-is_empty : goal.returns-then-not-is_empty
returns-then-not-is_empty c = rw c.in-Close.is
    (gathers-as gathers-none (keys-left c.args.state c.args.stack.now c.args.out.now _
    (λ e. let same = eq-eqb (length c.args.stack.now) 0 e in absurd (cc (c.is_empty.ensures, c.if-not-is_empty.true, same)))))

pub overflow_add-to-in-Close : goal.overflow_add-to-in-Close
overflow_add-to-in-Close c = omega (arith, close-state (goal.at.overflow_add-to-in-Close c).After-wide-in-Close)

pub overflow_cast-to-in-Close : goal.overflow_cast-to-in-Close
overflow_cast-to-in-Close c = omega (arith, close-state (goal.at.overflow_cast-to-in-Close c).After-wide-in-Close)

pub returns-in-Call : goal.returns-in-Call
returns-in-Call c = rw c.in-Call.is
    (gathers-as c.put_row.ensures
    (keys-call c.args.state c.args.stack.now c.args.out.now _ _ _ _ (suited-one (rw c.in-Call.is at c.requires.suited)).1
    c.mark_number-number.ensures (omega (arith, c.wide.ensures.0))))
