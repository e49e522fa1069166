-- `step_growth::growth::by_rows` meets its contract: what the rows passed give was made. Assumes nothing.
use mathlib.Core.Path.{◌≡◌, sym}
use native.Mathlib.Omega.{arith}
use Rattle.std.specs.Prelude.{Some}
use Rattle.table.specs.Calls.{meant}
use Rattle.table.proofs.Symbols.{rows-ordered, rows-have}
use Rattle.step_growth.specs.Growing.{by_class, by_row}
use Rattle.step_growth.proofs.Gathering.{Passing, passing-ready, passing-next, passing-over, gathers-none, gathers-as}
use Rattle.step_growth.proofs.Gathering.{fitting-as}
use Rattle.step_growth.proofs.Following.{by-class, rows_none, rows-start, rows-end, rows-fitting}
use Rattle.step_growth.proofs.growth.by_rows.Goals as goal
use Rattle.step_growth.proofs.growth.by_rows.Goals.{In-Some}

pub returns-then-level-depth : goal.returns-then-level-depth
returns-then-level-depth c =
    gathers-as gathers-none
    (rows_none c.args.file.now c.args.session.now c.args.symbol c.args.i (λ e. omega arith))

pub loop-r-init : goal.loop-r-init
loop-r-init c =
    let rows = rw c.state.ensures.0 at c.rows_from-r-items.ensures in
    rw c.into_iter-r-iterator.ensures.into_iter_gives
    (record {
      rows = rows;
      start = omega arith;
      end = rows-ordered rows;
      passed = rows-start c.args.file.now c.args.session.now c.args.symbol c.args.i rows;
    })

-- the row has the symbol
taken : (c : In-Some)
    → by_class c.args.file.now c.args.session.now (meant c.class_of-class.result) c.args.i c.in-Some.r
    ≡ by_row c.args.file.now c.args.session.now c.args.symbol c.args.i c.in-Some.r
taken c =
    let loop = c.loop-r.invariant in
    let next = c.in-Some.ensures.steps.1 in
    by-class c.args.file.now c.args.session.now c.args.symbol c.args.i c.in-Some.r c.class_of-class.ensures
    (omega arith) (rows-have loop.rows c.in-Some.r (omega arith) (omega arith)).0

passed : (c : In-Some)
    → Passing (by_row c.args.file.now c.args.session.now c.args.symbol c.args.i) c.args.work.now (Some c.args.clash)
    c.in-Some.r c.loop-r.work (Some c.loop-r.clash)
passed c = rw c.in-Some.ensures.steps.1.1 c.loop-r.invariant.passed

pub by_row-requires-clause-usable : goal.by_row-requires-clause-usable
by_row-requires-clause-usable c = (
  c.requires.usable.0,
  c.requires.usable.1,
  omega (arith, c.in-Some.ensures.steps.1, c.loop-r.invariant.rows.ends.within),
)

pub by_row-requires-clause-some_grown : goal.by_row-requires-clause-some_grown
by_row-requires-clause-some_grown c =
    let next = c.in-Some.ensures.steps.1 in
    let fitting =
    rows-fitting c.args.file.now c.args.session.now c.args.symbol c.args.i c.in-Some.r
    (omega (arith, c.loop-r.invariant.rows.ends.within)) c.requires.some_grown.1 in
    let at = (goal.at.by_row-requires-clause-some_grown c).In-Some in
    (passing-ready (passed at) c.requires.some_grown.0, fitting-as fitting (sym (taken at)))

pub returns-in_err-clash : goal.returns-in_err-clash
returns-in_err-clash c =
    let next = c.in-Some.ensures.steps.1 in
    let at = (goal.at.returns-in_err-clash c).In-Some in
    let over = passing-next (passed at) (gathers-as c.in_err-clash.ensures (taken at)) in
    rw c.from_residual.ensures
    (rows-end c.args.file.now c.args.session.now c.args.symbol c.args.i c.loop-r.invariant.rows
    (passing-over over c.loop-r.r-iterator.end (omega arith)))

pub loop-r-preserved : goal.loop-r-preserved
loop-r-preserved c =
    let steps = c.in-Some.ensures.steps in
    let at = (goal.at.loop-r-preserved c).In-Some in
    record {
      rows = rw steps.0 c.loop-r.invariant.rows;
      start = omega arith;
      end = omega arith;
      passed = rw (steps.1.2, ← steps.1.1) (passing-next (passed at) (gathers-as c.in_ok-clash.ensures (taken at)));
    }

pub returns : goal.returns
returns c =
    let loop = c.loop-r.invariant in
    let e : c.loop-r.r-iterator.start ≡ c.loop-r.r-iterator.end = omega (arith, c.in-None.ensures.steps) in
    rows-end c.args.file.now c.args.session.now c.args.symbol c.args.i loop.rows (rw e at loop.passed)
