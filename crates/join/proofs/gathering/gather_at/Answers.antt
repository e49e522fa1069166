-- `join::gathering::gather_at` meets its contract. Assumes nothing.
use mathlib.Core.Path.{◌≡◌, refl, sym, ◌∙◌, ap}
use Prim.Native.Nat.{ℕ}
use native.Mathlib.Omega.{arith}
use Rattle.meaning.specs.Table.{Class, return}
use Rattle.table.specs.File.{row_at, table_of}
use Rattle.join_shelf.proofs.Laws.{gathers-none, gathers-as}
use Rattle.join.specs.Gathering.{plan_of, given_at}
use Rattle.join.specs.declared.gathering.Wanted.{Wanted}
use Rattle.join.specs.declared.gathering.Plan.{Plan}
use Rattle.join.specs.declared.gathering.Plan.TheVariants.{Read, FromMarks}
use Rattle.join.specs.declared.reading.Goal.{Goal}
use Rattle.join.specs.declared.gathering.Wanted.TheVariants.{Rows}
use Rattle.join.proofs.FromMarks.{marked-rows}
use Rattle.join.proofs.Given.{row_reads, row-suited, row-found, Reading, plan-skip, plan-read, plan-marks}
use Rattle.join.proofs.gathering.gather_at.Goals as goal
use Rattle.join.proofs.gathering.gather_at.Goals.{After-planned}

-- the class of the row's symbol, and the plan that it gives
module _ (c : After-planned) where
  abbrev class-of : Class
  class-of = let a = c.args in (table_of a.first.now).class (row_at a.first.now a.at.row).symbol

  is : {p : Plan} → c.planned.result ≡ p
      → let a = c.args in
      plan_of a.wanted class-of a.first.now a.second.now a.at.row a.at.state ≡ p
  is e = sym c.planned.ensures ∙ e

-- what is read suits, and gives what the row gives
reading : (c : After-planned) (goal : Goal) → c.planned.result ≡ Read goal
    → Reading c.args.first.now c.args.second.now c.args.at.row c.args.at.state c.args.marks.now c.args.wanted goal
reading c goal e =
    plan-read c.args.first.now c.args.second.now c.args.at.row c.args.at.state c.requires.at c.args.wanted (class-of c)
    c.requires.marked refl (is c e)

pub read-requires-clause-reads : goal.read-requires-clause-reads
read-requires-clause-reads c =
    row_reads c.args.first.now c.args.second.now c.args.at.row _ c.row_word-read_word.ensures _ _ c.requires.at
    (omega arith)

pub read-requires-clause-suited : goal.read-requires-clause-suited
read-requires-clause-suited c =
    row-suited c.args.first.now c.args.second.now c.args.at.row _ c.row_word-read_word.ensures _ 0 c.args.tape.now
    (reading (goal.at.read-requires-clause-suited c).After-planned _ c.in-Read.is).suited

-- all marks stand where a return row is read from them
from-marks : (c : After-planned) (count : ℕ) → c.planned.result ≡ FromMarks count
    → (c.args.wanted ≡ Rows count) × (class-of c ≡ return)
from-marks c count e =
    plan-marks c.args.first.now c.args.second.now c.args.at.row c.args.at.state c.args.wanted (class-of c) (is c e)

pub return_rows-requires-clause-all_marks : goal.return_rows-requires-clause-all_marks
return_rows-requires-clause-all_marks c =
    let both = from-marks (goal.at.return_rows-requires-clause-all_marks c).After-planned _ c.in-FromMarks.is in
    marked-rows both.0 c.requires.marked

pub returns-in-Skip : goal.returns-in-Skip
returns-in-Skip c = gathers-as gathers-none
    (plan-skip c.args.first.now c.args.second.now c.args.at.row c.args.at.state c.args.wanted
    (class-of (goal.at.returns-in-Skip c).After-planned) refl
    (is (goal.at.returns-in-Skip c).After-planned c.in-Skip.is))

pub returns-in-Read : goal.returns-in-Read
returns-in-Read c = gathers-as c.read.ensures.gathers
    (row-found c.args.first.now c.args.second.now c.args.at.row _ c.row_word-read_word.ensures _ 0 c.args.tape.now _ _
    ∙ (reading (goal.at.returns-in-Read c).After-planned _ c.in-Read.is).gives)

pub returns-in-FromMarks : goal.returns-in-FromMarks
returns-in-FromMarks c = gathers-as c.return_rows.ensures
    (ap (λ (w : Wanted). given_at w c.args.first.now c.args.second.now c.args.at.row c.args.at.state)
    (sym (from-marks (goal.at.returns-in-FromMarks c).After-planned _ c.in-FromMarks.is).0))
