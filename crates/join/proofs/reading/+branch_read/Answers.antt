-- The cycle of calls of `branch` and `read` (`join::reading`): a branch reads what is left of the word, and a reading
-- has a branch for each row of the word's first byte, so that the word gets shorter.
-- Assumes nothing.
use mathlib.Core.List.{List, ◌∷◌, reverse}
use mathlib.Core.Path.{◌≡◌, refl, sym, ◌∙◌, ap}
use Prim.Native.Nat.{ℕ, ◌+◌, ◌-◌, ◌<◌}
use native.Mathlib.Omega.{arith}
use lib.ListN.{get_or, take, drop}
use Rattle.std.specs.Prelude.{Option}
use Rattle.words.specs.Words.{Word}
use Rattle.words.proofs.Exact.{denied, granted}
use Rattle.meaning.specs.Table.{Class}
use Rattle.meaning.specs.Runs.{Config, config}
use Rattle.meaning.specs.Joining.{after_row}
use Rattle.table.specs.File.{row_count, row_at, table_of}
use Rattle.table.specs.Calls.{meant, RowsFrom}
use Rattle.table.proofs.Symbols.{rows-ordered, rows-have, rows_behind}
use Rattle.join_shelf.specs.Shelved.{Gathers}
use Rattle.join_shelf.specs.declared.Stock.{Stock}
use Rattle.join_shelf.proofs.Laws.{gathers-none, gathers-as}
use Rattle.join_shelf.proofs.Rooms.{part_slice}
use Rattle.join.specs.Reading.{stack_room, config_of, marks_of, keys_of, findings_of}
use Rattle.join.specs.declared.reading.Cursor.{Cursor}
use Rattle.join.specs.declared.reading.Goal.{Goal}
use Rattle.join.proofs.Moves.{taken_none, moved, height-near, untouched-self, untouched-both, same-config, put_back}
use Rattle.join.proofs.Passing.{Passing, passing-ready, passing-next}
use Rattle.join.proofs.Findings.{findings-end, findings-one, suited-end, suited-from, suited-row, by-class}
use Rattle.join.proofs.Findings.{by_row, rows_start, rows_end, rows_out}
use Rattle.join.proofs.reading.+branch_read.Goals as goal

pub branch-returns-then-not-fits-clause-gathers : goal.branch-returns-then-not-fits-clause-gathers
branch-returns-then-not-fits-clause-gathers t c =
    let a = c.args in
    let none = taken_none c.fits.ensures.within (denied c.fits.ensures.exact c.if-not-fits.true) in
    gathers-as gathers-none
    (ap (findings_of a.second.now (marks_of a.marks.now a.goal) a.goal a.rest.now) (sym none))

pub branch-read-made-requires : goal.branch-read-made-requires
branch-read-made-requires t c =
    let a = c.args in
    let pre = c.requires.branches in
    let near = height-near (meant a.turn.class) a.turn.cursor.height in
    let fit = granted c.fits.ensures.exact c.if-not-fits.false in
    let next =
    moved fit c.exchange-kept.ensures c.row_marker.ensures c.row_to.ensures c.height_after.ensures
    c.append-end.ensures (omega (arith, pre.high)) pre.behind in (
      omega arith,
      (
        record {
          good = pre.good;
          high = omega (arith, pre.high, c.height_after.ensures);
          behind = omega (arith, pre.behind, c.append-end.ensures.more);
          room = omega (arith, pre.room, c.append-end.ensures.more, c.append-end.ensures.short);
        },
        (
          c.requires.ranked,
          (
            suited-from a.second.now (marks_of a.marks.now a.goal) a.goal a.rest.now next c.requires.suited,
            c.requires.some_shelved,
          ),
        ),
      ),
    )

pub branch-returns-clause-gathers : goal.branch-returns-clause-gathers
branch-returns-clause-gathers t c =
    let a = c.args in
    let pre = c.requires.branches in
    let fit = granted c.fits.ensures.exact c.if-not-fits.false in
    gathers-as c.read-made.ensures.gathers
    (findings-one a.second.now (marks_of a.marks.now a.goal) a.goal a.rest.now
    (moved fit c.exchange-kept.ensures c.row_marker.ensures c.row_to.ensures c.height_after.ensures
    c.append-end.ensures (omega (arith, pre.high)) pre.behind))

pub branch-returns-clause-untouched : goal.branch-returns-clause-untouched
branch-returns-clause-untouched t c =
    put_back c.exchange-kept.ensures c.append-end.ensures c.read-made.ensures.untouched c.exchange.ensures
    (omega (arith, c.requires.branches.high, c.requires.branches.behind))

-- a configuration as it stands on the tape, part by part
on_tape : (cursor : Cursor) (tape : List ℕ)
    → config cursor.state (reverse (take cursor.height tape))
    (take (cursor.end - stack_room) (drop stack_room tape))
    ≡ config_of cursor tape
on_tape cursor tape =
    ap (config cursor.state (reverse (take cursor.height tape))) (part_slice stack_room cursor.end tape)

pub read-found-requires-clause-suited : goal.read-found-requires-clause-suited
read-found-requires-clause-suited t c =
    let a = c.args in
    rw (on_tape a.cursor a.tape.now)
    (suited-end a.second.now (marks_of a.marks.now a.goal) a.goal a.word.now (config_of a.cursor a.tape.now)
    c.in_default.ensures.cases c.requires.suited)

pub read-returns-in_default-clause-gathers : goal.read-returns-in_default-clause-gathers
read-returns-in_default-clause-gathers t c =
    let a = c.args in
    gathers-as c.found.ensures
    (ap (keys_of (marks_of a.marks.now a.goal) a.goal) (on_tape a.cursor a.tape.now)
    ∙ findings-end a.second.now (marks_of a.marks.now a.goal) a.goal a.word.now (config_of a.cursor a.tape.now)
    c.in_default.ensures.cases)

-- the word by its first byte, and the rows of that byte
module _ {word rest : Word} {first : ℕ} (e : word ≡ first ∷ rest) where
  first-is : first ≡ get_or word 0 0
  first-is = sym (ap (λ (w : Word). get_or w 0 0) e)

  whole : word ≡ get_or word 0 0 ∷ rest
  whole = e ∙ ap (λ (x : ℕ). x ∷ rest) first-is

  rows-first : {second : List ℕ} {state start end : ℕ} → RowsFrom second first state start end
      → RowsFrom second (get_or word 0 0) state start end
  rows-first r = rw (← first-is) r

  class-first : (second : List ℕ) {k : Class} → k ≡ (table_of second).class first
      → k ≡ (table_of second).class (get_or word 0 0)
  class-first second r = rw (← first-is) r

-- one of them more
module _ (second : List ℕ) (marks : List Word) (goal : Goal) (word rest : Word) (from : Config) where
  abbrev symbol : ℕ
  symbol = get_or word 0 0

  passed-more : {room room' room'' : List ℕ} {s s' s'' : Option Stock} {n m row : ℕ} {k : Class} {d : Config}
      → Passing (by_row second marks goal symbol rest from) room s n room' s' → row ≡ n → m ≡ n + 1
      → k ≡ (table_of second).class symbol → (row_at second row).symbol ≡ symbol → d ≡ from
      → Gathers (findings_of second marks goal rest (after_row k (row_at second row) d)) room' s' s'' room''
      → Passing (by_row second marks goal symbol rest from) room s m room'' s''
  passed-more {row = row} p e f class has same g =
      rw f
      (passing-next p
      (gathers-as g
      (by-class second marks goal symbol rest from row class has same
      ∙ ap (by_row second marks goal symbol rest from) e)))

pub read-loop-row-init : goal.read-loop-row-init
read-loop-row-init t c =
    let a = c.args in
    let rows =
    rw (← c.into_iter-row-iterator.ensures.into_iter_gives) at
    (rows-first c.in-Some.ensures.cases.0 c.rows_from-row-items.ensures) in
    record {
      rows = rows;
      from = omega arith;
      within = rows-ordered rows;
      kept = untouched-self;
      passed =
          rows_start a.second.now (marks_of a.marks.now a.goal) a.goal (get_or a.word.now 0 0) c.in-Some.rest.now
          (config_of a.cursor a.tape.now) rows.starts;
    }

pub read-branch-second-requires : goal.read-branch-second-requires
read-branch-second-requires t c =
    let a = c.args in
    let pre = c.requires.reads in
    let is = c.in-Some.ensures.cases.0 in
    let long = c.in-Some.ensures.cases.1 in
    let here = c.in-Some-row.ensures.steps in
    let rows = c.loop-row.invariant.rows in
    let within : c.in-Some-row.row < row_count a.second.now = omega (arith, rows.ends.within) in (
      omega arith,
      (
        record {
          good = pre.good;
          row = within;
          high = omega (arith, pre.high);
          behind = pre.behind;
          room = omega (arith, pre.room);
        },
        (
          c.requires.ranked,
          (
            suited-row a.second.now (marks_of a.marks.now a.goal) a.goal (get_or a.word.now 0 0) c.in-Some.rest.now
                (config_of a.cursor a.tape.now) (whole is) c.in-Some-row.row within
                (class-first is a.second.now c.class_of-class.ensures)
                (rows-have rows c.in-Some-row.row (omega arith) (omega arith)).0
                (same-config a.cursor (omega (arith, pre.high, pre.behind)) c.loop-row.invariant.kept)
                c.requires.suited,
            passing-ready c.loop-row.invariant.passed c.requires.some_shelved,
          ),
        ),
      ),
    )

pub read-loop-row-preserved : goal.read-loop-row-preserved
read-loop-row-preserved t c =
    let a = c.args in
    let pre = c.requires.reads in
    let is = c.in-Some.ensures.cases.0 in
    let here = c.in-Some-row.ensures.steps in
    let rows = c.loop-row.invariant.rows in
    record {
      rows = rw c.in-Some-row.ensures.steps.0 rows;
      from = omega arith;
      within = omega arith;
      kept = untouched-both c.loop-row.invariant.kept c.in_ok-made.ensures.untouched;
      passed =
          passed-more a.second.now (marks_of a.marks.now a.goal) a.goal a.word.now c.in-Some.rest.now
          (config_of a.cursor a.tape.now) c.loop-row.invariant.passed (omega arith) (omega arith)
          (class-first is a.second.now c.class_of-class.ensures)
          (rows-have rows c.in-Some-row.row (omega arith) (omega arith)).0
          (same-config a.cursor (omega (arith, pre.high, pre.behind)) c.loop-row.invariant.kept)
          c.in_ok-made.ensures.gathers;
    }

pub read-returns-in_err-made-clause-gathers : goal.read-returns-in_err-made-clause-gathers
read-returns-in_err-made-clause-gathers t c =
    let a = c.args in
    let pre = c.requires.reads in
    let is = c.in-Some.ensures.cases.0 in
    let here = c.in-Some-row.ensures.steps in
    let rows = c.loop-row.invariant.rows in
    rw c.from_residual.ensures
    (rows_out a.second.now (marks_of a.marks.now a.goal) a.goal (get_or a.word.now 0 0) c.in-Some.rest.now
    (config_of a.cursor a.tape.now) (whole is)
    (passed-more a.second.now (marks_of a.marks.now a.goal) a.goal a.word.now c.in-Some.rest.now
    (config_of a.cursor a.tape.now) c.loop-row.invariant.passed (omega arith) refl
    (class-first is a.second.now c.class_of-class.ensures) (rows-have rows c.in-Some-row.row (omega arith) (omega arith)).0
    (same-config a.cursor (omega (arith, pre.high, pre.behind)) c.loop-row.invariant.kept)
    c.in_err-made.ensures.gathers)
    (omega (arith, rows.ends.within)))

pub read-returns-clause-gathers : goal.read-returns-clause-gathers
read-returns-clause-gathers t c =
    let a = c.args in
    let rows = c.loop-row.invariant.rows in
    let here = c.in-None.ensures.steps in
    rows_end a.second.now (marks_of a.marks.now a.goal) a.goal (get_or a.word.now 0 0) c.in-Some.rest.now
    (config_of a.cursor a.tape.now) (whole c.in-Some.ensures.cases.0) c.loop-row.invariant.passed
    (omega (arith, rows.ends.within)) (λ k l m. rows_behind rows k (omega arith) m)
