-- `join::gathering::return_row` meets its contract. Assumes nothing.
use mathlib.Core.Path.{◌≡◌, ◌∙◌, ap}
use Prim.Native.Nat.{◌-◌, ◌<◌, ◌≤◌}
use native.Mathlib.Omega.{arith}
use lib.ListN.{length, get_or, take, drop, length-take}
use Rattle.words.specs.Words.{Word}
use Rattle.join_shelf.specs.Shelved.{word_at}
use Rattle.join_shelf.proofs.Laws.{gathers-none, gathers-as}
use Rattle.join.specs.Gathering.{mark_of}
use Rattle.join.proofs.Given.{suited-close, row_reads, row-suited, row-found}
use Rattle.join.proofs.FromMarks.{key-long, return-other, return-same, laid}
use Rattle.join.proofs.gathering.return_row.Goals as goal
use Rattle.join.proofs.gathering.return_row.Goals.{After-wide, After-word-key}

-- the key of the mark, how long it is, and its first byte
abbrev key_of : After-word-key → Word
key_of c = word_at c.args.marks.now c.args.i

long : (c : After-word-key) → (0 < length c.word-key.result.now) × (length c.word-key.result.now ≤ 17)
long c =
    rw c.word-key.ensures (key-long c.requires.mark_here.all c.requires.at.small c.requires.mark_here.within)

abbrev left-of : After-word-key → Word
left-of c = let w : Word = c.word-key.result.now in take (length w - 1) (drop 1 w)

left-long : (c : After-word-key) → length (left-of c) ≤ 16
left-long c = simp length-take (omega (arith, (long c).1))

head-is : (c : After-wide) → c.wide.result ≡ get_or (word_at c.args.marks.now c.args.i) 0 0
head-is c = c.wide.ensures.0 ∙ ap (λ (w : Word). get_or w 0 0) c.word-key.ensures

pub bounds-key-0 : goal.bounds-key-0
bounds-key-0 c = omega (arith, (long (goal.at.bounds-key-0 c).After-word-key).0)

pub returns-then-wide-row_marker : goal.returns-then-wide-row_marker
returns-then-wide-row_marker c = gathers-as gathers-none
    (return-other c.args.first.now c.args.second.now c.args.at.row c.args.at.state
    (mark_of (key_of (goal.at.returns-then-wide-row_marker c).After-word-key))
    (λ e. omega (
      arith,
      head-is (goal.at.returns-then-wide-row_marker c).After-wide,
      c.row_marker.ensures,
      c.if-wide-row_marker.true,
    )))

pub slice_bounds-left-count : goal.slice_bounds-left-count
slice_bounds-left-count c = omega (arith, (long (goal.at.slice_bounds-left-count c).After-word-key).0)

pub slice_bounds-left-start : goal.slice_bounds-left-start
slice_bounds-left-start c = omega (arith, (long (goal.at.slice_bounds-left-start c).After-word-key).0)

pub copy-requires : goal.copy-requires
copy-requires c = omega (arith, left-long (goal.at.copy-requires c).After-word-key)

pub read-requires-clause-reads : goal.read-requires-clause-reads
read-requires-clause-reads c =
    row_reads c.args.first.now c.args.second.now c.args.at.row _ c.row_word-read_word.ensures _ _ c.requires.at
    (left-long (goal.at.read-requires-clause-reads c).After-word-key)

pub read-requires-clause-suited : goal.read-requires-clause-suited
read-requires-clause-suited c =
    rw c.close_goal-goal.ensures
    (row-suited c.args.first.now c.args.second.now c.args.at.row _ c.row_word-read_word.ensures _
    (length (left-of (goal.at.read-requires-clause-suited c).After-word-key)) c.copy.new.to
    (suited-close c.requires.at _ _))

pub returns : goal.returns
returns c = let left_is = ap (λ (w : Word). take (length w - 1) (drop 1 w)) c.word-key.ensures in
    gathers-as c.read.ensures.gathers
    (row-found c.args.first.now c.args.second.now c.args.at.row _ c.row_word-read_word.ensures _
    (length (left-of (goal.at.returns c).After-word-key)) c.copy.new.to _ _
    ∙ return-same c.requires.mark_here.all c.args.at.row c.args.at.state c.requires.mark_here.within
    (omega (arith, head-is (goal.at.returns c).After-wide, c.row_marker.ensures, c.if-wide-row_marker.false))
    c.close_goal-goal.ensures
    (laid (key_of (goal.at.returns c).After-word-key) c.args.tape.now left_is c.copy.ensures) _)
