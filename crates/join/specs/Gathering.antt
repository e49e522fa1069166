-- The marks and the rows of the joined table, as the code gathers them: document 01, "Joining two hops".
use Rattle.std.specs.Prelude.{◌≡◌, List, [], map, reverse, ℕ, ◌*◌, ◌<◌, ◌≤◌, eqb, length, get_or, drop}
use Rattle.words.specs.Lists.{◌among◌, each, only, up_to}
use Rattle.words.specs.Words.{Word}
use Rattle.meaning.specs.Table.{Class, unused, call, return, internal, Row, Table, row_key}
use Rattle.meaning.specs.Runs.{config}
use Rattle.meaning.specs.Joining.{pair_number, Mark as JoinedMark, mark, mark_key, pushed, marks, rows_from, rows_of}
use Rattle.table.specs.File.{row_count, word_of, row_at, table_of}
use Rattle.join_shelf.specs.Shelved.{words_of}
use Rattle.join_nesting.specs.Nesting.{Hops}
use Rattle.join.specs.Reading.{findings, Numbered}
use Rattle.join.specs.declared.reading.Goal.{Goal}
use Rattle.join.specs.declared.reading.Goal.TheVariants.{Mark, Call, Close}
use Rattle.join.specs.declared.gathering.Wanted.{Wanted}
use Rattle.join.specs.declared.gathering.Wanted.TheVariants.{Marks, Rows}
use Rattle.join.specs.declared.gathering.Plan.{Plan}
use Rattle.join.specs.declared.gathering.Plan.TheVariants.{Skip, Read, FromMarks}

-- not yet TooLarge: no "word of the first is over 16 bytes", no "states over 64"
pub record Small (a b : List ℕ) : Type 0 where
  pub hops : Hops a b
  pub words : (r : Row) → r among (table_of a).rows → length r.word ≤ 16
  pub states : (table_of a).states * (table_of b).states ≤ 64

-- "For each row of the first and each state of the second": row `x` and state `q`
pub record At (a b : List ℕ) (x q : ℕ) : Type 0 where
  pub small : Small a b
  pub row : x < row_count a
  pub state : q < (table_of b).states

-- all joined markers stand on a shelf; and one of them
pub record AllMarks (a b keys : List ℕ) (count : ℕ) : Type 0 where
  pub numbered : Numbered keys count
  pub are : words_of keys count ≡ map mark_key (marks (table_of a) (table_of b))

pub record MarkHere (a b keys : List ℕ) (i : ℕ) : Type 0 where
  pub count : ℕ
  pub all : AllMarks a b keys count
  pub within : i < count

-- the shelf of marks: anything while marks are gathered, and all of them for the rows
abbrev pub Marked : Wanted → List ℕ → List ℕ → List ℕ → Type 0
Marked Marks a b keys = Unit {0}
Marked (Rows count) a b keys = AllMarks a b keys count

-- "State (p, q) has number p times the second's state count plus q": what an ending of a call row gives, and one of
-- another row, with the number of the mark that its reading started from
abbrev pub call_goal : Wanted → List ℕ → List ℕ → ℕ → ℕ → Goal
call_goal Marks a b x q = Mark (row_at a x).marker
call_goal (Rows count) a b x q =
    let r = row_at a x in
    let n = (table_of b).states in
    Call r.symbol (pair_number n r.from q) (pair_number n r.to 0) r.marker count

abbrev pub close_goal : List ℕ → List ℕ → ℕ → ℕ → ℕ → Goal
close_goal a b x q number =
    let r = row_at a x in
    let n = (table_of b).states in
    Close r.symbol (pair_number n r.from q) (pair_number n r.to 0) number

-- "Joined markers are those that a joined call row pushes"; "from an empty stack of its own", but "a return row's
-- reading starts from the list in the popped marker"
abbrev pub plan_of : Wanted → Class → List ℕ → List ℕ → ℕ → ℕ → Plan
plan_of wanted unused a b x q = Skip
plan_of wanted call a b x q = Read (call_goal wanted a b x q)
plan_of Marks return a b x q = Skip
plan_of (Rows count) return a b x q = FromMarks count
plan_of Marks internal a b x q = Skip
plan_of (Rows count) internal a b x q = Read (close_goal a b x q 0)

-- "the second table reads the word … from an empty stack of its own", or from another
abbrev pub found_by : List ℕ → List ℕ → List Word → Goal → ℕ → ℕ → List ℕ → List Word
found_by a b keys goal x q s = findings b keys goal (word_of a x) (config q s [])

-- the mark that has a key
abbrev pub mark_of : Word → JoinedMark
mark_of w = mark (get_or w 0 0) (reverse (drop 1 w))

-- "a return row's reading starts from the list in the popped marker": what it gives from one mark
unfoldable pub given_from : List ℕ → List ℕ → ℕ → ℕ → JoinedMark → List Word
given_from a b x q y =
    let L = marks (table_of a) (table_of b) in
    map row_key
    (each (rows_from (table_of b) L return (row_at a x) q) (only (eqb y.marker (row_at a x).marker) y.left))

-- what a row gives from one state; from each state; what all rows give
unfoldable pub given_at : Wanted → List ℕ → List ℕ → ℕ → ℕ → List Word
given_at Marks a b x q = map mark_key (pushed (table_of a) (table_of b) (row_at a x) q)
given_at (Rows count) a b x q =
    let L = marks (table_of a) (table_of b) in
    map row_key (rows_of (table_of a) (table_of b) L (row_at a x) q)

unfoldable pub given_by : Wanted → List ℕ → List ℕ → ℕ → List Word
given_by wanted a b x = each (given_at wanted a b x) (up_to (table_of b).states)

abbrev pub given : Wanted → List ℕ → List ℕ → List Word
given wanted a b = each (given_by wanted a b) (up_to (row_count a))

-- all marks and all rows, before equal ones count once; their keys
abbrev pub all_marks : Table → Table → List JoinedMark
all_marks A B = each (λ x. each (pushed A B x) (up_to B.states)) A.rows

abbrev pub all_rows : Table → Table → List Row
all_rows A B = each (λ x. each (rows_of A B (marks A B) x) (up_to B.states)) A.rows

abbrev pub pushed_keys : Table → Table → List Word
pushed_keys A B = map mark_key (all_marks A B)

abbrev pub joined_keys : Table → Table → List Word
joined_keys A B = map row_key (all_rows A B)

abbrev pub all_keys : Wanted → Table → Table → List Word
all_keys Marks A B = pushed_keys A B
all_keys (Rows count) A B = joined_keys A B
