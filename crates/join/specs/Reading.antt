-- The reading of a word by the second table, as the code goes through it: document 01, "Joining two hops".
use Rattle.std.specs.Prelude.{◌≡◌, Bool, List, [], ◌∷◌, ◌++◌, reverse, ℕ, suc, ◌+◌, ◌-◌, ◌*◌, ◌<◌, ◌≤◌, length, get_or, take, set}
use Rattle.std.proofs.Math.Seq.{slice}
use Rattle.words.specs.Lists.{◌among◌, Exact, each, only, is_empty}
use Rattle.words.specs.Words.{Word}
use Rattle.words.specs.Order.{rank}
use Rattle.meaning.specs.Table.{Class, unused, call, return, internal, Row, row_key}
use Rattle.meaning.specs.Runs.{Config, config}
use Rattle.meaning.specs.Joining.{after_row, endings, mark, mark_key}
use Rattle.table.specs.File.{row_count, row_at, table_of}
use Rattle.table.specs.Good.{first_edition, GoodFile}
use Rattle.table.specs.Calls.{meant}
use Rattle.join_shelf.specs.Shelved.{words_of, Standing}
use Rattle.join.specs.declared.reading.Cursor.{Cursor}
use Rattle.join.specs.declared.reading.Turn.{Turn}
use Rattle.join.specs.declared.reading.Goal.{Goal}
use Rattle.join.specs.declared.reading.Goal.TheVariants.{Mark, Call, Close}

-- how many bytes of the tape are the stack's; what was written stands behind them
abbrev pub stack_room : ℕ
stack_room = 32

-- the second's configuration: its stack stands on the tape from the bottom up to a height, what it wrote up to an end
abbrev pub config_of : Cursor → List ℕ → Config
config_of c tape = config c.state (reverse (take c.height tape)) (slice stack_room c.end tape)

-- "A return row needs its marker on top": whether a row of a class can be taken
pub record Fits (k : Class) (x : Row) (c : Cursor) (tape : List ℕ) : Type 0 where
  pub known : k ≡ unused → ⊥
  pub from : c.state ≡ x.from
  pub top : k ≡ return → (0 < c.height) × (get_or tape (c.height - 1) 0 ≡ x.marker)

-- the answer of the code's test, and that the tape holds the stack
pub record Tested (k : Class) (x : Row) (c : Cursor) (tape : List ℕ) (b : Bool) : Type 0 where
  pub within : c.height ≤ length tape
  pub exact : Exact (Fits k x c tape) b

-- "A call row … pushes", a return row "pops": how high the stack is then
abbrev pub height_after : Class → ℕ → ℕ
height_after unused height = height
height_after call height = height + 1
height_after return height = height - 1
height_after internal height = height

-- a byte was put at a place where another stood
pub record Exchanged (tape : List ℕ) (at byte old : ℕ) (tape' : List ℕ) : Type 0 where
  pub within : at < length tape
  pub was : old ≡ get_or tape at 0
  pub is : tape' ≡ set tape at byte

-- "appends its word": to what stands on the tape up to an end
pub record Appended (tape : List ℕ) (end : ℕ) (w : Word) (longer : ℕ) (tape' : List ℕ) : Type 0 where
  pub within : end ≤ length tape
  pub more : longer ≡ end + length w
  pub short : length w ≤ 255
  pub is : take longer tape' ≡ take end tape ++ w

-- what stands on the tape up to an end is as it was: the stack, and what was written
pub record Untouched (tape : List ℕ) (end : ℕ) (tape' : List ℕ) : Type 0 where
  pub kept : take end tape' ≡ take end tape

-- what a row makes of the second's configuration
abbrev pub goes_on : List ℕ → Turn → List ℕ → List Config
goes_on second turn tape = after_row (meant turn.class) (row_at second turn.row) (config_of turn.cursor tape)

-- the key of a joined row, whose state is a number above `base`: "State (p, q) has number p times the second's state
-- count plus q"; "The row's word is what the second wrote"
abbrev pub joined_key : ℕ → ℕ → ℕ → ℕ → Config → Word
joined_key symbol from base marker e =
    row_key
    (record { symbol = symbol; from = from; to = base + e.state; marker = marker; word = e.output })

-- "the first's marker with the markers left on that stack"; its number among the joined markers, "from 1"
abbrev pub left_key : ℕ → Config → Word
left_key marker e = mark_key (mark marker e.stack)

abbrev pub left_number : List Word → ℕ → Config → ℕ
left_number marks marker e = suc (rank (λ (w : Word). w) marks (left_key marker e))

-- the marks that a goal looks numbers up among: "numbered from 1"
abbrev pub marks_of : List ℕ → Goal → List Word
marks_of keys (Mark marker) = []
marks_of keys (Call symbol from base marker marks) = words_of keys marks
marks_of keys (Close symbol from base marker) = []

-- "each ending gives a row", or a mark first; "An internal row's ending must have that stack empty", and a return row's
-- "must end empty"
abbrev pub keys_of : List Word → Goal → Config → List Word
keys_of marks (Mark marker) e = left_key marker e ∷ []
keys_of marks (Call symbol from base marker count) e = joined_key symbol from base (left_number marks marker e) e ∷ []
keys_of marks (Close symbol from base marker) e =
    only (is_empty e.stack) (joined_key symbol from base marker e)

-- what is asked of an ending: its state is a byte above `base`, its mark is among those that have a number
abbrev pub Suits : List Word → Goal → Config → Type 0
Suits marks (Mark marker) e = Unit {0}
Suits marks (Call symbol from base marker count) e = (base + e.state < 256) × (left_key marker e among marks)
Suits marks (Close symbol from base marker) e = base + e.state < 256

pub record Suited (marks : List Word) (goal : Goal) (l : List Config) : Type 0 where
  pub each : (e : Config) → e among l → Suits marks goal e

-- what all endings of a word's readings give, and those that go on from some configurations
unfoldable pub findings : List ℕ → List Word → Goal → Word → Config → List Word
findings second marks goal word c = each (keys_of marks goal) (endings (table_of second) word c)

abbrev pub findings_of : List ℕ → List Word → Goal → Word → List Config → List Word
findings_of second marks goal word l = each (findings second marks goal word) l

-- what a reading asks: a good file, and room for a marker and 255 bytes for each byte of the word
pub record Reads (second : List ℕ) (c : Cursor) (word : Word) : Type 0 where
  pub good : GoodFile first_edition second
  pub high : c.height + length word ≤ stack_room
  pub behind : stack_room ≤ c.end
  pub room : c.end + 255 * length word ≤ 4128

-- the same of one that goes on by a row
pub record Branches (second : List ℕ) (turn : Turn) (rest : Word) : Type 0 where
  pub good : GoodFile first_edition second
  pub row : turn.row < row_count second
  pub high : turn.cursor.height + 1 + length rest ≤ stack_room
  pub behind : stack_room ≤ turn.cursor.end
  pub room : turn.cursor.end + 255 + 255 * length rest ≤ 4128

-- the joined markers: "markers over 64" are refused before
pub record Numbered (keys : List ℕ) (count : ℕ) : Type 0 where
  pub standing : Standing keys count
  pub most : count ≤ 64

-- those that a goal looks numbers up among
abbrev pub Ranked : List ℕ → Goal → Type 0
Ranked keys (Mark marker) = Unit {0}
Ranked keys (Call symbol from base marker marks) = Numbered keys marks
Ranked keys (Close symbol from base marker) = Unit {0}

-- "numbered from 1": the number of a mark that has one
pub record NumberOf (marks : List Word) (key : Word) (number : ℕ) : Type 0 where
  pub is : key among marks → number ≡ suc (rank (λ (w : Word). w) marks key)
