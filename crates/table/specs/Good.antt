-- When a rule file is good: document 01, "The rule file", a field for each rule, in file order.
use Rattle.std.specs.Prelude.{◌≡◌, ℕ, ◌+◌, ◌*◌, ◌^◌, ◌<◌, ◌≤◌, List, length}
use Rattle.words.specs.Order.{Less}
use Rattle.words.specs.LittleEndian.{byte, two, eight}
use Rattle.meaning.specs.Parts.{head_size, classes_entry, starting_entry, final_entry, rows_entry, words_entry}
use Rattle.meaning.specs.Parts.{class_count, set_size, row_size, classes_start, starting_start, final_start, rows_start}
use Rattle.meaning.specs.Table.{Limits, edition1, MarkFits, row_key}
use Rattle.table.specs.File.{row_count, row_start, words_start, words_length, row_at, class_at}

-- an edition of the rule file: its number, and what it allows
pub record Edition : Type 0 where
  pub number : ℕ
  pub limits : Limits

-- "edition, 1"
abbrev pub first_edition : Edition
first_edition = record { number = 1; limits = edition1 }

-- bytes 0 to 7: "edition, 1 … states, 1 to 64 … markers, 0 to 64 … depth cap, 1 to 32 … waiting cap, 0 to 512 … length
-- of the whole file"
pub record Head (E : Edition) (file : List ℕ) : Type 0 where
  pub long : head_size ≤ length file
  pub edition : byte file 0 ≡ E.number
  pub states : (1 ≤ byte file 1) × (byte file 1 ≤ E.limits.states)
  pub markers : byte file 2 ≤ E.limits.markers
  pub depth_cap : (1 ≤ byte file 3) × (byte file 3 ≤ E.limits.depth)
  pub waiting_cap : two file 4 ≤ E.limits.waiting
  pub whole : two file 6 ≡ length file

-- "five entries, each start (2) and length (2)"
pub record FileEntry (file : List ℕ) (at start size : ℕ) : Type 0 where
  pub starts : two file at ≡ start
  pub lasts : two file (at + 2) ≡ size

-- "Bodies stand in this order from byte 28 with no gap and fill the file"
pub record Contents (E : Edition) (file : List ℕ) : Type 0 where
  pub long : classes_start ≤ length file
  pub classes : FileEntry file classes_entry classes_start class_count
  pub starting : FileEntry file starting_entry starting_start set_size
  pub final : FileEntry file final_entry final_start set_size
  pub rows : FileEntry file rows_entry rows_start (row_size * row_count file)
  pub count : row_count file ≤ E.limits.rows
  pub words : FileEntry file words_entry (words_start file) (words_length file)
  pub bytes : words_length file ≤ E.limits.words
  pub fill : words_start file + words_length file ≡ length file

-- "classes (256 bytes, each 0 to 3)"
pub record Classes (file : List ℕ) : Type 0 where
  pub each : (a : ℕ) → a < class_count → byte file (classes_start + a) ≤ 3

-- "bits from the state count upward are 0. The starting set isn't empty; the final set may be"
pub record Sets (file : List ℕ) : Type 0 where
  pub starting : eight file starting_start < 2 ^ byte file 1
  pub some : 0 < eight file starting_start
  pub final : eight file final_start < 2 ^ byte file 1

-- "Marker is 0 for an internal row, else 1 to the marker count", of a row by its place
abbrev pub MarkAt : List ℕ → ℕ → Type 0
MarkAt file i = MarkFits (class_at file (row_at file i).symbol) (byte file 2) (row_at file i).marker

-- "States are below the state count"; its word "lies wholly inside"; "zero (1)"
pub record RowFits (file : List ℕ) (i : ℕ) : Type 0 where
  pub marker : MarkAt file i
  pub from : (row_at file i).from < byte file 1
  pub to : (row_at file i).to < byte file 1
  pub word : two file (row_start i + 4) + byte file (row_start i + 6) ≤ words_length file
  pub zero : byte file (row_start i + 7) ≡ 0

-- "Rows rise strictly by symbol, from, marker, to, then word in byte order, a beginning before what it begins": one row
-- and the next
pub record Rising (file : List ℕ) (i : ℕ) : Type 0 where
  pub less : Less (row_key (row_at file i)) (row_key (row_at file (i + 1)))

-- what is asked of each row, and of each and the next
pub record Rows (file : List ℕ) : Type 0 where
  pub fit : (i : ℕ) → i < row_count file → RowFits file i
  pub rise : (i : ℕ) → i + 1 < row_count file → Rising file i

-- "the file breaks a rule above": it breaks none, part by part in file order
pub record GoodFile (E : Edition) (file : List ℕ) : Type 0 where
  pub head : Head E file
  pub contents : Contents E file
  pub classes : Classes file
  pub sets : Sets file
  pub rows : Rows file
