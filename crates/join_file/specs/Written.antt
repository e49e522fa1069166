-- What the parts of the joined table's file are, and what those that put them ask: document 01, "The rule file" and
-- "Joining two hops".
use Rattle.std.specs.Prelude.{◌≡◌, List, ◌∷◌, ◌++◌, map, ℕ, ◌+◌, ◌*◌, ◌<◌, ◌≤◌, length, get_or, drop}
use Rattle.words.specs.Words.{Word}
use Rattle.meaning.specs.Parts.{class_count, set_size, row_size, classes_start, starting_start, final_start, rows_start}
use Rattle.meaning.specs.Table.{Row, Table, GoodSet}
use Rattle.meaning.specs.Runs.{said}
use Rattle.meaning.specs.Joining.{pairs_of}
use Rattle.sets.specs.Sets.{members}
use Rattle.table.specs.File.{table_of}
use Rattle.table.specs.Good.{first_edition as edition, GoodFile}
use Rattle.join_meaning.specs.Laid.{entry_bytes, set_bytes, file_of}
use Rattle.join_shelf.specs.Shelved.{word_at, words_of, Standing}
use Rattle.join_file.specs.declared.Sizes.{Sizes}

-- the row that a key stands for: "symbol, from, marker, to, then word"
abbrev pub key_row : Word → Row
key_row w = record { symbol = get_or w 0 0; from = get_or w 1 0; to = get_or w 3 0; marker = get_or w 2 0; word = drop 4 w }

-- the rows whose keys stand on a shelf, in their order
abbrev pub rows_in : List ℕ → ℕ → List Row
rows_in rows n = map key_row (words_of rows n)

-- "it starts or is final when both are. Classes and depth cap are the first's, waiting cap the second's": the joined
-- table, but for how many markers and which rows it has
abbrev pub paired : Table → Table → ℕ → List Row → Table
paired A B markers rows =
    record {
      states = A.states * B.states;
      markers = markers;
      depth_cap = A.depth_cap;
      waiting_cap = B.waiting_cap;
      class = A.class;
      starting = pairs_of B.states A.starting B.starting;
      final = pairs_of B.states A.final B.final;
      rows = rows;
    }

-- its file, of the tables of two files and the rows of a shelf
abbrev pub paired_file : List ℕ → List ℕ → Sizes → List ℕ → List ℕ
paired_file one two sizes rows =
    file_of (paired (table_of one) (table_of two) sizes.markers (rows_in rows sizes.rows))

-- bytes 0 to 7, of a table with so many markers whose file has so many bytes
abbrev pub head_of : Table → Table → ℕ → ℕ → List ℕ
head_of A B markers size =
    1 ∷ A.states * B.states ∷ markers ∷ A.depth_cap ∷ entry_bytes B.waiting_cap size

-- "five entries": all starts follow from how long the rows and the words are
abbrev pub entries_bytes : ℕ → ℕ → List ℕ
entries_bytes rows words =
    entry_bytes classes_start class_count
    ++ entry_bytes starting_start set_size
    ++ entry_bytes final_start set_size
    ++ entry_bytes rows_start rows
    ++ entry_bytes (rows_start + rows) words

-- the starting and the final set
abbrev pub sets_bytes : Table → Table → List ℕ
sets_bytes A B =
    set_bytes (pairs_of B.states A.starting B.starting) ++ set_bytes (pairs_of B.states A.final B.final)

-- two sets of states, the second below `n`, whose pairs are below 64
pub record Paired (one other n : ℕ) : Type 0 where
  pub states : ℕ
  pub first : GoodSet states (members one)
  pub second : GoodSet n (members other)
  pub some : 1 ≤ n
  pub few : states * n ≤ 64

-- two good tables whose pairs of states are at most 64: "states over 64"
pub record TwoTables (one two : List ℕ) : Type 0 where
  pub first : GoodFile edition one
  pub second : GoodFile edition two
  pub few : (table_of one).states * (table_of two).states ≤ 64

-- a row's key, with a word of no more than 255 bytes: "a joined word over 255 bytes"
pub record Key (w : Word) : Type 0 where
  pub whole : 4 ≤ length w
  pub short : length w ≤ 259

-- a shelf with the keys of rows
pub record Keys (rows : List ℕ) (count : ℕ) : Type 0 where
  pub standing : Standing rows count
  pub each : (i : ℕ) → i < count → Key (word_at rows i)

-- all that the file is made of, and room for it; how many bytes the words have together is told
pub record Laying (one two : List ℕ) (sizes : Sizes) (rows out : List ℕ) : Type 0 where
  pub tables : TwoTables one two
  pub markers : sizes.markers ≤ 255
  pub keys : Keys rows sizes.rows
  pub words : sizes.words ≡ length (said (rows_in rows sizes.rows))
  pub room : rows_start + row_size * sizes.rows + sizes.words ≤ length out
