-- The rule file of a table, part after part: document 01, "The rule file" and "Joining two hops".
use Rattle.std.specs.Prelude.{List, [], ◌∷◌, ◌++◌, map, ℕ, zero, suc, ◌+◌, ◌*◌, ◌/◌, ◌%◌, ◌^◌, length}
use Rattle.words.specs.Lists.{up_to}
use Rattle.meaning.specs.Parts.{class_count, set_size, row_size, classes_start, starting_start, final_start, rows_start}
use Rattle.meaning.specs.Table.{code, Row, Table}
use Rattle.meaning.specs.Runs.{said}
use Rattle.meaning.specs.Joining.{file_size}

-- "numbers little-endian": the lowest `k` bytes of a number
abbrev pub little_endian : ℕ → ℕ → List ℕ
little_endian zero n = []
little_endian (suc k) n = n % 256 ∷ little_endian k (n / 256)

-- bytes 0 to 7: "edition, 1", "states", "markers", "depth cap", "waiting cap" (2), "length of the whole file" (2)
abbrev pub head_bytes : Table → List ℕ
head_bytes T =
    1 ∷ T.states ∷ T.markers ∷ T.depth_cap ∷ little_endian 2 T.waiting_cap ++ little_endian 2 (file_size T)

-- "five entries, each start (2) and length (2)"
abbrev pub entry_bytes : ℕ → ℕ → List ℕ
entry_bytes start size = little_endian 2 start ++ little_endian 2 size

-- "Bodies stand in this order from byte 28 with no gap and fill the file"
abbrev pub content_bytes : Table → List ℕ
content_bytes T =
    let n = row_size * length T.rows in
    entry_bytes classes_start class_count
    ++ entry_bytes starting_start set_size
    ++ entry_bytes final_start set_size
    ++ entry_bytes rows_start n
    ++ entry_bytes (rows_start + n) (length (said T.rows))

-- "classes (256 bytes, each 0 to 3)"
unfoldable pub class_bytes : Table → List ℕ
class_bytes T = map (λ a. code (T.class a)) (up_to class_count)

-- "Bit i of the number stands for state i": the number of a set
abbrev pub set_of : List ℕ → ℕ
set_of [] = 0
set_of (q ∷ l) = 2 ^ q + set_of l

-- "A set is one 64-bit number": its bytes
abbrev pub set_bytes : List ℕ → List ℕ
set_bytes l = little_endian set_size (set_of l)

-- "A row is symbol, from, to, marker (one byte each), word start (2), word length (1), zero (1)"
abbrev pub row_bytes : ℕ → Row → List ℕ
row_bytes start r =
    r.symbol ∷ r.from ∷ r.to ∷ r.marker ∷ little_endian 2 start ++ length r.word ∷ 0 ∷ []

-- "Words are laid in row order, none shared": each starts where the word of the row before ends
abbrev pub rows_bytes : ℕ → List Row → List ℕ
rows_bytes start [] = []
rows_bytes start (r ∷ l) = row_bytes start r ++ rows_bytes (start + length r.word) l

-- "Contents first, then bodies": the rule file of a table, whose words body is all its rows' words
unfoldable pub file_of : Table → List ℕ
file_of T =
    head_bytes T
    ++ content_bytes T
    ++ class_bytes T
    ++ set_bytes T.starting
    ++ set_bytes T.final
    ++ rows_bytes 0 T.rows
    ++ said T.rows
