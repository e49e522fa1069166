-- Where the parts of a rule file start and how long they are: document 01, "The rule file".
use Rattle.std.specs.Prelude.{ℕ, ◌+◌}

-- bytes 0 to 7: "edition" to "length of the whole file"
abbrev pub head_size : ℕ
head_size = 8

-- "five entries, each start (2) and length (2)"
abbrev pub entry_size : ℕ
entry_size = 4

-- "8-27 | five entries", in the order of the bodies: that of the classes,
abbrev pub classes_entry : ℕ
classes_entry = head_size

-- of the starting set,
abbrev pub starting_entry : ℕ
starting_entry = classes_entry + entry_size

-- of the final set,
abbrev pub final_entry : ℕ
final_entry = starting_entry + entry_size

-- of the rows
abbrev pub rows_entry : ℕ
rows_entry = final_entry + entry_size

-- and of the words
abbrev pub words_entry : ℕ
words_entry = rows_entry + entry_size

-- "classes (256 bytes, each 0 to 3)"
abbrev pub class_count : ℕ
class_count = 256

-- "starting set (8); final set (8)"
abbrev pub set_size : ℕ
set_size = 8

-- "rows (8 bytes each …)"
abbrev pub row_size : ℕ
row_size = 8

-- "Bodies stand in this order from byte 28 with no gap": the classes,
abbrev pub classes_start : ℕ
classes_start = words_entry + entry_size

-- the starting set, at 284,
abbrev pub starting_start : ℕ
starting_start = classes_start + class_count

-- the final set, at 292,
abbrev pub final_start : ℕ
final_start = starting_start + set_size

-- and the rows, at 300; the words stand behind them
abbrev pub rows_start : ℕ
rows_start = final_start + set_size
