-- Which byte of a rule file says what, and the table that a file stands for: document 01, "The rule file".
use Rattle.std.specs.Prelude.{cond, List, map, ℕ, ◌+◌, ◌*◌, ◌/◌, ltb, take, drop}
use Rattle.words.specs.Lists.{up_to}
use Rattle.words.specs.LittleEndian.{byte, two, eight}
use Rattle.words.specs.Words.{Word}
use Rattle.meaning.specs.Parts.{rows_entry, words_entry, row_size, class_count}
use Rattle.meaning.specs.Parts.{classes_start, starting_start, final_start, rows_start}
use Rattle.meaning.specs.Table.{Class, unused, class_of, Row, Table}
use Rattle.sets.specs.Sets.{members}

-- "8 bytes each": how many rows there are, by the length in the fourth entry
abbrev pub row_count : List ℕ → ℕ
row_count file = two file (rows_entry + 2) / row_size

-- where a row stands: the rows body starts at byte 300
abbrev pub row_start : ℕ → ℕ
row_start i = rows_start + row_size * i

-- where the words body starts: behind the rows, "with no gap"
abbrev pub words_start : List ℕ → ℕ
words_start file = rows_start + row_size * row_count file

-- the length in the fifth entry
abbrev pub words_length : List ℕ → ℕ
words_length file = two file (words_entry + 2)

-- "For each row, its word is the part of the words body from that start for that length"
abbrev pub word_of : List ℕ → ℕ → Word
word_of file i =
    take (byte file (row_start i + 6)) (drop (words_start file + two file (row_start i + 4)) file)

-- "A row is symbol, from, to, marker (one byte each), word start (2), word length (1), zero (1)"
abbrev pub row_at : List ℕ → ℕ → Row
row_at file i =
    record {
      symbol = byte file (row_start i);
      from = byte file (row_start i + 1);
      to = byte file (row_start i + 2);
      marker = byte file (row_start i + 3);
      word = word_of file i;
    }

-- "Each symbol 0 to 255 has a class": the classes stand from byte 28
abbrev pub class_at : List ℕ → ℕ → Class
class_at file a = cond (ltb a class_count) (class_of (byte file (classes_start + a))) unused

-- "The meaning of a table" is that of the table that a file stands for
unfoldable pub table_of : List ℕ → Table
table_of file =
    record {
      states = byte file 1;
      markers = byte file 2;
      depth_cap = byte file 3;
      waiting_cap = two file 4;
      class = class_at file;
      starting = members (eight file starting_start);
      final = members (eight file final_start);
      rows = map (row_at file) (up_to (row_count file));
    }
