-- What the functions of this crate answer and ask, beyond the definitions of the file.
use Rattle.std.specs.Prelude.{◌≡◌, ◌↔◌, List, ℕ, ◌+◌, ◌*◌, ◌<◌, ◌≤◌, length, Result, ⊤}
use Rattle.words.specs.LittleEndian.{byte, two}
use Rattle.numbers.specs.Numbers.{number_of}
use Rattle.numbers.specs.declared.Refusal.{Refusal}
use Rattle.meaning.specs.Parts.{row_size}
use Rattle.meaning.specs.Table.{Class as Kind, unused, call, return, internal, Row}
use Rattle.table.specs.File.{row_count, row_start, words_start, row_at}
use Rattle.table.specs.Good.{first_edition, GoodFile}
use Rattle.table.specs.declared.read.Class.{Class}
use Rattle.table.specs.declared.read.Class.TheVariants.{Unused, Call, Return, Internal}

-- 1 BadTable: "the file breaks a rule above"; "Check and begin: 1"
pub record Judged (file : List ℕ) (number : ℕ) : Type 0 where
  pub good : (number ≡ 0) ↔ GoodFile first_edition file
  pub bad : (number ≡ 1) ↔ (GoodFile first_edition file → ⊥)

-- "Check and begin: 1": what an answer of `check` says; it has no count, for it writes nothing
abbrev pub Checked : List ℕ → Result ⊤ Refusal → Type 0
Checked file r = Judged file (number_of r)

-- the class that a variant of the code stands for
abbrev pub meant : Class → Kind
meant Unused = unused
meant Call = call
meant Return = return
meant Internal = internal

-- "Rows rise strictly by symbol, from, …": a row that stands before those of a symbol from a state
pub record RowBefore (x : Row) (symbol from : ℕ) : Type 0 where
  pub symbols : x.symbol ≤ symbol
  pub froms : x.symbol ≡ symbol → x.from < from

-- exactly the rows below `r` stand before those of a symbol from a state
pub record FirstRow (file : List ℕ) (symbol from r : ℕ) : Type 0 where
  pub within : r ≤ row_count file
  pub before : (k : ℕ) → k < r → RowBefore (row_at file k) symbol from
  pub onward : (k : ℕ) → r ≤ k → k < row_count file → RowBefore (row_at file k) symbol from → ⊥

-- the rows of a symbol from a state: from the first of them on, up to where those from the next state would stand
pub record RowsFrom (file : List ℕ) (symbol from start end : ℕ) : Type 0 where
  pub starts : FirstRow file symbol from start
  pub ends : FirstRow file symbol (from + 1) end

-- what functions inside ask: that a row stands in the file
abbrev pub RowIn : List ℕ → ℕ → Type 0
RowIn file i = row_start i + row_size ≤ length file

-- what functions inside ask: that a row and its word stand in the file
pub record WordIn (file : List ℕ) (i : ℕ) : Type 0 where
  pub row : RowIn file i
  pub word : words_start file + two file (row_start i + 4) + byte file (row_start i + 6) ≤ length file

-- a row's symbol, from, marker and to, which are bytes, as one number
pub record Headed (r : Row) (head : ℕ) : Type 0 where
  pub symbol : r.symbol < 256
  pub from : r.from < 256
  pub marker : r.marker < 256
  pub to : r.to < 256
  pub is : head ≡ ((r.symbol * 256 + r.from) * 256 + r.marker) * 256 + r.to
