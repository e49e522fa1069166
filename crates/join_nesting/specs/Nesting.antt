-- What the parts of the nesting test ask and answer: document 01, "Joining two hops".
use Rattle.std.specs.Prelude.{◌≡◌, List, ◌++◌, ℕ, ◌<◌, ◌≤◌, Option, Some, None}
use Rattle.std.proofs.Math.Option.{Option as Many, some, none}
use Rattle.words.specs.Lists.{◌among◌}
use Rattle.words.specs.Words.{Word, Bytes}
use Rattle.meaning.specs.Table.{Class, unused, call, return, internal, Row, Table}
use Rattle.meaning.specs.Nesting.{Nested, level}
use Rattle.table.specs.File.{row_count, row_at, table_of}
use Rattle.table.specs.Good.{first_edition as edition, GoodFile}

-- two tables that `check` took, the first hop's and the second's
pub record Hops (a b : List ℕ) : Type 0 where
  pub first : GoodFile edition a
  pub first-bytes : Bytes a
  pub second : GoodFile edition b
  pub second-bytes : Bytes b

-- how many calls are open; none where a return closed nothing, or for a symbol of class 0
abbrev pub level_of : Option ℕ → Many ℕ
level_of None = none
level_of (Some many) = some many

-- no more than one word can open
pub record Few (from : Option ℕ) : Type 0 where
  pub few : (many : ℕ) → from ≡ Some many → many ≤ 255

-- what the word of row `i` leaves open
pub record Opens (a b : List ℕ) (i : ℕ) (from : Option ℕ) : Type 0 where
  pub hops : Hops a b
  pub within : i < row_count a
  pub is : level_of from ≡ level (table_of b).class (row_at a i).word 0

-- not: "a byte in some word of the first table has class 0 in the second"
pub record Known (k : ℕ → Class) (w : Word) : Type 0 where
  pub each : (a : ℕ) → a among w → k a ≡ unused → ⊥

-- of all its words
pub record AllKnown (k : ℕ → Class) (A : Table) : Type 0 where
  pub each : (r : Row) → r among A.rows → Known k r.word

-- not: "a call row's and a return row's word, with one marker, joined in that order, aren't well nested"
pub record PairNests (k : ℕ → Class) (A : Table) (r s : Row) : Type 0 where
  pub nested : A.class s.symbol ≡ return → r.marker ≡ s.marker → Nested k (r.word ++ s.word)

-- of all rows with this one
pub record PairsNest (k : ℕ → Class) (A : Table) (r : Row) : Type 0 where
  pub each : (s : Row) → s among A.rows → PairNests k A r s

-- nor: "an internal row's word isn't well nested by the second's classes"
pub record RowNests (k : ℕ → Class) (A : Table) (r : Row) : Type 0 where
  pub inner : A.class r.symbol ≡ internal → Nested k r.word
  pub pairs : A.class r.symbol ≡ call → PairsNest k A r

-- of all rows
pub record RowsNest (k : ℕ → Class) (A : Table) : Type 0 where
  pub each : (r : Row) → r among A.rows → RowNests k A r
