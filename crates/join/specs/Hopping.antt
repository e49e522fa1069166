-- What `join` knows as its tests pass, one after the other: document 01, "Joining two hops".
use Rattle.std.specs.Prelude.{◌≡◌, List, ℕ, ◌<◌, ◌≤◌, length}
use Rattle.meaning.specs.Nesting.{Nests}
use Rattle.meaning.specs.Joining.{marks}
use Rattle.table.specs.File.{table_of}
use Rattle.join_shelf.specs.Shelved.{word_at, Held}
use Rattle.join.specs.Gathering.{Small, joined_keys}

-- two tables that `check` took and that nest, with no "word of the first … over 16 bytes" and no "states over 64"
pub record Nested (one two : List ℕ) : Type 0 where
  pub small : Small one two
  pub nest : Nests (table_of two).class (table_of one)

-- a key on the shelf is longer than that of a row whose word has 255 bytes
pub record LongKey (rows : List ℕ) (count : ℕ) : Type 0 where
  pub at : ℕ
  pub within : at < count
  pub long : 259 < length (word_at rows at)

-- the joined rows stand on a shelf, no more than 256; and no "markers over 64"
pub record Rowed (one two : List ℕ) (markers : ℕ) (rows : List ℕ) (count used : ℕ) : Type 0 where
  pub nested : Nested one two
  pub numbers : markers ≡ length (marks (table_of one) (table_of two))
  pub few : markers ≤ 64
  pub held : Held (joined_keys (table_of one) (table_of two)) rows count used
