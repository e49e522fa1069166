-- Rows looked at one after the other: where their words stand, and what is known of those passed. Assumes nothing.
use mathlib.Core.List.{List}
use Prim.Native.Nat.{ℕ, ◌+◌, ◌<◌}
use native.Mathlib.Omega.{arith}
use borrow.Author.Count.{below_more}
use Rattle.table.specs.File.{row_count, row_at}
use Rattle.table.specs.Good.{Edition, Contents, RowFits, Rising, GoodFile}
use Rattle.table.specs.Calls.{RowIn, WordIn, Headed}

-- rows stand in the file, and so do the words of those that fit
pub row_in : {E : Edition} (file : List ℕ) (i : ℕ) → Contents E file → i < row_count file → RowIn file i
row_in file i c l = let f = c.fill in omega arith

pub word-in : {E : Edition} (file : List ℕ) (i : ℕ) → Contents E file → i < row_count file → RowFits file i
    → WordIn file i
word-in file i c l r = record { row = row_in file i c l; word = let f = c.fill in let w = r.word in omega arith }

pub good-word : {E : Edition} (file : List ℕ) (i : ℕ) → GoodFile E file → i < row_count file → WordIn file i
good-word file i g l = word-in file i g.contents l (g.rows.fit i l)

-- row `i` and those before it fit and rise, and the last has this head
pub record Passed (file : List ℕ) (i head : ℕ) : Type 0 where
  pub within : i < row_count file
  pub fit : (k : ℕ) → k < i + 1 → RowFits file k
  pub rise : (k : ℕ) → k < i → Rising file k
  pub headed : Headed (row_at file i) head

pub passed-next : {file : List ℕ} {i last head : ℕ} → Passed file i last → i + 1 < row_count file
    → RowFits file (i + 1) → Headed (row_at file (i + 1)) head → Rising file i → Passed file (i + 1) head
passed-next p l f h r =
    record { within = l; fit = below_more _ _ p.fit f; rise = below_more _ _ p.rise r; headed = h }
