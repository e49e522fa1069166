-- What the answers of the functions stand for, and what those that write ask and leave.
use Rattle.std.specs.Prelude.{◌≡◌, List, ◌++◌, ℕ, ◌+◌, ◌<◌, ◌≤◌, length, get_or, take, drop}
use Rattle.words.specs.Words.{Word}
use Rattle.words.specs.Order.{Side, lower, same, upper}
use Rattle.std.specs.declared.cmp.Ordering.{Ordering}
use Rattle.std.specs.declared.cmp.Ordering.TheVariants.{Less, Equal, Greater}

-- the side that an answer of `compare` stands for
abbrev pub side_of : Ordering → Side
side_of Less = lower
side_of Equal = same
side_of Greater = upper

-- a text has room for `w` from the place `at` on
pub record Room (text : List ℕ) (at : ℕ) (w : Word) : Type 0 where
  pub fits : at + length w ≤ length text

-- `w` was written from the place `at` on, the place after it is `r`, and everything else is as it was
pub record Appended (text : List ℕ) (at : ℕ) (w : Word) (r : ℕ) (text' : List ℕ) : Type 0 where
  pub next : r ≡ at + length w
  pub within : r ≤ length text
  pub is : text' ≡ take at text ++ w ++ drop r text

-- a byte came at a place, and those from there on, of the first `count`, stand one later; the others are as they were
pub record Inserted (l : List ℕ) (count at byte : ℕ) (l' : List ℕ) : Type 0 where
  pub whole : length l' ≡ length l
  pub before : (i : ℕ) → i < at → get_or l' i 0 ≡ get_or l i 0
  pub here : get_or l' at 0 ≡ byte
  pub after : (i : ℕ) → at ≤ i → i < count → get_or l' (i + 1) 0 ≡ get_or l i 0
  pub behind : (i : ℕ) → count < i → get_or l' i 0 ≡ get_or l i 0
