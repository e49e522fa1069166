-- Words, and the longest common beginning of two words and of the words of a list (004, section 1: u ∧ v, lcp).
use Rattle.std.specs.Prelude.{◌≡◌, cond, List, [], ◌∷◌, ◌++◌, ℕ, ◌<◌, eqb}
use Rattle.words.specs.Lists.{◌among◌}

-- a word, a message and an output are lists of numbers; which of them are bytes is said where it matters
abbrev pub Word : Type 0
Word = List ℕ

-- all its numbers are bytes
abbrev pub Bytes : Word → Type 0
Bytes w = (b : ℕ) → b among w → b < 256

-- `xs` is a beginning of `ys`: some rest joined behind it gives `ys`
pub record Begins (xs ys : Word) : Type 0 where
  pub rest : Word
  pub joins : xs ++ rest ≡ ys

-- 004, section 1, u ∧ v: the longest common beginning of two words
abbrev pub shared : Word → Word → Word
shared [] ys = []
shared (x ∷ xs) [] = []
shared (x ∷ xs) (y ∷ ys) = cond (eqb x y) (x ∷ shared xs ys) []

-- the longest common beginning of a word and the words of a list
abbrev pub common_of : Word → List Word → Word
common_of w [] = w
common_of w (v ∷ l) = shared w (common_of v l)

-- 004, section 1, lcp: of the words of a list; the empty list has none, and is given the empty word
abbrev pub common : List Word → Word
common [] = []
common (w ∷ l) = common_of w l
