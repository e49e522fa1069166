-- The order of words, byte by byte, a beginning before what it begins; lists that rise strictly by a key.
use Rattle.std.specs.Prelude.{◌≡◌, Bool, true, false, cond, ◌⊎◌, List, [], ◌∷◌, ℕ, suc, ◌<◌, eqb, ltb}
use Rattle.words.specs.Lists.{◌among◌}
use Rattle.words.specs.Words.{Word}

-- "in byte order, a beginning before what it begins"
abbrev pub Less : Word → Word → Type 0
Less [] [] = ⊥
Less [] (y ∷ ys) = Unit {0}
Less (x ∷ xs) [] = ⊥
Less (x ∷ xs) (y ∷ ys) = (x < y) ⊎ ((x ≡ y) × Less xs ys)

-- where one word stands to another in that order
pub data Side : Type 0 where
  lower same upper : Side

-- the order as a test: on which side of the second word the first stands
abbrev pub side : Word → Word → Side
side [] [] = same
side [] (y ∷ ys) = lower
side (x ∷ xs) [] = upper
side (x ∷ xs) (y ∷ ys) = cond (eqb x y) (side xs ys) (cond (ltb x y) lower upper)

-- whether that side says that the words are the same
abbrev pub is_same : Side → Bool
is_same lower = false
is_same same = true
is_same upper = false

-- whether two words are the same
abbrev pub same_word : Word → Word → Bool
same_word xs ys = is_same (side xs ys)

module _ {A : Type 0} (key : A → Word) where
  -- "rise strictly": each is below those after it, by its key
  abbrev pub Rises : List A → Type 0
  Rises [] = Unit {0}
  Rises (x ∷ l) = ((y : A) → y among l → Less (key x) (key y)) × Rises l

  -- `x` put at its place in a rising list `y ∷ l`, if `m` is `l` with `x` put at its place
  abbrev pub put_by : Side → A → A → List A → List A → List A
  put_by lower x y l m = x ∷ y ∷ l
  put_by same x y l m = y ∷ l
  put_by upper x y l m = y ∷ m

  -- a thing put at its place in a rising list, unless one with its key is there: "counted once"
  abbrev pub put : A → List A → List A
  put x [] = x ∷ []
  put x (y ∷ l) = put_by (side (key x) (key y)) x y l (put x l)

  -- the rising list of what is in a list, each once
  abbrev pub arranged : List A → List A
  arranged [] = []
  arranged (x ∷ l) = put x (arranged l)

  -- the place of a thing in a list, counted from 0
  abbrev pub rank : List A → A → ℕ
  rank [] x = 0
  rank (y ∷ l) x = cond (same_word (key x) (key y)) 0 (suc (rank l x))
