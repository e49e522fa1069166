-- A shelf: words, each once and in rising byte order, in a room that the caller lends. Their bytes stand from its start
-- on, one after the other as they came; behind the room for them stands where the word of each slot starts, in two
-- bytes, and behind that which slot is read first, second, and so on.
use Rattle.std.specs.Prelude.{◌≡◌, ◌⊎◌, List, [], ◌∷◌, ◌++◌, map, ℕ, ◌+◌, ◌*◌, ◌<◌, ◌≤◌, length, get_or, take, Option, Some, None, Result, Ok, Err}
use Rattle.std.proofs.Math.Seq.{slice}
use Rattle.words.specs.Lists.{◌among◌, up_to}
use Rattle.words.specs.Words.{Word}
use Rattle.words.specs.Order.{Less, Rises, arranged, rank}
use Rattle.join_shelf.specs.declared.Stock.{Stock}

-- "rows over 256", and 4 bytes of each before its word with "the words together over 4,096": markers need less
abbrev pub shelf_cap : ℕ
shelf_cap = 256

abbrev pub shelf_room : ℕ
shelf_room = 5120

abbrev pub order_at : ℕ
order_at = 5634

-- where the word in slot `k` starts; which slot is read `i`-th
abbrev pub start_of : List ℕ → ℕ → ℕ
start_of room k = get_or room (shelf_room + 2 * k) 0 + 256 * get_or room (shelf_room + 2 * k + 1) 0

abbrev pub slot_of : List ℕ → ℕ → ℕ
slot_of room i = get_or room (order_at + i) 0

-- the word in slot `k`; the `i`-th word in order; the first `n` of them
abbrev pub word_in : List ℕ → ℕ → Word
word_in room k = slice (start_of room k) (start_of room (k + 1)) room

abbrev pub word_at : List ℕ → ℕ → Word
word_at room i = word_in room (slot_of room i)

abbrev pub words_of : List ℕ → ℕ → List Word
words_of room n = map (word_at room) (up_to n)

-- what a shelf keeps of the words put on it ("Equal rows count once"), and how many bytes words have together
abbrev pub kept : List Word → List Word
kept made = arranged (λ (w : Word). w) made

abbrev pub total : List Word → ℕ
total [] = 0
total (w ∷ l) = length w + total l

-- what a reader asks: each place names a slot in use, each slot in use holds a part of the room, and the words rise
pub record Standing (room : List ℕ) (count : ℕ) : Type 0 where
  pub few : count ≤ shelf_cap
  pub slots : (i : ℕ) → i < count → slot_of room i < count
  pub edges : (k : ℕ) → k < count → start_of room k ≤ start_of room (k + 1)
  pub ends : (k : ℕ) → k < count → start_of room (k + 1) ≤ shelf_room
  pub rise : Rises (λ (w : Word). w) (words_of room count)

-- the `i`-th of them
pub record Stands (room : List ℕ) (i : ℕ) : Type 0 where
  pub count : ℕ
  pub standing : Standing room count
  pub within : i < count

-- the words that stand are those put so far, and their bytes fill the room up to `used`
pub record Held (made : List Word) (room : List ℕ) (count used : ℕ) : Type 0 where
  pub standing : Standing room count
  pub are : words_of room count ≡ kept made
  pub filled : used ≡ total (kept made)
  pub fits : used ≤ shelf_room
  pub behind : (k : ℕ) → k < count → start_of room (k + 1) ≤ used
  pub last : 0 < count → start_of room count ≡ used

-- what a shelf is, of words put on it one after the other: all are kept, or there is no room for all
pub record Shelved (words : List Word) (r : Option Stock) (room : List ℕ) : Type 0 where
  pub made : (stock : Stock) → r ≡ Some stock → Held words room stock.count stock.used
  pub full : r ≡ None → (shelf_cap < length (kept words)) ⊎ (shelf_room < total (kept words))

-- nothing was put, whatever the room holds; something was put
abbrev pub Bare : Option Stock → Type 0
Bare r = (room : List ℕ) → Shelved [] r room

abbrev pub SomeShelved : List ℕ → Option Stock → Type 0
SomeShelved room r = (made : List Word) × Shelved made r room

-- these words were put after whatever was before
abbrev pub Gathers : List Word → List ℕ → Option Stock → Option Stock → List ℕ → Type 0
Gathers more room s r room' =
    (made : List Word) → Shelved made s room → Shelved (made ++ more) r room'

-- how many words come before a word: its rank, where it is among them
pub record WordPlace (room : List ℕ) (count : ℕ) (w : Word) (at : ℕ) : Type 0 where
  pub within : at ≤ count
  pub before : (i : ℕ) → i < at → Less (word_at room i) w
  pub onward : (i : ℕ) → at ≤ i → i < count → Less (word_at room i) w → ⊥
  pub ranked : w among words_of room count
      → at ≡ rank (λ (v : Word). v) (words_of room count) w

-- a search for a word ends at it, or where it would stand
pub record Sought (room : List ℕ) (count : ℕ) (w : Word) (r : Result ℕ ℕ) : Type 0 where
  pub found : (at : ℕ) → r ≡ Ok at → WordPlace room count w at × (at < count) × (w ≡ word_at room at)
  pub missed : (at : ℕ) → r ≡ Err at → WordPlace room count w at × (at < count → w ≡ word_at room at → ⊥)

-- the bytes of a word were laid behind those in use, in the slot after those in use
pub record Stored (room : List ℕ) (count used : ℕ) (w : Word) (end : ℕ) (room' : List ℕ) : Type 0 where
  pub long : end ≡ used + length w
  pub within : end ≤ length room
  pub bytes : take end room' ≡ take used room ++ w
  pub before : (k : ℕ) → k < count → start_of room' k ≡ start_of room k
  pub from : start_of room' count ≡ used
  pub to : start_of room' (count + 1) ≡ end

-- and the order is as it was
abbrev pub SameOrder : List ℕ → List ℕ → Type 0
SameOrder room room' = (i : ℕ) → slot_of room' i ≡ slot_of room i
