-- A table: 000, definition 12, and 004, definition 1.2, with the counts and caps of document 01; what makes it good.
use Rattle.std.specs.Prelude.{◌≡◌, Bool, cond, List, [], ◌∷◌, ℕ, ◌<◌, ◌≤◌, eqb, length}
use Rattle.words.specs.Lists.{◌among◌}
use Rattle.words.specs.Words.{Word, Bytes}
use Rattle.words.specs.Order.{Rises}

-- "Each symbol 0 to 255 has a class: 0 unused, 1 call, 2 return, 3 internal"
pub data Class : Type 0 where
  unused call return internal : Class

-- "0 unused, 1 call, 2 return, 3 internal": the number of a class
abbrev pub code : Class → ℕ
code unused = 0
code call = 1
code return = 2
code internal = 3

-- "Each symbol 0 to 255 has a class: 0 unused, 1 call, 2 return, 3 internal"
abbrev pub class_of : ℕ → Class
class_of n = cond (eqb n 0) unused (cond (eqb n 1) call (cond (eqb n 2) return internal))

-- whether two classes are the same
abbrev pub is : Class → Class → Bool
is j k = eqb (code j) (code k)

-- "A row is symbol, from, to, marker", and its word
pub record Row : Type 0 where
  pub symbol : ℕ
  pub from : ℕ
  pub to : ℕ
  pub marker : ℕ
  pub word : Word

-- a table as "The meaning of a table" has it: counts, caps, classes, the two sets listed in rising order, and rows
pub record Table : Type 0 where
  pub states : ℕ
  pub markers : ℕ
  pub depth_cap : ℕ
  pub waiting_cap : ℕ
  pub class : ℕ → Class
  pub starting : List ℕ
  pub final : List ℕ
  pub rows : List Row

-- what bounds a table; `words` is for all its words together, `word` for each
pub record Limits : Type 0 where
  pub states : ℕ
  pub markers : ℕ
  pub depth : ℕ
  pub waiting : ℕ
  pub rows : ℕ
  pub words : ℕ
  pub word : ℕ

-- "states, 1 to 64 … markers, 0 to 64 … depth cap, 1 to 32 … waiting cap, 0 to 512", "0 to 256 rows", "words (0 to
-- 4,096 bytes)"; a word's length is one byte
abbrev pub edition1 : Limits
edition1 = record { states = 64; markers = 64; depth = 32; waiting = 512; rows = 256; words = 4096; word = 255 }

-- "Rows rise strictly by symbol, from, marker, to, then word in byte order, a beginning before what it begins"
abbrev pub row_key : Row → Word
row_key r = r.symbol ∷ r.from ∷ r.marker ∷ r.to ∷ r.word

-- "The class of its symbol is its kind and isn't 0. Marker is 0 for an internal row, else 1 to the marker count"
abbrev pub MarkFits : Class → ℕ → ℕ → Type 0
MarkFits unused n m = ⊥
MarkFits call n m = (1 ≤ m) × (m ≤ n)
MarkFits return n m = (1 ≤ m) × (m ≤ n)
MarkFits internal n m = m ≡ 0

-- "bits from the state count upward are 0": a set of states below `n`, listed
pub record GoodSet (n : ℕ) (l : List ℕ) : Type 0 where
  pub rise : Rises (λ q. q ∷ []) l
  pub below : (q : ℕ) → q among l → q < n

-- "States are below the state count", its marker fits, and its word has room in a file
pub record GoodRow (L : Limits) (T : Table) (r : Row) : Type 0 where
  pub from : r.from < T.states
  pub to : r.to < T.states
  pub marker : MarkFits (T.class r.symbol) T.markers r.marker
  pub bytes : Bytes r.word
  pub short : length r.word ≤ L.word

-- the rules of "The rule file", of the table that a file stands for
pub record GoodTable (L : Limits) (T : Table) : Type 0 where
  pub states : (1 ≤ T.states) × (T.states ≤ L.states)
  pub markers : T.markers ≤ L.markers
  pub depth_cap : (1 ≤ T.depth_cap) × (T.depth_cap ≤ L.depth)
  pub waiting_cap : T.waiting_cap ≤ L.waiting
  pub symbols : (a : ℕ) → 256 ≤ a → T.class a ≡ unused
  pub starting : GoodSet T.states T.starting
  pub some : (q : ℕ) × (q among T.starting)
  pub final : GoodSet T.states T.final
  pub count : length T.rows ≤ L.rows
  pub row : (r : Row) → r among T.rows → GoodRow L T r
  pub rise : Rises row_key T.rows
