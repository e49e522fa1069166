-- The cases of document 01, "Worked by hand", as one list and one statement, by computation. Assumes nothing.
use mathlib.Core.Path.{◌≡◌, refl}
use mathlib.Core.Bool.{Bool, true, cond, ◌&&◌, ◌||◌}
use mathlib.Core.List.{List, [], ◌∷◌, ◌++◌, map}
use Prim.Native.Nat.{ℕ}
use lib.Dec.{eqb}
use lib.ListN.{length}
use Rattle.words.specs.Lists.{each, every, any_of}
use Rattle.words.specs.Words.{Word}
use Rattle.words.specs.Order.{same_word}
use Rattle.meaning.specs.Table.{Class, unused, call, return, internal, Row, Table, row_key, edition1}
use Rattle.meaning.specs.Answers.{Moment, opened, links_of, step, finish}
use Rattle.meaning.specs.Joining.{joined, file_size, join_number}

-- a number given back, with the bytes written
abbrev Told : Type 0
Told = ℕ × Word

-- what is expected of a message, with the room lent at each call: what each symbol is told (after a refused one the
-- next is tried), the links after the last, and what finish is told
record Message : Type 0 where
  table : Table
  symbols : Word
  room : ℕ
  told : List Told
  links : ℕ
  ending : Told

-- what is expected of joining two tables: the number; where it is 0 also caps, markers, rows and size of the file
record Joint : Type 0 where
  first : Table
  second : Table
  room : ℕ
  number : ℕ
  depth_cap : ℕ
  waiting_cap : ℕ
  markers : ℕ
  rows : List Row
  size : ℕ

data Case : Type 0 where
  message : Message → Case
  joining : Joint → Case

-- the test

abbrev same_told : List Told → List Told → Bool
same_told k l = let flat = each (λ (t : Told). t.0 ∷ length t.1 ∷ t.1) in same_word (flat k) (flat l)

abbrev same_rows : List Row → List Row → Bool
same_rows k l = let flat = each (λ (r : Row). length r.word ∷ row_key r) in same_word (flat k) (flat l)

record Served : Type 0 where
  told : List Told
  moment : Moment

abbrev serve : Table → ℕ → Moment → Word → Served
serve T room m [] = record { told = []; moment = m }
serve T room m (a ∷ u) =
    let r = step T room m a in
    let s = serve T room r.2 u in
    record { told = (r.0, r.1) ∷ s.told; moment = s.moment }

abbrev passes : Case → Bool
passes (message c) =
    let s = serve c.table c.room (opened c.table) c.symbols in
    same_told s.told c.told
    && eqb (length (links_of s.moment.waiting)) c.links
    && same_told (finish c.table c.room s.moment ∷ []) (c.ending ∷ [])
passes (joining c) =
    let J = joined c.first c.second in
    let caps = eqb J.depth_cap c.depth_cap && eqb J.waiting_cap c.waiting_cap in
    let file = eqb J.markers c.markers && same_rows J.rows c.rows && eqb (file_size J) c.size in
    let n = join_number edition1 c.room c.first c.second in
    eqb n c.number && cond (eqb n 0) (caps && file) true

-- the tables

abbrev pub row : ℕ → ℕ → ℕ → ℕ → Word → Row
row a p q m w = record { symbol = a; from = p; to = q; marker = m; word = w }

abbrev pub class_g : ℕ → Class
class_g n = cond (eqb n 10) call (cond (eqb n 1) internal (cond (eqb n 11 || eqb n 12) return unused))

-- `OK` 79 75, `ON` 79 78, `OJ` 79 74, `p` 112; `a` 97, `b` 98, `c` 99, `d` 100
abbrev pub table : ℕ → ℕ → ℕ → List ℕ → List ℕ → List Row → Table
table n m depth start final rows =
    record {
      states = n;
      markers = m;
      depth_cap = depth;
      waiting_cap = 4;
      class = class_g;
      starting = start;
      final = final;
      rows = rows;
    }

abbrev pub rows_g : List Row
rows_g =
    row 10 0 1 1 (79 ∷ 75 ∷ [])
    ∷ row 10 0 2 1 (79 ∷ 78 ∷ [])
    ∷ row 11 1 3 1 []
    ∷ row 12 2 3 1 []
    ∷ []

abbrev pub ones : List Row
ones = row 1 1 1 0 (112 ∷ []) ∷ row 1 2 2 0 (112 ∷ []) ∷ []

abbrev pub G : Table
G = table 4 1 4 (0 ∷ []) (3 ∷ []) (ones ++ rows_g)

-- G with depth cap 1, and with call 10, 0 to 1, `OJ` too
abbrev shallow : Table
shallow = table 4 1 1 (0 ∷ []) (3 ∷ []) (ones ++ rows_g)

abbrev torn : Table
torn = table 4 1 4 (0 ∷ []) (3 ∷ []) (ones ++ row 10 0 1 1 (79 ∷ 74 ∷ []) ∷ rows_g)

-- internal 1 from 0 to finals 1 and 2 with two words
abbrev fork : Word → Word → Table
fork v w = table 3 0 4 (0 ∷ []) (1 ∷ 2 ∷ []) (row 1 0 1 0 v ∷ row 1 0 2 0 w ∷ [])

-- "eight starting states, each with seven empty-word rows of one call to states 0 to 6", and "one row more, 0 to 7"
abbrev eight : List ℕ
eight = 0 ∷ 1 ∷ 2 ∷ 3 ∷ 4 ∷ 5 ∷ 6 ∷ 7 ∷ []

abbrev crowd : List ℕ → List Row → Table
crowd start more =
    table 9 1 4 start []
    (each (λ p. map (λ q. row 10 p q 1 []) (0 ∷ 1 ∷ 2 ∷ 3 ∷ 4 ∷ 5 ∷ 6 ∷ []) ++ cond (eqb p 0) more []) eight)

-- two starting states, from each call 10 to state 2 with one marker: one state and stack, two trails
abbrev two_trails : Table
two_trails = table 3 1 4 (0 ∷ 1 ∷ []) (2 ∷ []) (row 10 0 2 1 (97 ∷ []) ∷ row 10 1 2 1 (98 ∷ []) ∷ [])

-- one state, which starts and is final; `(` 40, `)` 41, `<` 60, `>` 62 and `[` 91, `]` 93, `{` 123, `}` 125; calls in
-- `opens`, returns in `closes`, and nothing else has a class
abbrev one : ℕ → ℕ → Word → Word → ℕ → List Row → Table
one depth waiting opens closes m rs =
    record {
      states = 1;
      markers = m;
      depth_cap = depth;
      waiting_cap = waiting;
      class = λ a. cond (any_of (eqb a) opens) call (cond (any_of (eqb a) closes) return unused);
      starting = 0 ∷ [];
      final = 0 ∷ [];
      rows = rs;
    }

-- "first, one state, `(` writes `[{`", and `)` writes the given word
abbrev round : Word → List Row
round w = row 40 0 0 1 (91 ∷ 123 ∷ []) ∷ row 41 0 0 1 w ∷ []

abbrev pub first_hop : Word → Table
first_hop w = one 4 4 (40 ∷ []) (41 ∷ []) 1 (round w)

-- "second, `[` marker 1 `a`, `{` marker 2 `b`, `}` marker 2 `c`, `]` marker 1 `d`"
abbrev pub second_hop : Table
second_hop =
    one 5 3 (91 ∷ 123 ∷ []) (93 ∷ 125 ∷ []) 2
    (row 91 0 0 1 (97 ∷ []) ∷ row 93 0 0 1 (100 ∷ []) ∷ row 123 0 0 2 (98 ∷ []) ∷ row 125 0 0 2 (99 ∷ []) ∷ [])

-- and `<` writes `{[`, `>` writes `]}`
abbrev pointed : Table
pointed =
    one 4 4 (40 ∷ 60 ∷ []) (41 ∷ 62 ∷ []) 1
    (round (125 ∷ 93 ∷ []) ++ row 60 0 0 1 (123 ∷ 91 ∷ []) ∷ row 62 0 0 1 (93 ∷ 125 ∷ []) ∷ [])

-- the cases

abbrev case : Table → Word → ℕ → List Told → ℕ → Told → Case
case T u room told links ending =
    message (record { table = T; symbols = u; room = room; told = told; links = links; ending = ending })

abbrev join : Table → ℕ → ℕ → ℕ → List Row → ℕ → Case
join first room number markers rows size =
    joining
    (record {
      first = first;
      second = second_hop;
      room = room;
      number = number;
      depth_cap = 4;
      waiting_cap = 3;
      markers = markers;
      rows = rows;
      size = size;
    })

abbrev round_joined : List Row
round_joined = row 40 0 0 1 (97 ∷ 98 ∷ []) ∷ row 41 0 0 1 (99 ∷ 100 ∷ []) ∷ []

abbrev pointed_joined : List Row
pointed_joined = row 60 0 0 2 (98 ∷ 97 ∷ []) ∷ row 62 0 0 2 (100 ∷ 99 ∷ []) ∷ []

abbrev cases : List Case
cases =
    case G [] 9 [] 1 (12, [])
    ∷ case G (10 ∷ []) 0 ((10, []) ∷ []) 1 (12, [])
    ∷ case G (10 ∷ []) 1 ((0, 79 ∷ []) ∷ []) 3 (11, [])
    ∷ case G (10 ∷ 1 ∷ 11 ∷ []) 9 ((0, 79 ∷ []) ∷ (0, []) ∷ (0, 75 ∷ 112 ∷ []) ∷ []) 1 (0, [])
    ∷ case G (10 ∷ 1 ∷ 12 ∷ []) 9 ((0, 79 ∷ []) ∷ (0, []) ∷ (0, 78 ∷ 112 ∷ []) ∷ []) 1 (0, [])
    ∷ case G (10 ∷ 1 ∷ 1 ∷ 1 ∷ 1 ∷ []) 9 ((0, 79 ∷ []) ∷ (0, []) ∷ (0, []) ∷ (0, []) ∷ (9, []) ∷ []) 3 (11, [])
    ∷ case G (7 ∷ 11 ∷ 1 ∷ []) 9 ((3, []) ∷ (4, []) ∷ (6, []) ∷ []) 1 (12, [])
    ∷ case G (10 ∷ 10 ∷ 11 ∷ []) 9 ((0, 79 ∷ []) ∷ (6, []) ∷ (0, 75 ∷ []) ∷ []) 1 (0, [])
    ∷ case shallow (10 ∷ 10 ∷ []) 9 ((0, 79 ∷ []) ∷ (5, []) ∷ []) 3 (11, [])
    ∷ case torn (10 ∷ []) 9 ((8, []) ∷ []) 1 (12, [])
    ∷ case (fork (97 ∷ []) (98 ∷ [])) (1 ∷ []) 9 ((0, []) ∷ []) 2 (13, [])
    ∷ case (fork (97 ∷ []) (97 ∷ 98 ∷ [])) (1 ∷ []) 9 ((0, 97 ∷ []) ∷ []) 2 (13, [])
    ∷ case (fork (97 ∷ []) (97 ∷ [])) (1 ∷ []) 9 ((0, 97 ∷ []) ∷ []) 2 (0, [])
    ∷ case (crowd eight []) (10 ∷ []) 9 ((0, []) ∷ []) 64 (11, [])
    ∷ case (crowd (eight ++ 8 ∷ []) []) (10 ∷ []) 9 ((0, []) ∷ []) 64 (11, [])
    ∷ case (crowd eight (row 10 0 7 1 [] ∷ [])) (10 ∷ []) 9 ((7, []) ∷ []) 8 (12, [])
    ∷ case two_trails (10 ∷ []) 9 ((0, []) ∷ []) 4 (11, [])
    ∷ join (first_hop (125 ∷ 93 ∷ [])) 320 0 1 round_joined 320
    ∷ join (first_hop (125 ∷ 93 ∷ [])) 319 10 1 [] 0
    ∷ join (first_hop (125 ∷ [])) 320 14 1 [] 0
    ∷ join pointed 340 0 2 (round_joined ++ pointed_joined) 340
    ∷ case (joined (first_hop (125 ∷ 93 ∷ [])) second_hop) (40 ∷ 40 ∷ 41 ∷ 41 ∷ []) 9
    ((0, 97 ∷ 98 ∷ []) ∷ (0, 97 ∷ 98 ∷ []) ∷ (0, 99 ∷ 100 ∷ []) ∷ (0, 99 ∷ 100 ∷ []) ∷ [])
    1
    (0, [])
    ∷ []

worked : every passes cases ≡ true
worked = refl
