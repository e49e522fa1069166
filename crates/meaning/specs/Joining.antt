-- The table that joins two: document 01, "Joining two hops"; 000, theorem 43.
use Rattle.std.specs.Prelude.{Bool, true, false, cond, not, ◌||◌, List, [], ◌∷◌, ◌++◌, map, reverse, ℕ, suc, ◌+◌, ◌*◌, eqb, ltb, length}
use Rattle.words.specs.Lists.{each, only, any_of, is_empty, up_to}
use Rattle.words.specs.Words.{Word}
use Rattle.words.specs.Order.{arranged, rank}
use Rattle.meaning.specs.Table.{Class, unused, call, return, internal, is, Row, Table, row_key, Limits}
use Rattle.meaning.specs.Runs.{Config, config, shifted, said, Allowed}
use Rattle.meaning.specs.Parts.{rows_start, row_size}
use Rattle.meaning.specs.Answers.{first}
use Rattle.meaning.specs.Nesting.{nests}

-- what one row makes of a configuration, one ending or none
abbrev pub after_row : Class → Row → Config → List Config
after_row k r c =
    cond (eqb c.state r.from)
    (map (λ s. config r.to s (c.output ++ r.word)) (shifted k r.marker c.stack))
    []

-- "the second table reads the word …, branching": the endings of all readings of a word from a configuration
abbrev pub endings : Table → Word → Config → List Config
endings T [] c = c ∷ []
endings T (a ∷ v) c = each (λ r. each (endings T v) (cond (eqb r.symbol a) (after_row (T.class a) r c) [])) T.rows

-- the endings of the second's readings of a row's word, from a state and a stack
abbrev pub readings : Table → Row → ℕ → List ℕ → List Config
readings B x q s = endings B x.word (config q s [])

-- "State (p, q) has number p times the second's state count plus q"
abbrev pub pair_number : ℕ → ℕ → ℕ → ℕ
pair_number n p q = p * n + q

-- "it starts or is final when both are"
abbrev pub pairs_of : ℕ → List ℕ → List ℕ → List ℕ
pairs_of n ps qs = each (λ p. map (pair_number n p) qs) ps

-- "the first's marker with the markers left on that stack", its top first
pub record Mark : Type 0 where
  pub marker : ℕ
  pub left : List ℕ

-- a joined marker, by its parts
abbrev pub mark : ℕ → List ℕ → Mark
mark m s = record { marker = m; left = s }

-- "numbered from 1 by the first's marker, then the list from its bottom, a beginning first"
abbrev pub mark_key : Mark → Word
mark_key x = x.marker ∷ reverse x.left

-- "Joined markers are those that a joined call row pushes": those of one row of the first and one state of the second
abbrev pub pushed : Table → Table → Row → ℕ → List Mark
pushed A B x q =
    each (λ e. only (is (A.class x.symbol) call) (mark x.marker e.stack)) (readings B x q [])

-- all joined markers, "by the first's marker, then the list from its bottom, a beginning first"
abbrev pub marks : Table → Table → List Mark
marks A B = arranged mark_key (each (λ x. each (pushed A B x) (up_to B.states)) A.rows)

-- "numbered from 1"
abbrev pub mark_number : List Mark → Mark → ℕ
mark_number L y = suc (rank mark_key L y)

-- from which stacks a row's word is read: "from an empty stack of its own"; "A return row's reading starts from the
-- list in the popped marker"
abbrev pub starts_of : List Mark → Class → ℕ → List (List ℕ)
starts_of L unused m = []
starts_of L call m = [] ∷ []
starts_of L return m = each (λ y. only (eqb y.marker m) y.left) L
starts_of L internal m = [] ∷ []

-- "An internal row's ending must have that stack empty"; a return row's reading "must end empty"
abbrev pub leaves : Class → List ℕ → Bool
leaves unused s = false
leaves call s = true
leaves return s = is_empty s
leaves internal s = is_empty s

-- "a row whose marker is the first's marker with the markers left on that stack", of a reading that started from `s`
-- and left `t`; a return row pops the marker it started from
abbrev pub marker_of : List Mark → Class → ℕ → List ℕ → List ℕ → ℕ
marker_of L unused m s t = 0
marker_of L call m s t = mark_number L (mark m t)
marker_of L return m s t = mark_number L (mark m s)
marker_of L internal m s t = 0

-- "each ending gives a row"; "The row's word is what the second wrote"
abbrev pub joined_row : Table → List Mark → Class → Row → ℕ → List ℕ → Config → Row
joined_row B L k x q s e =
    record {
      symbol = x.symbol;
      from = pair_number B.states x.from q;
      to = pair_number B.states x.to e.state;
      marker = marker_of L k x.marker s e.stack;
      word = e.output;
    }

-- the rows that the readings from one state and stack give
abbrev pub rows_from : Table → List Mark → Class → Row → ℕ → List ℕ → List Row
rows_from B L k x q s = each (λ e. only (leaves k e.stack) (joined_row B L k x q s e)) (readings B x q s)

-- the rows that a row of the first gives with a state of the second
abbrev pub rows_of : Table → Table → List Mark → Row → ℕ → List Row
rows_of A B L x q = let k = A.class x.symbol in each (rows_from B L k x q) (starts_of L k x.marker)

-- "Classes and depth cap are the first's, waiting cap the second's"; "Equal rows count once"
abbrev pub joined : Table → Table → Table
joined A B =
    let L = marks A B in
    record {
      states = A.states * B.states;
      markers = length L;
      depth_cap = A.depth_cap;
      waiting_cap = B.waiting_cap;
      class = A.class;
      starting = pairs_of B.states A.starting B.starting;
      final = pairs_of B.states A.final B.final;
      rows = arranged row_key (each (λ x. each (rows_of A B L x) (up_to B.states)) A.rows);
    }

-- the length of a table's file: 300 bytes, 8 for each row, and the words: "laid in row order, none shared"
abbrev pub file_size : Table → ℕ
file_size T = rows_start + row_size * length T.rows + length (said T.rows)

-- "a word of the first is over 16 bytes"; "a joined word over 255 bytes"
abbrev pub long_word : ℕ → Table → Bool
long_word n T = any_of (λ r. ltb n (length r.word)) T.rows

-- "TooLarge exactly when: a word of the first is over 16 bytes; states over 64; markers over 64; rows over 256; a
-- joined word over 255 bytes; or the words together over 4,096"
abbrev pub large : Limits → Table → Table → Bool
large L A J =
    long_word 16 A
    || ltb L.states J.states
    || ltb L.markers J.markers
    || ltb L.rows (length J.rows)
    || long_word L.word J
    || ltb L.words (length (said J.rows))

-- "Join: 1 …, 14, 15, 10": 14 NotNested, 15 TooLarge, 10 NoRoom, of two good tables, with the room lent for the file
abbrev pub join_tests : Limits → ℕ → Table → Table → List (Bool × ℕ)
join_tests L room A B =
    let J = joined A B in
    (not (nests B.class A), 14) ∷ (large L A J, 15) ∷ (ltb room (file_size J), 10) ∷ []

-- the number that join gives, of two good tables
abbrev pub join_number : Limits → ℕ → Table → Table → ℕ
join_number L room A B = first (join_tests L room A B)

-- demand 3: what the second allows on some output of the first
pub record Through (A B : Table) (u w : Word) : Type 0 where
  pub between : Word
  pub first : Allowed A u between
  pub second : Allowed B between w
