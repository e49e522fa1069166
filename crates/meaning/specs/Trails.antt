-- Trails and links: document 01, "The meaning of a table".
use Rattle.std.proofs.Math.Option.{Option, some, none}
use Rattle.std.specs.Prelude.{List, [], ◌∷◌, ℕ, suc, length}
use Rattle.words.specs.Lists.{each}
use Rattle.words.specs.Words.{Word}
use Rattle.meaning.specs.Table.{Class, unused, call, return, internal, Row, Table}
use Rattle.meaning.specs.Runs.{Run}

-- "The trail of a run at depth d": at level 0 a state alone, else the present state and marker over the trail that the
-- still open call left
pub data Trail : Type 0 where
  ground : ℕ → Trail
  over : ℕ → ℕ → Trail → Trail

-- "pairs (state, top marker; 0 for an empty stack)"
pub record Pair : Type 0 where
  pub state : ℕ
  pub marker : ℕ

-- "The pair at level d is the present one"
abbrev pub top : Trail → Pair
top (ground q) = record { state = q; marker = 0 }
top (over q m t) = record { state = q; marker = m }

-- "The trail of a run at depth d is a list of d+1 pairs": the present one first
abbrev pub pairs : Trail → List Pair
pairs (ground q) = top (ground q) ∷ []
pairs (over q m t) = top (over q m t) ∷ pairs t

-- the stack of a run with this trail: the top markers of its pairs above level 0
abbrev pub stack_of : Trail → List ℕ
stack_of (ground q) = []
stack_of (over q m t) = m ∷ stack_of t

-- "at depth d": how many markers are on that stack
abbrev pub height : Trail → ℕ
height t = length (stack_of t)

-- the numbers of a trail in one word: two trails are the same when these are
abbrev pub trail_key : Trail → Word
trail_key t = each (λ p. p.state ∷ p.marker ∷ []) (pairs t)

-- an internal row: the trail with another present state
abbrev pub with_top : ℕ → Trail → Trail
with_top q (ground p) = ground q
with_top q (over p m t) = over q m t

-- a return row: the trail under it, with another present state
abbrev pub fall : ℕ → Trail → Trail
fall q (ground p) = ground q
fall q (over p m t) = with_top q t

-- what a row of each class makes of a trail; `trail-right` says that this gives the pairs that document 01 words
abbrev pub carry : Class → Row → Trail → Trail
carry unused r t = t
carry call r t = over r.to r.marker t
carry return r t = fall r.to t
carry internal r t = with_top r.to t

-- what rows one after the other make of a trail
abbrev pub trail_from : Table → Trail → List Row → Trail
trail_from T t [] = t
trail_from T t (r ∷ ρ) = trail_from T (carry (T.class r.symbol) r t) ρ

-- the trail of a run, from its starting state by its rows
abbrev pub trail : {T : Table} {u : Word} → Run T u → Trail
trail {T} r = trail_from T (ground r.start) r.rows

-- "A link is a level, the pair at that level, and the pair one level below (none at level 0)"
pub record Link : Type 0 where
  pub level : ℕ
  pub here : Pair
  pub below : Option Pair

-- the link of a pair that stands on the pair of the link `l`
abbrev pub on : ℕ → ℕ → Link → Link
on q m l = record { level = suc l.level; here = record { state = q; marker = m }; below = some l.here }

-- the link of the present pair
abbrev pub link_of : Trail → Link
link_of (ground q) = record { level = 0; here = record { state = q; marker = 0 }; below = none }
link_of (over q m t) = on q m (link_of t)

-- the links of a trail, that of the present pair first
abbrev pub links : Trail → List Link
links (ground q) = link_of (ground q) ∷ []
links (over q m t) = link_of (over q m t) ∷ links t

-- "state and marker below", none at level 0
abbrev pub pair_key : Option Pair → Word
pair_key none = []
pair_key (some p) = p.state ∷ p.marker ∷ []

-- "links rise strictly by level, then state and marker, then state and marker below"
abbrev pub link_key : Link → Word
link_key l = l.level ∷ l.here.state ∷ l.here.marker ∷ pair_key l.below
