-- The runs over a message, listed: the first algorithm of 004, section 3 (its `update`), with trails.
use Rattle.std.specs.Prelude.{Bool, ◌&&◌, not, ℕ, eqb}
use mathlib.Core.List.{List, [], ◌++◌, map, foldl}
use Rattle.words.specs.Lists.{choices, is_empty}
use Rattle.words.specs.Words.{Word}
use Rattle.meaning.specs.Table.{Class, Row, Table}
use Rattle.meaning.specs.Runs.{shifted}
use Rattle.meaning.specs.Trails.{Trail, ground, top, stack_of, carry}

-- a trail with an output; where sessions are meant, with what of it still waits
pub record Place : Type 0 where
  pub trail : Trail
  pub output : Word

-- a place, by its parts
abbrev pub place : Trail → Word → Place
place t o = record { trail = t; output = o }

-- a row of class `k` can be taken from the top of a trail
abbrev pub fits : Class → Row → Trail → Bool
fits k r t = eqb (top t).state r.from && not (is_empty (shifted k r.marker (stack_of t)))

-- whether a row takes a place on a symbol
abbrev pub can : Table → ℕ → Place → Row → Bool
can T a p r = eqb r.symbol a && fits (T.class a) r p.trail

-- where a row takes a place, its word behind the output
abbrev pub goes : Table → ℕ → Place → Row → Place
goes T a p r = place (carry (T.class a) r p.trail) (p.output ++ r.word)

-- "its trails with their waiting outputs are moved by the rows"; R-2: "Runs stand by the run they come from (at begin,
-- by state), then by row"
abbrev pub moved : Table → List Place → ℕ → List Place
moved T X a = choices (can T a) (goes T a) X T.rows

-- "A run starts in any starting state, empty stack, empty output": a place for each
abbrev pub begun : Table → List Place
begun T = map (λ q. place (ground q) []) T.starting

-- "every run over the symbols taken counts": one place for each run over the message
abbrev pub living : Table → Word → List Place
living T u = foldl (moved T) (begun T) u
