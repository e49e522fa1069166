-- The number that each call must give and what it writes, from the trails of a session and their waiting outputs.
use Rattle.std.specs.Prelude.{◌≡◌, Bool, false, cond, ◌&&◌, not, List, [], ◌∷◌, ◌++◌, map, ℕ, suc, ◌-◌, eqb, ltb, length, drop}
use Rattle.words.specs.Lists.{each, only, any_of, is_empty}
use Rattle.words.specs.Words.{Word, common}
use Rattle.words.specs.Order.{same_word, arranged}
use Rattle.meaning.specs.Table.{Class, unused, call, return, internal, is, Table}
use Rattle.meaning.specs.Trails.{Trail, ground, over, trail_key, Link, links, link_key}
use Rattle.meaning.specs.Living.{Place, place, moved, begun}

-- "The first that applies is given": of tests with their numbers, 0 Taken if none passes
abbrev pub first : List (Bool × ℕ) → ℕ
first [] = 0
first (c ∷ l) = cond c.0 c.1 (first l)

-- "1 to 64 links"
abbrev pub links_cap : ℕ
links_cap = 64

-- what a session stands for: its depth, and its trails with their waiting outputs
pub record Moment : Type 0 where
  pub depth : ℕ
  pub waiting : List Place

-- "Beginning gives empty pieces"
abbrev pub opened : Table → Moment
opened T = record { depth = 0; waiting = begun T }

-- "the opening call reports how many starting states there are"
abbrev pub starting_states : Table → ℕ
starting_states T = length T.starting

-- the outputs of places, or what waits of them
abbrev pub outputs : List Place → List Word
outputs X = map (λ p. p.output) X

-- "A session's links are those in the trails of its runs, each counted once"
abbrev pub links_of : List Place → List Link
links_of X = arranged link_key (each (λ p. links p.trail) X)

-- "two runs would have one trail and different outputs"
abbrev pub clash : Place → Place → Bool
clash p q = same_word (trail_key p.trail) (trail_key q.trail) && not (same_word p.output q.output)

-- demand 2: what is sent is the longest common beginning
abbrev pub sending : List Place → Word
sending X = common (outputs X)

-- "after sending": what waits when that is sent
abbrev pub held : List Place → List Place
held X = let n = length (sending X) in map (λ p. place p.trail (drop n p.output)) X

-- "Depth is calls less returns taken": the depth after a symbol of each class
abbrev pub deeper : Class → ℕ → ℕ
deeper unused d = d
deeper call d = suc d
deeper return d = d - 1
deeper internal d = d

-- "Step: 1 to 10", with the room lent for output: 3 UnknownSymbol, 4 Unopened, 5 TooDeep, 6 NoRun, 7 Crowded, 8
-- Conflict, 9 Backlog, 10 NoRoom
abbrev pub step_tests : Table → ℕ → Moment → ℕ → List (Bool × ℕ)
step_tests T room m a =
    let k = T.class a in
    let X = moved T m.waiting a in
    (is k unused, 3)
    ∷ (is k return && eqb m.depth 0, 4)
    ∷ (is k call && eqb m.depth T.depth_cap, 5)
    ∷ (is_empty X, 6)
    ∷ (ltb links_cap (length (links_of X)), 7)
    ∷ (any_of (λ p. any_of (clash p) X) X, 8)
    ∷ (any_of (λ p. ltb T.waiting_cap (length p.output)) (held X), 9)
    ∷ (ltb room (length (sending X)), 10)
    ∷ []

-- the number that step gives, of a good table and a sound session
abbrev pub step_number : Table → ℕ → Moment → ℕ → ℕ
step_number T room m a = first (step_tests T room m a)

-- what a taken symbol sends
abbrev pub sends : Table → Moment → ℕ → Word
sends T m a = sending (moved T m.waiting a)

-- what the session stands for after a taken symbol
abbrev pub follows : Table → Moment → ℕ → Moment
follows T m a = record { depth = deeper (T.class a) m.depth; waiting = held (moved T m.waiting a) }

-- "A refusal gives byte count 0 and changes neither session nor output": number, bytes, and what the session stands for
abbrev pub step : Table → ℕ → Moment → ℕ → ℕ × Word × Moment
step T room m a = let n = step_number T room m a in cond (eqb n 0) (n, sends T m a, follows T m a) (n, [], m)

-- a message all taken, symbol by symbol from a fresh session: what was sent, and what the session then stands for
pub data AllTaken (T : Table) : Word → Word → Moment → Type 0 where
  none : AllTaken T [] [] (opened T)
  more : {u z : Word} {m : Moment} (a room : ℕ) → AllTaken T u z m → step_number T room m a ≡ 0
      → AllTaken T (u ++ a ∷ []) (z ++ sends T m a) (follows T m a)

-- "It accepts when its state is final and its stack empty"
abbrev pub accepts : Table → Trail → Bool
accepts T (ground q) = any_of (eqb q) T.final
accepts T (over q m t) = false

-- what waits of the runs that accept
abbrev pub accepted : Table → List Place → List Word
accepted T X = outputs (each (λ p. only (accepts T p.trail) p) X)

-- "Finish: 1, 2, 11, 12, 13, 10": 11 Unclosed, 12 NotFinal, 13 Ambiguous, 10 NoRoom
abbrev pub finish_tests : Table → ℕ → Moment → List (Bool × ℕ)
finish_tests T room m =
    let X = accepted T m.waiting in
    (not (eqb m.depth 0), 11)
    ∷ (is_empty X, 12)
    ∷ (any_of (λ v. any_of (λ w. not (same_word v w)) X) X, 13)
    ∷ (ltb room (length (common X)), 10)
    ∷ []

-- the number that finish gives, of a good table and a sound session
abbrev pub finish_number : Table → ℕ → Moment → ℕ
finish_number T room m = first (finish_tests T room m)

-- "Finish writes what still waits", of the runs that accept: where it is taken they agree
abbrev pub finish : Table → ℕ → Moment → ℕ × Word
finish T room m = let n = finish_number T room m in cond (eqb n 0) (n, common (accepted T m.waiting)) (n, [])
