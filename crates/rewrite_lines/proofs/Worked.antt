-- The lines of document 01, by computation: table G with 10, 1, 11. Assumes nothing.
use mathlib.Core.Path.{◌≡◌, refl}
use mathlib.Core.List.{[], ◌∷◌}
use Prim.Native.Nat.{ℕ}
use Rattle.words.specs.Words.{Word, common}
use Rattle.meaning.specs.Answers.{Moment, opened, step_number, sends, follows, accepted, finish_number}
use Rattle.meaning.proofs.Worked.{G}
use Rattle.rewrite_lines.specs.Text.{decimal, line, ending}

-- what the program lends
abbrev room : ℕ
room = 1024

-- after each symbol
abbrev one : Moment
one = follows G (opened G) 10

abbrev two : Moment
two = follows G one 1

abbrev three : Moment
three = follows G two 11

-- the line of a symbol by the meaning of G
abbrev step_line : ℕ → Moment → ℕ → Word
step_line place m symbol =
    line place symbol (step_number G room m symbol) (follows G m symbol).depth (sends G m symbol)

-- `1 10 0 1 4f`
first-line : step_line 1 (opened G) 10 ≡ 49 ∷ 32 ∷ 49 ∷ 48 ∷ 32 ∷ 48 ∷ 32 ∷ 49 ∷ 32 ∷ 52 ∷ 102 ∷ 10 ∷ []
unfolding decimal
first-line = refl

-- `2 1 0 1 -`
second-line : step_line 2 one 1 ≡ 50 ∷ 32 ∷ 49 ∷ 32 ∷ 48 ∷ 32 ∷ 49 ∷ 32 ∷ 45 ∷ 10 ∷ []
unfolding decimal
second-line = refl

-- `3 11 0 0 4b70`
third-line : step_line 3 two 11
    ≡ 51 ∷ 32 ∷ 49 ∷ 49 ∷ 32 ∷ 48 ∷ 32 ∷ 48 ∷ 32 ∷ 52 ∷ 98 ∷ 55 ∷ 48 ∷ 10 ∷ []
unfolding decimal
third-line = refl

-- `end 0 -`
last_line : ending (finish_number G room three) (common (accepted G three.waiting))
    ≡ 101 ∷ 110 ∷ 100 ∷ 32 ∷ 48 ∷ 32 ∷ 45 ∷ 10 ∷ []
unfolding decimal
last_line = refl
