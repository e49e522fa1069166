-- The numbers of a word taken together by or, and words of zeros only.
use Rattle.std.specs.Prelude.{◌≡◌, Bool, eqb, List, [], ◌∷◌, ℕ, ◌<◌, length, get_or}
use Rattle.std.specs.List.{list_all}
use Rattle.std.specs.Int.Bits.{bit_or}
use Rattle.words.specs.Words.{Word}

-- the numbers of a word and `all` taken together by or: small exactly when each of them is
abbrev pub together : ℕ → Word → ℕ
together all [] = all
together all (x ∷ w) = together (bit_or all x) w

-- "hold 0": all places of a word do
pub record AllZero (w : Word) : Type 0 where
  pub each : (k : ℕ) → k < length w → get_or w k 0 ≡ 0

-- whether the numbers of each word of a list, taken together, make 0
abbrev pub blank : List Word → Bool
blank = list_all (λ w. eqb (together 0 w) 0)
