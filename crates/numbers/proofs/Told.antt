-- Each number is a byte and has one name, so that an answer is known by its number and its count. Assumes nothing.
use mathlib.Core.Path.{◌≡◌, refl}
use mathlib.Core.List.{List, ◌∷◌, []}
use mathlib.Mathlib.Logic.Function.Defs.{LeftInverse-Injective}
use Prim.Native.Nat.{ℕ, ◌<◌}
use native.Mathlib.Omega.{arith}
use lib.ListN.{get_or}
use Rattle.std.specs.Prelude.{Result, Ok, Err}
use Rattle.numbers.specs.Numbers.{refusal_number, number_of, count_of}
use Rattle.numbers.specs.declared.Refusal.{Refusal}
use Rattle.numbers.specs.declared.Refusal.TheVariants.{BadTable, BadSession, UnknownSymbol, Unopened, TooDeep, NoRun}
use Rattle.numbers.specs.declared.Refusal.TheVariants.{Crowded, Conflict, Backlog, NoRoom, Unclosed}
use Rattle.numbers.specs.declared.Refusal.TheVariants.{NotFinal, Ambiguous, NotNested, TooLarge}

-- all names, each at the place of its number
abbrev names : List Refusal
names =
    BadTable ∷ BadTable ∷ BadSession ∷ UnknownSymbol ∷ Unopened ∷ TooDeep ∷ NoRun ∷ Crowded ∷ Conflict ∷ Backlog ∷ NoRoom
    ∷ Unclosed ∷ NotFinal ∷ Ambiguous ∷ NotNested ∷ TooLarge ∷ []

-- at its number stands its name, and that is a byte and not 0
record Named (r : Refusal) : Type 0 where
  is : get_or names (refusal_number r) BadTable ≡ r
  small : refusal_number r < 256
  some : 0 < refusal_number r

named : (r : Refusal) → Named r
named BadTable = record { is = refl; small = omega arith; some = omega arith }
named BadSession = record { is = refl; small = omega arith; some = omega arith }
named UnknownSymbol = record { is = refl; small = omega arith; some = omega arith }
named Unopened = record { is = refl; small = omega arith; some = omega arith }
named TooDeep = record { is = refl; small = omega arith; some = omega arith }
named NoRun = record { is = refl; small = omega arith; some = omega arith }
named Crowded = record { is = refl; small = omega arith; some = omega arith }
named Conflict = record { is = refl; small = omega arith; some = omega arith }
named Backlog = record { is = refl; small = omega arith; some = omega arith }
named NoRoom = record { is = refl; small = omega arith; some = omega arith }
named Unclosed = record { is = refl; small = omega arith; some = omega arith }
named NotFinal = record { is = refl; small = omega arith; some = omega arith }
named Ambiguous = record { is = refl; small = omega arith; some = omega arith }
named NotNested = record { is = refl; small = omega arith; some = omega arith }
named TooLarge = record { is = refl; small = omega arith; some = omega arith }

-- names with one number are one name, and none is Taken
pub number_same : (r q : Refusal) → refusal_number r ≡ refusal_number q → r ≡ q
number_same r q e = LeftInverse-Injective (λ k. get_or names k BadTable) refusal_number (λ k. (named k).is) r q e

pub refusal-some : (r : Refusal) → refusal_number r ≡ 0 → ⊥
refusal-some r e = let n = named r in let s = n.some in omega arith

pub number_small : {A : Type 0} (r : Result A Refusal) → number_of r < 256
number_small (Ok x) = omega arith
number_small (Err r) = (named r).small

-- answers with one number and one count are one answer
pub answer-same : (r q : Result ℕ Refusal) → number_of r ≡ number_of q → count_of r ≡ count_of q → r ≡ q
answer-same (Ok m) (Ok n) e f = rw f
answer-same (Ok m) (Err q) e f = let n = named q in let s = n.some in absurd (omega arith)
answer-same (Err r) (Ok n) e f = let m = named r in let s = m.some in absurd (omega arith)
answer-same (Err r) (Err q) e f = rw (number_same r q e)
