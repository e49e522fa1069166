-- What `compare` answers, and that its contract allows one answer. Assumes nothing.
use mathlib.Core.Path.{◌≡◌, refl, sym, ◌∙◌}
use mathlib.Mathlib.Logic.Function.Defs.{LeftInverse-Injective}
use native.Mathlib.Omega.{arith}
use mathlib.Core.List.{[], ◌∷◌}
use Rattle.std.specs.Cmp.Lexicographic.{slice_cmp}
use Rattle.std.specs.Ordering.{nat_cmp}
use Rattle.words.specs.Words.{Word}
use Rattle.words.specs.Order.{Side, lower, same, upper, side}
use Rattle.words.specs.Calls.{side_of}
use Rattle.std.specs.declared.cmp.Ordering.{Ordering}
use Rattle.std.specs.declared.cmp.Ordering.TheVariants.{Less, Equal, Greater}

-- std's order of lists of numbers, as a side
pub side-slice_cmp : (xs ys : Word) → side_of (slice_cmp nat_cmp xs ys) ≡ side xs ys
side-slice_cmp [] [] = refl
side-slice_cmp [] (y ∷ ys) = refl
side-slice_cmp (x ∷ xs) [] = refl
side-slice_cmp (x ∷ xs) (y ∷ ys) = grind (arith, side-slice_cmp xs ys)

-- two answers to one call are the same
pub compare-unique : (r q : Ordering) (s : Side) → side_of r ≡ s → side_of q ≡ s → r ≡ q
compare-unique r q s e d = LeftInverse-Injective back side_of back_is r q (e ∙ sym d)
  where
    back : Side → Ordering
    back lower = Less
    back same = Equal
    back upper = Greater

    back_is : (r : Ordering) → back (side_of r) ≡ r
    back_is Less = refl
    back_is Equal = refl
    back_is Greater = refl
