-- When all members of a set stand below a number of states. Assumes nothing.
use Prim.Native.Nat.{ℕ, ◌/◌, ◌^◌, ◌<◌, ◌≤◌}
use native.Mathlib.Nat.{pow-le-pow_right, div-eq_of_lt, div-lt_iff_lt-mul}
use native.Mathlib.Omega.{arith}
use lib.Dec.{eqb}
use lib.Pow.{pow_pos}
use borrow.Author.Tests.{eqb-true, eq-eqb}
use Rattle.words.specs.Lists.{Exact}

pub wide_enough : (set states : ℕ) → set < 2 ^ 64 → 64 ≤ states → set < 2 ^ states
wide_enough set states h l = let p = pow-le-pow_right {n = 2} (omega arith) l in omega arith

-- what is left above the states is nothing
pub shift-exact : (set states : ℕ) → Exact (set < 2 ^ states) (eqb (set / 2 ^ states) 0)
shift-exact set states = (
  λ h. eq-eqb (set / 2 ^ states) 0 (div-eq_of_lt h),
  λ e.
      let z : set / 2 ^ states < 1 = let f = eqb-true (set / 2 ^ states) 0 e in omega arith in
      let h = (div-lt_iff_lt-mul {k = 2 ^ states} {x = set} {y = 1} (pow_pos states)).0 z in
      omega arith,
)
