-- Words taken together by or: what they make is small exactly when each number is. Assumes nothing.
use mathlib.Core.Path.{◌≡◌, refl}
use mathlib.Core.Logic.{◌↔◌}
use mathlib.Core.List.{[], ◌∷◌}
use Prim.Native.Nat.{ℕ, zero, suc, ◌+◌, ◌≤◌, ◌<◌, ◌^◌}
use native.Mathlib.Omega.{arith}
use lib.Bits.{bit_or, or_lt, and_le_l, and_le_r, or_add_and}
use lib.Dec.{ltb}
use lib.Pow.{pow_pos}
use lib.ListN.{length, get_or, take, drop, length-take, length-drop}
use lib.Seq.{get_or-take, get_or-drop}
use Rattle.std.specs.List.{fold}
use Rattle.words.specs.Lists.{Exact}
use Rattle.words.specs.Words.{Word}
use Rattle.words.specs.Together.{together}
use Rattle.words.proofs.Exact.{exact-as, ltb-exact}

pub fold-together : (all : ℕ) (w : Word) → fold bit_or all w ≡ together all w
fold-together all [] = refl
fold-together all (x ∷ w) = fold-together (bit_or all x) w

-- small is: below a power of 2
pub record AllBelow (m : ℕ) (w : Word) : Type 0 where
  pub each : (k : ℕ) → k < length w → get_or w k 0 < m

pub or-below : (n a b : ℕ) → (bit_or a b < 2 ^ n) ↔ ((a < 2 ^ n) × (b < 2 ^ n))
or-below n a b = (
  λ h. (omega (arith, or_add_and a b, and_le_r a b), omega (arith, or_add_and a b, and_le_l a b)),
  λ h. or_lt n a b h.0 h.1,
)

first_below : (m x : ℕ) (w : Word) → (x < m) × AllBelow m w → AllBelow m (x ∷ w)
first_below m x w h = record { each = at }
  where
    at : (k : ℕ) → k < length (x ∷ w) → get_or (x ∷ w) k 0 < m
    at zero lt = h.0
    at (suc k) lt = h.1.each k (omega arith)

from-below : (n all : ℕ) (w : Word) → (together all w < 2 ^ n) ↔ ((all < 2 ^ n) × AllBelow (2 ^ n) w)
from-below n all [] = (λ h. (h, record { each = λ k lt. absurd (omega arith) }), λ h. h.0)
from-below n all (x ∷ w) = (
  λ h.
      let r = (from-below n (bit_or all x) w).0 h in
      let b = (or-below n all x).0 r.0 in
      (b.0, first_below (2 ^ n) x w (b.1, r.1)),
  λ h.
      let f = (or-below n all x).1 (h.0, h.1.each 0 (omega arith)) in
      (from-below n (bit_or all x) w).1 (f, record { each = λ k lt. h.1.each (suc k) (omega arith) }),
)

pub together-below : (n : ℕ) (w : Word) → (together 0 w < 2 ^ n) ↔ AllBelow (2 ^ n) w
together-below n w = (λ h. ((from-below n 0 w).0 h).1, λ b. (from-below n 0 w).1 (pow_pos n, b))

pub below-exact : (n : ℕ) (w : Word) → Exact (AllBelow (2 ^ n) w) (ltb (together 0 w) (2 ^ n))
below-exact n w = exact-as (together-below n w) (ltb-exact (together 0 w) (2 ^ n))

-- of a part of a word: its numbers are those of the word from its start on
pub part_at : (w : Word) (s n k : ℕ) → k < n → get_or (take n (drop s w)) k 0 ≡ get_or w (s + k) 0
part_at w s n k lt = rw (get_or-take, get_or-drop)

module _ (w : Word) (s n : ℕ) (fits : s + n ≤ length w) where
  part_length : length (take n (drop s w)) ≡ n
  part_length = simp (length-take, length-drop) (omega arith)

  pub below-part : (m : ℕ) → AllBelow m (take n (drop s w)) ↔ ((k : ℕ) → k < n → get_or w (s + k) 0 < m)
  below-part m = (
    λ b k lt. rw (part_at w s n k lt) at (b.each k (omega (arith, part_length))),
    λ h. record { each = λ k lt. let l : k < n = omega (arith, part_length) in rw (part_at w s n k l) (h k l) },
  )
