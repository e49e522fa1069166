-- Numbers and bytes as text: what `io` spells in the fewest digits is the decimal number, and how long texts are.
-- Assumes nothing.
use mathlib.Core.Path.{◌≡◌, refl, ◌∙◌, ap, subst}
use mathlib.Core.Logic.{◌⊎◌, inl, inr}
use mathlib.Core.List.{[], ◌∷◌, ◌++◌}
use Prim.Native.Nat.{ℕ, zero, suc, ◌+◌, ◌-◌, ◌*◌, ◌/◌, ◌%◌, ◌^◌, ◌<◌, ◌≤◌}
use native.Mathlib.Nat.{pow-suc, pow-zero, one-le-pow}
use native.Mathlib.Numerals.{add-one}
use native.Mathlib.Omega.{arith}
use lib.ListN.{length, take, get_or, length-append}
use lib.Seq.{take-suc, length-take-le}
use borrow.Author.Tests.{lt-ltb, le-ltb}
use Rattle.io.specs.Digits.{hex_digit_ascii, last_digits, IsDigitCount}
use Rattle.words.specs.Words.{Word}
use Rattle.words.proofs.Lists.{below_or}
use Rattle.rewrite_lines.specs.Text.{decimal_in, decimal, hex, hex_or_dash}

-- one digit less to go
tenth : (k n : ℕ) → n < 10 ^ suc k → n / 10 < 10 ^ k
tenth k n lt = let e = pow-suc 10 k in omega arith

at_least : (k n : ℕ) → 10 ^ suc k ≤ n → 10 ^ k ≤ n / 10
at_least k n le = let e = pow-suc 10 k in omega arith

-- in as many digits as are needed, and no more
spelled : (most k n : ℕ) → k ≤ most → n < 10 ^ suc k → (0 < k → 10 ^ k ≤ n)
    → last_digits 10 (suc k) n ≡ decimal_in (suc most) n
spelled most zero n le lt least =
    let e : n < 10 = omega (arith, pow-suc 10 0, pow-zero 10) in
    let f : n % 10 ≡ n = omega arith in
    rw (f, lt-ltb n 10 e)
spelled zero (suc k) n le lt least = absurd (omega arith)
spelled (suc most) (suc k) n le lt least =
    let many : 10 ^ suc k ≤ n = least (omega arith) in
    let e : 10 ≤ n = omega (arith, pow-suc 10 k, one-le-pow k 10 (omega arith)) in
    rw (le-ltb n 10 e)
    (ap (λ (w : Word). w ++ hex_digit_ascii (n % 10) ∷ [])
    (spelled most k (n / 10) (omega arith) (tenth (suc k) n lt) (λ _. at_least k n many)))

less-than-ones : (k : ℕ) → k < 10 ^ k
less-than-ones zero = omega (arith, pow-zero 10)
less-than-ones (suc k) = omega (arith, pow-suc 10 k, less-than-ones k)

-- what `io` spells
pub decimal-spelled : (n r : ℕ) → IsDigitCount 10 1 n r → last_digits 10 r n ≡ decimal n
unfolding decimal
decimal-spelled n zero fewest = absurd (omega arith)
decimal-spelled n (suc k) fewest =
    let least : 0 < k → 10 ^ k ≤ n = λ some. subst (λ (j : ℕ). 10 ^ j ≤ n) one_less (fewest.2 (omega arith)) in
    spelled n k n (enough k least) fewest.1 least
  where
    one_less : suc k - 1 ≡ k
    one_less = omega arith

    enough : (k : ℕ) → (0 < k → 10 ^ k ≤ n) → k ≤ n
    enough zero least = omega arith
    enough (suc k) least = omega (arith, least (omega arith), less-than-ones (suc k))

-- how many digits
short-in : (most k n : ℕ) → n < 10 ^ suc k → length (decimal_in most n) ≤ suc k
short-in zero k n lt = omega arith
short-in (suc most) zero n lt = rw (lt-ltb n 10 (omega (arith, pow-suc 10 0, pow-zero 10))) (omega arith)
short-in (suc most) (suc k) n lt = by (short-in most k (n / 10) (tenth (suc k) n lt)) (below_or n 10)
  where
    by : length (decimal_in most (n / 10)) ≤ suc k → (n < 10) ⊎ (10 ≤ n) → length (decimal_in (suc most) n) ≤ suc (suc k)
    by le (inl l) = rw (lt-ltb n 10 l) (omega arith)
    by le (inr g) = rw (le-ltb n 10 g, length-append) (omega arith)

pub decimal-short : (k n : ℕ) → n < 10 ^ suc k → length (decimal n) ≤ suc k
unfolding decimal
decimal-short k n lt = short-in (suc n) k n lt

-- two digits a byte
pub hex-long : (w : Word) → length (hex w) ≡ 2 * length w
hex-long [] = refl
hex-long (b ∷ w) = omega (arith, hex-long w)

-- one byte more
hex-more : (w : Word) (b : ℕ) → hex (w ++ b ∷ []) ≡ hex w ++ hex (b ∷ [])
hex-more [] b = refl
hex-more (a ∷ w) b = rw (hex-more w b)

pub hex-next : (w : Word) (i : ℕ) → i < length w → hex (take (i + 1) w) ≡ hex (take i w) ++ hex (get_or w i 0 ∷ [])
hex-next w i lt = rw (add-one, take-suc w i 0) (hex-more (take i w) (get_or w i 0))

-- what the first bytes take
pub hex-first : (w : Word) (i : ℕ) → i ≤ length w → length (hex (take i w)) ≡ 2 * i
hex-first w i le = hex-long (take i w) ∙ ap (λ (n : ℕ). 2 * n) (length-take-le i w le)

-- a dash where there are none
pub no_bytes : (w : Word) → length w ≡ 0 → hex_or_dash w ≡ 45 ∷ []
no_bytes [] e = refl
no_bytes (b ∷ w) e = absurd (omega arith)
