-- How much room lines take. Assumes nothing.
use mathlib.Core.List.{[], ◌∷◌}
use Prim.Native.Nat.{ℕ, ◌+◌, ◌*◌, ◌^◌, ◌<◌, ◌≤◌}
use native.Mathlib.Omega.{arith}
use lib.ListN.{length, length-append}
use Rattle.words.specs.Words.{Word}
use Rattle.rewrite_lines.specs.Text.{field, last_field, line, ending}
use Rattle.rewrite_lines.proofs.Numerals.{decimal-short, hex-long}

-- a number of 64 bits has at most 20 digits, one of 8 bits at most 3
field-short : (n : ℕ) → n < 2 ^ 64 → length (field n) ≤ 21
field-short n lt = rw length-append (omega (arith, decimal-short 19 n (omega arith)))

byte-short : (n : ℕ) → n < 2 ^ 8 → length (field n) ≤ 4
byte-short n lt = rw length-append (omega (arith, decimal-short 2 n (omega arith)))

last-short : (w : Word) → length (last_field w) ≤ 2 * length w + 2
last-short [] = omega arith
last-short (b ∷ w) = rw length-append (omega (arith, hex-long (b ∷ w)))

module _ (place symbol number depth : ℕ) (bytes : Word) (in_place : place < 2 ^ 64) (in-symbol : symbol < 2 ^ 8)
    (in-number : number < 2 ^ 8) (in-depth : depth < 2 ^ 64) where
  pub line-short : length (line place symbol number depth bytes) ≤ 2 * length bytes + 52
  line-short =
      let a = simp length-append at (field-short place in_place) in
      let b = simp length-append at (byte-short symbol in-symbol) in
      let c = simp length-append at (byte-short number in-number) in
      let d = simp length-append at (field-short depth in-depth) in
      let e = simp length-append at (last-short bytes) in
      simp length-append (omega arith)

pub ending-short : (number : ℕ) (bytes : Word) → number < 2 ^ 8 → length (ending number bytes) ≤ 2 * length bytes + 10
ending-short number bytes lt =
    let a = simp length-append at (byte-short number lt) in
    let b = simp length-append at (last-short bytes) in
    simp length-append (omega arith)
