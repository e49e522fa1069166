-- A number's eight bytes, as std writes them. Assumes nothing.
use Rattle.std.proofs.Common.{◌≡◌, ℕ}
use native.Mathlib.Nat.{div-div-eq-div-mul}
use Rattle.std.specs.Int.{w64, to_le_bytes}
use Rattle.join_meaning.specs.Laid.{little_endian}

pub eight-bytes : (n : ℕ) → to_le_bytes w64 n ≡ little_endian 8 n
eight-bytes n = simp div-div-eq-div-mul
