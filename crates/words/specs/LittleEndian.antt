-- Numbers of several bytes: document 01, "The rule file", "numbers little-endian".
use Rattle.std.specs.Prelude.{List, ℕ, ◌+◌, ◌*◌, ◌/◌, ◌%◌, get_or, set}

-- the byte at a place, 0 behind the end
abbrev pub byte : List ℕ → ℕ → ℕ
byte l i = get_or l i 0

-- "numbers little-endian", of two bytes
abbrev pub two : List ℕ → ℕ → ℕ
two l i = byte l i + 256 * byte l (i + 1)

-- a number was written in two bytes, and nothing else
abbrev pub with_two : List ℕ → ℕ → ℕ → List ℕ
with_two l i n = set (set l i (n % 256)) (i + 1) (n / 256)

-- "A set is one 64-bit number", little-endian
unfoldable pub eight : List ℕ → ℕ → ℕ
eight l i = two l i + 65536 * (two l (i + 2) + 65536 * (two l (i + 4) + 65536 * two l (i + 6)))
