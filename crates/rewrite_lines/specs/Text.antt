-- The text that the program prints, as bytes: numbers, bytes in hex, and its lines.
use Rattle.std.specs.Prelude.{cond, [], ◌∷◌, ◌++◌, ℕ, zero, suc, ◌/◌, ◌%◌, ltb}
use Rattle.io.specs.Digits.{hex_digit_ascii}
use Rattle.words.specs.Words.{Word}

-- a number in decimal, the highest digit first and no 0 in front, if `most` digits are enough
abbrev pub decimal_in : ℕ → ℕ → Word
decimal_in zero n = []
decimal_in (suc most) n = cond (ltb n 10) (hex_digit_ascii n ∷ []) (decimal_in most (n / 10) ++ hex_digit_ascii (n % 10) ∷ [])

-- "place from 1, symbol, number given back, depth after", in decimal: `n` has at most `n + 1` digits
unfoldable pub decimal : ℕ → Word
decimal n = decimal_in (suc n) n

-- "bytes sent in hex": two digits a byte, `glyph` has small letters
abbrev pub hex : Word → Word
hex [] = []
hex (b ∷ w) = hex_digit_ascii (b / 16) ∷ hex_digit_ascii (b % 16) ∷ hex w

-- "in hex or `-`"
abbrev pub hex_or_dash : Word → Word
hex_or_dash [] = 45 ∷ []
hex_or_dash (b ∷ w) = hex (b ∷ w)

-- a number and the space after it
abbrev pub field : ℕ → Word
field n = decimal n ++ 32 ∷ []

-- "bytes sent in hex or `-`" stand last in a line
abbrev pub last_field : Word → Word
last_field bytes = hex_or_dash bytes ++ 10 ∷ []

-- "Fields: place from 1, symbol, number given back, depth after, bytes sent in hex or `-`"
abbrev pub line : ℕ → ℕ → ℕ → ℕ → Word → Word
line place symbol number depth bytes =
    field place ++ field symbol ++ field number ++ field depth ++ last_field bytes

-- "then finish's number and bytes": `end ` before them
abbrev pub ending : ℕ → Word → Word
ending number bytes = (101 ∷ 110 ∷ 100 ∷ 32 ∷ []) ++ field number ++ last_field bytes

-- "A bad table, or input too short for the length or for the table, prints `table 1` and nothing else"
abbrev pub no_table : Word
no_table = 116 ∷ 97 ∷ 98 ∷ 108 ∷ 101 ∷ 32 ∷ 49 ∷ 10 ∷ []
