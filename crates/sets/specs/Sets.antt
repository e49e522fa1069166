-- A set of states as one number: document 01, "Bit i of the number stands for state i".
use Rattle.std.specs.Prelude.{Bool, List, [], ◌∷◌, ℕ, zero, suc, ◌/◌, ◌%◌, ◌^◌, eqb}

-- "Bit i of the number stands for state i"
abbrev pub is_in : ℕ → ℕ → Bool
is_in set i = eqb (set / 2 ^ i % 2) 1

-- `b` in front of `l` where the digit is 1
abbrev pub front : ℕ → ℕ → List ℕ → List ℕ
front zero b l = l
front (suc d) b l = b ∷ l

-- of `k` digits, the lowest of which stands for `b`, those that are 1, in rising order
unfoldable pub members_from : ℕ → ℕ → ℕ → List ℕ
members_from zero b n = []
members_from (suc k) b n = front (n % 2) b (members_from k (suc b) (n / 2))

-- "A set is one 64-bit number": its members, in rising order
unfoldable pub members : ℕ → List ℕ
unfolding members_from
members set = members_from 64 0 set
