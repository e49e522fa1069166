-- What joining answers: document 01, "Numbers given back" and "Join: 1 …, 14, 15, 10".
use Rattle.std.specs.Prelude.{List, ℕ, Result, Ok, Err}
use Rattle.numbers.specs.declared.Refusal.{Refusal}
use Rattle.numbers.specs.declared.Refusal.TheVariants as refusals
use Rattle.numbers.specs.Numbers.{refusal_number, count_of}
use Rattle.join_meaning.specs.Promises.{Joins}
use Rattle.join.specs.declared.hops.Unjoined.{Unjoined}
use Rattle.join.specs.declared.hops.Unjoined.TheVariants.{BadFirst, BadSecond, NotNested, TooLarge, NoRoom}

-- "Join: 1 (with 1 or 2 for the table …), 14, 15, 10": the name of a refusal in the table of numbers
abbrev pub refusal_of : Unjoined → Refusal
refusal_of BadFirst = refusals.BadTable
refusal_of BadSecond = refusals.BadTable
refusal_of NotNested = refusals.NotNested
refusal_of TooLarge = refusals.TooLarge
refusal_of NoRoom = refusals.NoRoom

-- "with 1 or 2 for the table": which table is bad, 0 where none is
abbrev pub table_of_refusal : Unjoined → ℕ
table_of_refusal BadFirst = 1
table_of_refusal BadSecond = 2
table_of_refusal NotNested = 0
table_of_refusal TooLarge = 0
table_of_refusal NoRoom = 0

-- the number given back: 0, Taken, or that of the refusal
abbrev pub joined_number : Result ℕ Unjoined → ℕ
joined_number (Ok n) = 0
joined_number (Err r) = refusal_number (refusal_of r)

-- the table given back with it
abbrev pub blamed : Result ℕ Unjoined → ℕ
blamed (Ok n) = 0
blamed (Err r) = table_of_refusal r

-- what an answer says ("with 1 or 2 for the table"), and what it leaves
abbrev pub JoinedBy : List ℕ → List ℕ → List ℕ → Result ℕ Unjoined → List ℕ → Type 0
JoinedBy one two out r out' = Joins one two out (joined_number r) (blamed r) (count_of r) out'
