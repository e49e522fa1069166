-- "Numbers given back": the number of each name, and what an answer gives back.
use Rattle.std.specs.Prelude.{ℕ, Result, Ok, Err}
use Rattle.numbers.specs.declared.Refusal.{Refusal}
use Rattle.numbers.specs.declared.Refusal.TheVariants.{BadTable, BadSession, UnknownSymbol, Unopened, TooDeep, NoRun}
use Rattle.numbers.specs.declared.Refusal.TheVariants.{Crowded, Conflict, Backlog, NoRoom, Unclosed}
use Rattle.numbers.specs.declared.Refusal.TheVariants.{NotFinal, Ambiguous, NotNested, TooLarge}

-- the column "No." of the table "Numbers given back", from 1 on
abbrev pub refusal_number : Refusal → ℕ
refusal_number BadTable = 1
refusal_number BadSession = 2
refusal_number UnknownSymbol = 3
refusal_number Unopened = 4
refusal_number TooDeep = 5
refusal_number NoRun = 6
refusal_number Crowded = 7
refusal_number Conflict = 8
refusal_number Backlog = 9
refusal_number NoRoom = 10
refusal_number Unclosed = 11
refusal_number NotFinal = 12
refusal_number Ambiguous = 13
refusal_number NotNested = 14
refusal_number TooLarge = 15

-- the number given back: 0, Taken, or that of the refusal
abbrev pub number_of : {A : Type 0} → Result A Refusal → ℕ
number_of (Ok x) = 0
number_of (Err r) = refusal_number r

-- the count given back, of bytes or of starting states: "A refusal gives byte count 0"
abbrev pub count_of : {E : Type 0} → Result ℕ E → ℕ
count_of (Ok n) = n
count_of (Err r) = 0
