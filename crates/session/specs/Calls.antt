-- What `begin` answers and leaves.
use Rattle.std.specs.Prelude.{◌≡◌, List, ℕ, Result, Option, Some, None}
use Rattle.numbers.specs.Numbers.{number_of, count_of}
use Rattle.numbers.specs.declared.Refusal.{Refusal}
use Rattle.meaning.specs.Answers.{opened, starting_states}
use Rattle.table.specs.File.{table_of}
use Rattle.table.specs.Calls.{Judged}
use Rattle.session_meaning.specs.Sessions.{stands}
use Rattle.session_meaning.specs.Bytes.{session_of, SoundBytes}

-- "Check and begin: 1 (a begin refused by any number reports 0 starting states and leaves the session it was handed)"
pub record BeginsSession (file session : List ℕ) (number states : ℕ) (session' : List ℕ) : Type 0 where
  pub judged : Judged file number
  pub counted : number ≡ 0 → states ≡ starting_states (table_of file)
  pub none : number ≡ 1 → states ≡ 0
  pub sound : number ≡ 0 → SoundBytes (table_of file) session'
  pub stands : number ≡ 0 → stands (session_of session') ≡ opened (table_of file)
  pub kept : number ≡ 1 → session' ≡ session

-- what an answer says, its count the starting states, and what it leaves
abbrev pub Begun : List ℕ → List ℕ → Result ℕ Refusal → List ℕ → Type 0
Begun file session r session' = BeginsSession file session (number_of r) (count_of r) session'

-- the first byte of a piece as a number, 256 of an empty one: as `head_at` has it
abbrev pub head_number : Option ℕ → ℕ
head_number None = 256
head_number (Some byte) = byte
