-- What step and finish promise, over the lists at entry and at exit: by numbers, and by the answer that gives them.
use Rattle.std.specs.Prelude.{◌≡◌, ◌↔◌, List, ◌++◌, ℕ, length, drop, Result}
use Rattle.words.specs.Lists.{◌among◌}
use Rattle.words.specs.Words.{Word, Bytes, common}
use Rattle.numbers.specs.Numbers.{number_of, count_of}
use Rattle.numbers.specs.declared.Refusal.{Refusal}
use Rattle.meaning.specs.Living.{Place}
use Rattle.meaning.specs.Answers.{Moment, step_number, sends, follows, accepted, finish_number}
use Rattle.table.specs.File.{table_of}
use Rattle.table.specs.Good.{first_edition, GoodFile}
use Rattle.session_meaning.specs.Sessions.{trails, stands}
use Rattle.session_meaning.specs.Bytes.{session_of, SoundBytes}

-- 1 BadTable: "the file breaks a rule above"; 2 BadSession: "not sound for this table"; else the number by the trails
pub record Numbered (file session : List ℕ) (by-trails number : ℕ) : Type 0 where
  pub good-table : (number ≡ 1 → ⊥) ↔ GoodFile first_edition file
  pub bad-table : (number ≡ 1) ↔ (GoodFile first_edition file → ⊥)
  pub good-session : GoodFile first_edition file → (number ≡ 2 → ⊥) ↔ SoundBytes (table_of file) session
  pub bad-session : GoodFile first_edition file → (number ≡ 2) ↔ (SoundBytes (table_of file) session → ⊥)
  pub otherwise : GoodFile first_edition file → SoundBytes (table_of file) session → number ≡ by-trails

-- neither 1 nor 2 applies: the file is good, of bytes as its type says, and the session is sound for its table
pub record Proper (file session : List ℕ) : Type 0 where
  pub good : GoodFile first_edition file
  pub small : Bytes file
  pub sound : SoundBytes (table_of file) session

-- the number of a step by the rules in a file, from the session in some bytes
abbrev pub number_on : List ℕ → List ℕ → ℕ → ℕ → ℕ
number_on file session symbol room = step_number (table_of file) room (stands (session_of session)) symbol

-- what that step sends
abbrev pub sends_on : List ℕ → List ℕ → ℕ → Word
sends_on file session symbol = sends (table_of file) (stands (session_of session)) symbol

-- what the session stands for after it
abbrev pub follows_on : List ℕ → List ℕ → ℕ → Moment
follows_on file session symbol = follows (table_of file) (stands (session_of session)) symbol

-- "Step: 1 to 10 … A refusal gives byte count 0 and changes neither session nor output … Success writes from the
-- output's start, gives the byte count, and changes nothing after it"
pub record Stepped (file session : List ℕ) (symbol : ℕ) (out : List ℕ) (number count : ℕ) (session' out' : List ℕ)
    : Type 0 where
  pub numbered : Numbered file session (number_on file session symbol (length out)) number
  pub refused : (number ≡ 0 → ⊥) → (count ≡ 0) × (session' ≡ session) × (out' ≡ out)
  pub counted : number ≡ 0 → count ≡ length (sends_on file session symbol)
  pub written : number ≡ 0 → out' ≡ sends_on file session symbol ++ drop count out
  pub sound : number ≡ 0 → SoundBytes (table_of file) session'
  pub depth : number ≡ 0 → (session_of session').depth ≡ (follows_on file session symbol).depth
  pub waiting : number ≡ 0 → (p : Place)
      → (p among trails (session_of session')) ↔ (p among (follows_on file session symbol).waiting)

-- the same of an answer
abbrev pub Answered : List ℕ → List ℕ → ℕ → List ℕ → Result ℕ Refusal → List ℕ → List ℕ → Type 0
Answered file session symbol out r session' out' =
    Stepped file session symbol out (number_of r) (count_of r) session' out'

-- the number of finish by the rules in a file, of the session in some bytes
abbrev pub finish_on : List ℕ → List ℕ → ℕ → ℕ
finish_on file session room = finish_number (table_of file) room (stands (session_of session))

-- "what still waits": what that finish writes
abbrev pub rest_on : List ℕ → List ℕ → Word
rest_on file session = common (accepted (table_of file) (trails (session_of session)))

-- "Finish: 1, 2, 11, 12, 13, 10 … Finish writes what still waits and doesn't change the session"
pub record Finished (file session out : List ℕ) (number count : ℕ) (out' : List ℕ) : Type 0 where
  pub numbered : Numbered file session (finish_on file session (length out)) number
  pub refused : (number ≡ 0 → ⊥) → (count ≡ 0) × (out' ≡ out)
  pub counted : number ≡ 0 → count ≡ length (rest_on file session)
  pub written : number ≡ 0 → out' ≡ rest_on file session ++ drop count out

-- the same of an answer
abbrev pub Ended : List ℕ → List ℕ → List ℕ → Result ℕ Refusal → List ℕ → Type 0
Ended file session out r out' = Finished file session out (number_of r) (count_of r) out'
