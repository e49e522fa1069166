-- Demand 2 from begin to finish: what calls that meet their contracts have sent and answer, in words of runs alone.
-- Nothing here is of the code: whatever meets `BeginsSession`, `Stepped` and `Finished` has it (`demand-2`, proofs/Demand).
use Rattle.std.specs.Prelude.{◌≡◌, ◌↔◌, List, [], ◌∷◌, ◌++◌, ℕ, ◌≤◌, length, take}
use Rattle.words.specs.Words.{Word}
use Rattle.meaning.specs.Runs.{depth}
use Rattle.meaning.specs.Sentences.{First, Agreed, step_sentences, finish_sentences, Only}
use Rattle.table.specs.File.{table_of}
use Rattle.table.specs.Good.{first_edition, GoodFile}
use Rattle.session_meaning.specs.Bytes.{session_of, SoundBytes}
use Rattle.session.specs.Calls.{BeginsSession}
use Rattle.step_meaning.specs.Promises.{Stepped, Finished}

-- begin, then steps with any room: the symbols taken, all bytes that the calls said they wrote, and the session after
-- them. "a refused symbol wasn't taken, and the next may be tried. Success writes from the output's start, gives the
-- byte count"; finish "doesn't change the session", so it may be asked at any time and is no part of this
pub data Served (file : List ℕ) : Word → Word → List ℕ → Type 0 where
  begun : {session session' : List ℕ} {number states : ℕ} → BeginsSession file session number states session' → number ≡ 0
      → Served file [] [] session'
  taken : {u z : Word} {session out session' out' : List ℕ} {a number count : ℕ} → Served file u z session
      → Stepped file session a out number count session' out' → number ≡ 0
      → Served file (u ++ a ∷ []) (z ++ take count out') session'
  refused : {u z : Word} {session out session' out' : List ℕ} {a number count : ℕ} → Served file u z session
      → Stepped file session a out number count session' out' → (number ≡ 0 → ⊥)
      → Served file u (z ++ take count out') session'

-- demand 2 of a message `u` that was taken, `z` sent: "one that refuses all, or answers the same always, by the exact
-- refusals of demand 2; one that sends nothing until finish, or works on the first symbol and then pretends, by
-- demand 2 after every symbol; an invented byte count or depth, by the bytes written and the symbols taken"
pub record Demand (file : List ℕ) (u z : Word) (session : List ℕ) : Type 0 where
  -- the file is good and the session sound: so numbers 1 and 2, which no sentence below has, are never given
  pub good : GoodFile first_edition file
  pub sound : SoundBytes (table_of file) session
  -- what was sent is the longest common beginning of the outputs of all runs over the symbols taken
  pub agreed : Agreed (table_of file) u z
  -- "Depth is calls less returns taken"
  pub depth : (session_of session).depth ≡ depth (table_of file) u
  -- "The first that applies is given … Step: 1 to 10": whatever symbol comes next, with whatever room
  pub steps : {a number count : ℕ} {out session' out' : List ℕ}
      → Stepped file session a out number count session' out'
      → (n : ℕ) → (number ≡ n) ↔ First (step_sentences (table_of file) (length out) u a) n
  -- "Finish: 1, 2, 11, 12, 13, 10"
  pub finishes : {number count : ℕ} {out out' : List ℕ} → Finished file session out number count out'
      → (n : ℕ) → (number ≡ n) ↔ First (finish_sentences (table_of file) (length out) u) n
  -- "Finish writes what still waits": it accepts with an output exactly when accepting runs exist and all give what was
  -- sent and then `w`, if there is room for `w`
  pub accepts : {number count : ℕ} {out out' : List ℕ} → Finished file session out number count out'
      → (w : Word) → ((number ≡ 0) × (take count out' ≡ w)) ↔ (Only (table_of file) u (z ++ w) × (length w ≤ length out))
