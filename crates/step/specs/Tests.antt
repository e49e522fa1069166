-- What a step knows once the first of its tests have passed, and what its parts answer.
use Rattle.std.specs.Prelude.{◌≡◌, false, ◌&&◌, List, [], ℕ, ◌≤◌, eqb, length, Result, Ok, Err, ⊤}
use Rattle.words.specs.Lists.{is_empty}
use Rattle.numbers.specs.declared.Refusal.{Refusal}
use Rattle.meaning.specs.Table.{unused, call, return, is, Table}
use Rattle.meaning.specs.Answers.{links_cap, deeper}
use Rattle.table.specs.File.{table_of}
use Rattle.session_meaning.specs.Sessions.{Session}
use Rattle.session_meaning.specs.Bytes.{session_of}
use Rattle.step_meaning.specs.Stepping.{grow, conflict, kept, shaken}
use Rattle.step_meaning.specs.Promises.{Proper, Answered}
use Rattle.step_drafts.specs.Drafts.{drafts_of, Drafted}

-- the symbol is known, and neither closes nor opens too much
pub record Open (T : Table) (S : Session) (a : ℕ) : Type 0 where
  pub known : is (T.class a) unused ≡ false
  pub opened : (is (T.class a) return && eqb S.depth 0) ≡ false
  pub shallow : (is (T.class a) call && eqb S.depth T.depth_cap) ≡ false

-- all this, and which depth follows
pub record Opened (file session : List ℕ) (a depth : ℕ) : Type 0 where
  pub proper : Proper file session
  pub to : Open (table_of file) (session_of session) a
  pub is : depth ≡ deeper ((table_of file).class a) (session_of session).depth

-- something moves, the links of the moved trails are few, and none clash; and they are drafted
pub record LeftOf (file session : List ℕ) (a depth : ℕ) : Type 0 where
  pub opened : Opened file session a depth
  pub some : is_empty (grow (table_of file) (session_of session) a) ≡ false
  pub few : length (shaken (kept (table_of file) (session_of session) a)).entries ≤ links_cap
  pub one : conflict [] (grow (table_of file) (session_of session) a) ≡ false

pub record Left (file session : List ℕ) (a depth : ℕ) (work : List ℕ) : Type 0 where
  pub left : LeftOf file session a depth
  pub drafts : Drafted work
  pub are : drafts_of work ≡ (shaken (kept (table_of file) (session_of session) a)).entries

-- what a part of a step answers: a refusal is the step's own, whatever the output is, and all is as it was; else this
-- holds of what it found
abbrev pub Part : {A : Type 0} → List ℕ → List ℕ → ℕ → (A → Type 0) → Result A Refusal → Type 0
Part file session a P (Ok found) = P found
Part file session a P (Err refusal) = (out : List ℕ) → Answered file session a out (Err refusal) session out

-- what looking at the symbol answers, and what drafting does
abbrev pub Opens : List ℕ → List ℕ → ℕ → Result ℕ Refusal → Type 0
Opens file session a r = Part file session a (Opened file session a) r

abbrev pub Drafting : List ℕ → List ℕ → ℕ → ℕ → List ℕ → Result ⊤ Refusal → Type 0
Drafting file session a depth work r = Part file session a (λ u. Left file session a depth work) r
