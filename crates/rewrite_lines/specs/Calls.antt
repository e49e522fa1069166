-- What the functions that put lines ask and leave.
use Rattle.std.specs.Prelude.{◌≡◌, Bool, true, false, List, ℕ, ◌+◌, ◌*◌, ◌≤◌, length, take}
use Rattle.std.specs.declared.ops.ControlFlow.{ControlFlow}
use Rattle.std.specs.declared.ops.ControlFlow.TheVariants.{Continue, Break}
use Rattle.words.specs.Lists.{Exact}
use Rattle.words.specs.Calls.{Appended}
use Rattle.session_meaning.specs.Bytes.{session_of}
use Rattle.step_meaning.specs.Promises.{Stepped, Finished}
use Rattle.rewrite_lines.specs.Text.{line, ending}

-- whether a message goes on
abbrev pub goes_on : ControlFlow ℕ ℕ → Bool
goes_on (Continue next) = true
goes_on (Break next) = false

-- the place after what was put
abbrev pub next_of : ControlFlow ℕ ℕ → ℕ
next_of (Continue next) = next
next_of (Break next) = next

-- a symbol was tried, and its line put: "place from 1, symbol, number given back, depth after, bytes sent"; the line
-- has at most 52 bytes, and two for each byte of the output
pub record Told (file session : List ℕ) (symbol : ℕ) (out : List ℕ) (place : ℕ) (text : List ℕ) (at : ℕ)
    (r : ControlFlow ℕ ℕ) (session' out' text' : List ℕ) : Type 0 where
  pub number : ℕ
  pub count : ℕ
  pub stepped : Stepped file session symbol out number count session' out'
  pub taken : Exact (number ≡ 0) (goes_on r)
  pub short : next_of r ≤ at + 2 * length out + 52
  pub put : Appended text at (line place symbol number (session_of session').depth (take count out')) (next_of r) text'

-- finish was asked, and its line put: "then finish's number and bytes"
pub record EndTold (file session out text : List ℕ) (at r : ℕ) (out' text' : List ℕ) : Type 0 where
  pub number : ℕ
  pub count : ℕ
  pub finished : Finished file session out number count out'
  pub put : Appended text at (ending number (take count out')) r text'
