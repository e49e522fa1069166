-- A symbol that was tried, and its line: what is known of step's answer when the line is put, and that its contract
-- allows one answer. Assumes nothing.
use mathlib.Core.Path.{◌≡◌, refl, ap}
use mathlib.Core.Bool.{true, false}
use mathlib.Core.List.{List}
use Prim.Native.Nat.{ℕ, ◌+◌, ◌*◌, ◌^◌, ◌<◌, ◌≤◌}
use native.Mathlib.Omega.{arith}
use lib.ListN.{length}
use Rattle.std.specs.declared.ops.ControlFlow.{ControlFlow}
use Rattle.std.specs.declared.ops.ControlFlow.TheVariants.{Continue, Break}
use Rattle.std.specs.Prelude.{Result, Ok, Err}
use Rattle.std.specs.Result.{result_unwrap_or}
use Rattle.words.specs.Words.{Word}
use Rattle.words.specs.Calls.{Room}
use Rattle.words.proofs.Exact.{exact_same}
use Rattle.words.proofs.Puts.{appended-unique}
use Rattle.numbers.specs.Numbers.{count_of}
use Rattle.numbers.specs.declared.Refusal.{Refusal}
use Rattle.step_meaning.proofs.Told.{stepped-unique, finished-unique}
use Rattle.rewrite_lines.specs.Text.{line, ending}
use Rattle.rewrite_lines.specs.Calls.{goes_on, next_of, Told, EndTold}
use Rattle.rewrite_lines.proofs.Short.{line-short, ending-short}

-- how many bytes were sent, as the program reads it of an answer
pub sent-count : (r : Result ℕ Refusal) → result_unwrap_or r 0 ≡ count_of r
sent-count (Ok n) = refl
sent-count (Err q) = refl

-- a line that sends at most `n` bytes, and a text that has room for the longest of these
module _ (place symbol number depth : ℕ) (w : Word) (n : ℕ) (in_place : place < 2 ^ 64) (in-symbol : symbol < 2 ^ 8)
    (in-number : number < 2 ^ 8) (in-depth : depth < 2 ^ 64) (few : length w ≤ n) where
  pub line-most : length (line place symbol number depth w) ≤ 2 * n + 52
  line-most = omega (arith, line-short place symbol number depth w in_place in-symbol in-number in-depth)

  pub line-room : (text : List ℕ) (at : ℕ) → at + 2 * n + 52 ≤ length text
      → Room text at (line place symbol number depth w)
  line-room text at room = record { fits = omega (arith, line-most) }

pub ending-room : (number : ℕ) (w : Word) (n : ℕ) → number < 2 ^ 8 → length w ≤ n → (text : List ℕ) (at : ℕ)
    → at + 2 * n + 10 ≤ length text → Room text at (ending number w)
ending-room number w n lt few text at room = record { fits = omega (arith, ending-short number w lt) }

-- one flag and one place are one answer
flow-same : (r q : ControlFlow ℕ ℕ) → goes_on r ≡ goes_on q → next_of r ≡ next_of q → r ≡ q
flow-same (Continue m) (Continue n) e f = ap Continue f
flow-same (Continue m) (Break n) e f = let bad : true ≡ false = e in cc
flow-same (Break m) (Continue n) e f = let bad : false ≡ true = e in cc
flow-same (Break m) (Break n) e f = ap Break f

-- two answers that meet the contract are the same, and so is all that they leave behind
module _ {file session : List ℕ} {symbol : ℕ} {out : List ℕ} {place : ℕ} {text : List ℕ} {at : ℕ} where
  pub told-unique : {r q : ControlFlow ℕ ℕ} {s s' o o' t t' : List ℕ}
      → Told file session symbol out place text at r s o t → Told file session symbol out place text at q s' o' t'
      → (r ≡ q) × (s ≡ s') × (o ≡ o') × (t ≡ t')
  told-unique {r} {q} {s} {s'} {o} {o'} {t} {t'} a b =
      let same = stepped-unique file session symbol out a.stepped b.stepped in
      let texts = appended-unique {q = next_of q} {u = t'} a.put (rw (same.0, same.1, same.2, same.3) b.put) in
      (flow-same r q (exact_same a.taken (rw same.0 b.taken)) texts.0, same.2, same.3, texts.1)

pub end-unique : {file session out text : List ℕ} {at r q : ℕ} {o o' t t' : List ℕ}
    → EndTold file session out text at r o t → EndTold file session out text at q o' t'
    → (r ≡ q) × (o ≡ o') × (t ≡ t')
end-unique {file} {session} {out} {text} {at} {r} {q} {o} {o'} {t} {t'} a b =
    let same = finished-unique file session out a.finished b.finished in
    let texts = appended-unique {q = q} {u = t'} a.put (rw (same.0, same.1, same.2) b.put) in
    (texts.0, same.2, texts.1)
