use mathlib.Core.Path.{◌≡◌}
use Prim.Native.Nat.{ℕ, ◌≤◌, ◌<◌}
use Rattle.session_meaning.specs.Numbers.{foot_at}
use Rattle.step_drafts.proofs.shaking.carried.Given as goal

abbrev pub invariant-loop-i : goal.invariant-loop-i
invariant-loop-i l = (k : ℕ) → k < l.i → l.first ≤ k → foot_at l.work k ≡ l.seat → ⊥
