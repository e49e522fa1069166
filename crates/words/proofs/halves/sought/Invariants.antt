use Rattle.std.proofs.Common.{◌-◌, ◌≡◌, ℕ, ◌+◌, ◌<◌, ◌≤◌}
use Rattle.std.specs.declared.cmp.Ordering.TheVariants.{Less, Greater}
use Rattle.words.proofs.halves.sought.Given as goal

-- what is sought stands behind what is right below `low`, and before `high`, or that is the end
abbrev pub invariant-loop-low : goal.invariant-loop-low
invariant-loop-low g l =
    record {
      ordered : l.low ≤ l.high;
      within : l.high ≤ l.fn.n;
      before : (i : ℕ) → i + 1 ≡ l.low → goal.F-post g l.fn.test i Greater;
      onward : l.high < l.fn.n → goal.F-post g l.fn.test l.high Less;
    }

abbrev pub decreases-loop-low : goal.decreases-loop-low
decreases-loop-low g l = l.high - l.low
