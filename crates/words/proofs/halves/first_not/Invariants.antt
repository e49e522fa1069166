use Rattle.std.proofs.Common.{◌-◌, ◌≡◌, ℕ, true, false, ◌+◌, ◌<◌, ◌≤◌}
use Rattle.words.proofs.halves.first_not.Given as goal

-- the test holds right below `low`, and does not hold of `high`, or that is the end
abbrev pub invariant-loop-low : goal.invariant-loop-low
invariant-loop-low g l =
    record {
      ordered : l.low ≤ l.high;
      within : l.high ≤ l.fn.n;
      before : (i : ℕ) → i + 1 ≡ l.low → goal.F-post g l.fn.test i true;
      onward : l.high < l.fn.n → goal.F-post g l.fn.test l.high false;
    }

abbrev pub decreases-loop-low : goal.decreases-loop-low
decreases-loop-low g l = l.high - l.low
