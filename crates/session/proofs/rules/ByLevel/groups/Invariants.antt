use Prim.Native.Nat.{ℕ, ◌<◌}
use Rattle.session_meaning.specs.Numbers.{RootedAt, CarriesAt}
use Rattle.session.proofs.rules.ByLevel.groups.Given as goal

abbrev pub invariant-loop-i : goal.invariant-loop-i
invariant-loop-i l = (k : ℕ) → k < l.i → RootedAt l.self.session.now k × CarriesAt l.self.session.now k
