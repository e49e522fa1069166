use mathlib.Core.Path.{◌≡◌}
use Prim.Native.Nat.{◌+◌}
use Rattle.session_meaning.specs.Numbers.{start_of, level_of}
use Rattle.session_meaning.proofs.Passed.{Heads}
use Rattle.session.specs.Calls.{head_number}
use Rattle.session.proofs.rules.ByLevel.apart.Given as goal

abbrev pub invariant-loop-j : goal.invariant-loop-j
invariant-loop-j l = record {
  end : l.j-iterator.end ≡ start_of l.self.starts (level_of l.foot + 1);
  heads : Heads l.self.session.now l.foot (head_number l.first) l.j-iterator.start;
}
