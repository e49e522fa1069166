use Prim.Native.Nat.{◌+◌, ◌≤◌}
use mathlib.Core.Path.{◌≡◌}
use Rattle.session_meaning.specs.Bytes.{link_count}
use Rattle.session_meaning.specs.Numbers.{start_of, level_of}
use Rattle.links.proofs.Weighed.{Sought}
use Rattle.links.proofs.weigh.most_on.Given as goal

abbrev pub invariant-loop-j : goal.invariant-loop-j
invariant-loop-j l = (l.j-iterator.end ≡ start_of l.starts (level_of l.below + 1))
    × (l.j-iterator.start ≤ link_count l.bytes)
    × Sought l.bytes l.below (start_of l.starts (level_of l.below)) l.j-iterator.start l.most
