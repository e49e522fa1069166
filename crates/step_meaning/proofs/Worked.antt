-- Steps of table G, by computation. Assumes nothing.
use mathlib.Core.Path.{◌≡◌, refl}
use mathlib.Core.List.{[], ◌∷◌}
use Prim.Native.Nat.{ℕ}
use Rattle.words.specs.Words.{Word}
use Rattle.meaning.specs.Trails.{ground, over, link_of}
use Rattle.meaning.proofs.Worked.{G}
use Rattle.session_meaning.specs.Sessions.{Entry, entry, Session, beginning}
use Rattle.step_meaning.specs.Stepping.{stepped, sent, link_number}

abbrev high : ℕ → Word → Entry
high q w = entry (link_of (over q 1 (ground 0))) w

-- after 10, and after 10 and three 1s: `K` 75, `N` 78, `O` 79, `p` 112
abbrev opening : Session
opening = record { depth = 1; entries = entry (link_of (ground 0)) [] ∷ high 1 (75 ∷ []) ∷ high 2 (78 ∷ []) ∷ [] }

abbrev later : Session
later = stepped G (stepped G (stepped G opening 1) 1) 1

pub call-steps : stepped G (beginning G) 10 ≡ opening
call-steps = refl

pub call-sends : sent G (beginning G) 10 ≡ 79 ∷ []
call-sends = refl

pub return-sends : sent G (stepped G opening 1) 11 ≡ 75 ∷ 112 ∷ []
return-sends = refl

-- the numbers: no room, room; three 1s taken and a fourth a backlog; unknown, unopened, no run
pub numbers : link_number G 0 (beginning G) 10
    ∷ link_number G 1 (beginning G) 10
    ∷ link_number G 9 (stepped G (stepped G opening 1) 1) 1
    ∷ link_number G 9 later 1
    ∷ link_number G 9 (beginning G) 7
    ∷ link_number G 9 (beginning G) 11
    ∷ link_number G 9 (beginning G) 1
    ∷ []
    ≡ 10 ∷ 0 ∷ 0 ∷ 9 ∷ 3 ∷ 4 ∷ 6 ∷ []
numbers = refl
