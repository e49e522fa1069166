-- Sessions of table G, and one unsound session for each rule, by computation. Assumes nothing.
use mathlib.Core.Path.{◌≡◌, refl}
use mathlib.Core.Bool.{true, not}
use mathlib.Core.Option.{none}
use mathlib.Core.List.{List, [], ◌∷◌}
use Prim.Native.Nat.{ℕ}
use Rattle.words.specs.Lists.{every, up_to}
use Rattle.words.specs.Words.{Word}
use Rattle.meaning.specs.Table.{Table}
use Rattle.meaning.specs.Trails.{Trail, ground, over, link_of}
use Rattle.meaning.specs.Answers.{opened, follows}
use Rattle.meaning.proofs.Worked.{table, G}
use Rattle.session_meaning.specs.Sessions.{Entry, entry, Session, stands, beginning}
use Rattle.session_meaning.specs.Soundly.{soundly}

abbrev session : ℕ → List Entry → Session
session d E = record { depth = d; entries = E }

-- the top of a trail, with a piece; at level 0; at level 1 over state 0
abbrev piece : Trail → Word → Entry
piece t w = entry (link_of t) w

abbrev low : ℕ → Word → Entry
low q w = piece (ground q) w

abbrev high : ℕ → ℕ → Word → Entry
high q m w = piece (over q m (ground 0)) w

-- after 10, and after 10 and three 1s: `K` 75, `N` 78, `p` 112
abbrev opening : Session
opening = session 1 (low 0 [] ∷ high 1 1 (75 ∷ []) ∷ high 2 1 (78 ∷ []) ∷ [])

abbrev waiting : Session
waiting =
    session 1 (low 0 [] ∷ high 1 1 (75 ∷ 112 ∷ 112 ∷ 112 ∷ []) ∷ high 2 1 (78 ∷ 112 ∷ 112 ∷ 112 ∷ []) ∷ [])

pub opening-stands : stands opening ≡ follows G (opened G) 10
opening-stands = refl

pub waiting-stands : stands waiting ≡ follows G (follows G (follows G (follows G (opened G) 10) 1) 1) 1
waiting-stands = refl

-- as many starting states as links can be, and one more
abbrev wide : ℕ → Table
wide n = table n 1 4 (up_to n) [] []

pub sound-ones : every (soundly G) (beginning G ∷ opening ∷ waiting ∷ []) ≡ true
sound-ones = refl

pub sound-64 : soundly (wide 64) (beginning (wide 64)) ≡ true
sound-64 = refl

pub unsound-65 : not (soundly (wide 65) (beginning (wide 65))) ≡ true
unsound-65 = refl

-- a trail with `n` calls open
abbrev tall : List ℕ → Trail
tall [] = ground 0
tall (n ∷ l) = over 0 1 (tall l)

abbrev unsound : List Session
unsound =
    -- over the depth cap
    session 5 (
    piece (tall []) []
    ∷ piece (tall (up_to 1)) []
    ∷ piece (tall (up_to 2)) []
    ∷ piece (tall (up_to 3)) []
    ∷ piece (tall (up_to 4)) []
    ∷ piece (tall (up_to 5)) []
    ∷ []
    )
    -- no link
    ∷ session 0 []
    -- a state, a marker out of range; marker 0 above level 0; a marker at level 0
    ∷ session 0 (low 4 [] ∷ [])
    ∷ session 1 (low 0 [] ∷ high 1 2 [] ∷ [])
    ∷ session 1 (low 0 [] ∷ high 1 0 [] ∷ [])
    ∷ session 0 (entry (record { level = 0; here = record { state = 0; marker = 1 }; below = none }) [] ∷ [])
    -- a link twice; falling links
    ∷ session 0 (low 0 [] ∷ low 0 [] ∷ [])
    ∷ session 0 (low 1 [] ∷ low 0 [] ∷ [])
    -- a link that nothing stands on, one that stands on nothing, one above the depth
    ∷ session 1 (low 0 [] ∷ low 1 [] ∷ high 1 1 [] ∷ [])
    ∷ session 1 (low 0 [] ∷ high 1 1 [] ∷ piece (over 1 1 (ground 1)) [] ∷ [])
    ∷ session 0 (low 0 [] ∷ high 1 1 [] ∷ [])
    -- a piece, and pieces together, over the waiting cap
    ∷ session 1 (low 0 [] ∷ high 1 1 (1 ∷ 1 ∷ 1 ∷ 1 ∷ 1 ∷ []) ∷ high 2 1 [] ∷ [])
    ∷ session 1 (
    low 0 (7 ∷ 7 ∷ 7 ∷ [])
    ∷ low 1 (8 ∷ [])
    ∷ high 1 1 (1 ∷ 1 ∷ [])
    ∷ piece (over 1 1 (ground 1)) []
    ∷ high 2 1 (2 ∷ [])
    ∷ []
    )
    -- a common first byte at level 0, and on a pair
    ∷ session 0 (low 0 (7 ∷ []) ∷ [])
    ∷ session 1 (low 0 [] ∷ high 1 1 (79 ∷ 75 ∷ []) ∷ high 2 1 (79 ∷ 78 ∷ []) ∷ [])
    -- no byte
    ∷ session 0 (low 0 (256 ∷ []) ∷ low 1 [] ∷ [])
    ∷ []

pub unsound-ones : every (λ S. not (soundly G S)) unsound ≡ true
unsound-ones = refl
