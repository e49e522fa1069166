-- The joined file of document 01, "Worked by hand", byte for byte, by computation. Assumes nothing.
use mathlib.Core.Path.{◌≡◌, refl}
use mathlib.Core.List.{List, [], ◌∷◌, ◌++◌}
use Prim.Native.Nat.{ℕ}
use lib.ListN.{length, replicate}
use Rattle.meaning.specs.Table.{Table}
use Rattle.meaning.specs.Joining.{joined}
use Rattle.meaning.proofs.Worked.{first_hop, second_hop}
use Rattle.join_meaning.specs.Laid.{class_bytes, file_of}
use Rattle.join_meaning.proofs.Laid.{file-length}

-- "first, one state, `(` writes `[{`, `)` writes `}]`"
abbrev J : Table
J = joined (first_hop (125 ∷ 93 ∷ [])) second_hop

-- "Joined: one marker, `(` writes `ab`, `)` writes `cd`, 320 bytes"; "Classes and depth cap are the first's"
abbrev expected : List ℕ
expected =
    (1 ∷ 1 ∷ 1 ∷ 4 ∷ 3 ∷ 0 ∷ 64 ∷ 1 ∷ [])
    ++ (28 ∷ 0 ∷ 0 ∷ 1 ∷ 28 ∷ 1 ∷ 8 ∷ 0 ∷ 36 ∷ 1 ∷ 8 ∷ 0 ∷ 44 ∷ 1 ∷ 16 ∷ 0 ∷ 60 ∷ 1 ∷ 4 ∷ 0 ∷ [])
    ++ (replicate 40 0 ++ 1 ∷ 2 ∷ replicate 214 0)
    ++ (1 ∷ replicate 7 0)
    ++ (1 ∷ replicate 7 0)
    ++ (40 ∷ 0 ∷ 0 ∷ 1 ∷ 0 ∷ 0 ∷ 2 ∷ 0 ∷ 41 ∷ 0 ∷ 0 ∷ 1 ∷ 2 ∷ 0 ∷ 2 ∷ 0 ∷ [])
    ++ (97 ∷ 98 ∷ 99 ∷ 100 ∷ [])

worked : file_of J ≡ expected
unfolding file_of class_bytes
worked = refl

long : length (file_of J) ≡ 320
long = file-length J
