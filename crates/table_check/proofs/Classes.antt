-- The classes of a file taken together by or: all are small exactly when what they make is. Assumes nothing.
use mathlib.Core.List.{List}
use Prim.Native.Nat.{ℕ, ◌≤◌}
use native.Mathlib.Omega.{arith}
use lib.Dec.{ltb}
use lib.ListN.{length, take, drop}
use Rattle.words.specs.Lists.{Exact}
use Rattle.words.specs.Together.{together}
use Rattle.words.proofs.Exact.{exact-as}
use Rattle.words.proofs.Below.{AllBelow, below-exact, below-part}
use Rattle.meaning.specs.Parts.{class_count, classes_start, rows_start}
use Rattle.table.specs.Good.{Classes}

pub classes-exact : (file : List ℕ) → rows_start ≤ length file
    → Exact (Classes file) (ltb (together 0 (take class_count (drop classes_start file))) 4)
classes-exact file long = exact-as (to, fro) (below-exact 2 body)
  where
    body : List ℕ
    body = take class_count (drop classes_start file)

    to : AllBelow 4 body → Classes file
    to b =
        record { each = λ a lt. let h = (below-part file classes_start class_count (omega arith) 4).0 b a lt in omega arith }

    fro : Classes file → AllBelow 4 body
    fro c = (below-part file classes_start class_count (omega arith) 4).1 (λ a lt. let h = c.each a lt in omega arith)
