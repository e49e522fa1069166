-- Joining gives the number of the first sentence that holds. Assumes nothing.
use mathlib.Core.Path.{◌≡◌, refl}
use mathlib.Core.Bool.{or_assoc}
use mathlib.Core.Logic.{◌↔◌}
use Prim.Native.Nat.{ℕ}
use lib.ListN.{length}
use Rattle.meaning.specs.Table.{Table, Limits}
use Rattle.meaning.specs.Joining.{joined, file_size, long_word, large, join_tests, join_number}
use Rattle.meaning.specs.Runs.{said}
use Rattle.meaning.specs.Sentences.{First, LongWord, TooLarge, join_sentences}
use Rattle.words.specs.Lists.{Exact}
use Rattle.words.proofs.Exact.{ltb-exact, not-exact, or-exact, any-exact}
use Rattle.meaning.proofs.Tests.{first-exact}
use Rattle.meaning.proofs.Nesting.{nests-exact}

long-exact : (n : ℕ) (T : Table) → Exact (LongWord n T) (long_word n T)
long-exact n T = any-exact T.rows (λ r m. ltb-exact n (length r.word))

-- the test says exactly what TooLarge is
pub large-exact : (L : Limits) (A B : Table) → Exact (TooLarge L A B) (large L A (joined A B))
large-exact L A B =
    let J = joined A B in
    simp or_assoc
    (or-exact (long-exact 16 A)
    (or-exact (ltb-exact L.states J.states)
    (or-exact (ltb-exact L.markers J.markers)
    (or-exact (ltb-exact L.rows (length J.rows))
    (or-exact (long-exact L.word J)
    (ltb-exact L.words (length (said J.rows))))))))

-- each number of joining is given exactly when its sentence is the first that holds
pub join-exact : (L : Limits) (room : ℕ) (A B : Table) (n : ℕ)
    → (join_number L room A B ≡ n) ↔ First (join_sentences L room A B) n
join-exact L room A B =
    first-exact (join_tests L room A B) (join_sentences L room A B) refl (
      refl,
      not-exact (nests-exact B.class A),
      λ nest. (
        refl,
        large-exact L A B,
        λ small. (refl, ltb-exact room (file_size (joined A B)), λ fits. tt),
      ),
    )
