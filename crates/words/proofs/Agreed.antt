-- What `common_length` has found from an index on. Assumes nothing.
use mathlib.Core.Path.{◌≡◌, refl, ◌∙◌}
use Prim.Native.Nat.{ℕ, ◌+◌, ◌≤◌, ◌<◌}
use native.Mathlib.Numerals.{add-one}
use native.Mathlib.Omega.{arith}
use mathlib.Core.List.{[], ◌∷◌}
use lib.ListN.{length, drop, get_or, drop_of_length-le}
use lib.Seq.{drop-cons}
use borrow.Author.Tests.{eq-eqb, ne_eqb}
use mathlib.Core.Logic.{◌⊎◌, inl, inr}
use Rattle.std.proofs.Common.{min}
use Rattle.words.specs.Words.{Word, shared}
use Rattle.words.proofs.Lists.{below_or}

-- the words agree below `i`: what they have in common is that much more than what their rests have
pub record Agreed (xs ys : Word) (i : ℕ) : Type 0 where
  pub rests : length (shared xs ys) ≡ i + length (shared (drop i xs) (drop i ys))

pub agreed-start : (xs ys : Word) → Agreed xs ys 0
agreed-start xs ys = record { rests = omega arith }

shared-nil : (xs : Word) → shared xs [] ≡ []
shared-nil [] = refl
shared-nil (x ∷ xs) = refl

module _ {xs ys : Word} {i : ℕ} (u : Agreed xs ys i) where
  pub agreed-next : i < length xs → i < length ys → get_or xs i 0 ≡ get_or ys i 0 → Agreed xs ys (i + 1)
  agreed-next h k e =
      record { rests = u.rests ∙ rw (add-one, drop-cons xs i 0, drop-cons ys i 0, eq-eqb _ _ e) (omega arith) }

  pub agreed-differ : i < length xs → i < length ys → (get_or xs i 0 ≡ get_or ys i 0 → ⊥) → i ≡ length (shared xs ys)
  agreed-differ h k e = rw (u.rests, drop-cons xs i 0, drop-cons ys i 0, ne_eqb _ _ e) (omega arith)

  pub agreed-end : i ≡ min (length xs) (length ys) → i ≡ length (shared xs ys)
  agreed-end e = go (below_or i (length xs))
    where
      go : (i < length xs) ⊎ (length xs ≤ i) → i ≡ length (shared xs ys)
      go (inl h) = rw (u.rests, drop_of_length-le ys {i = i} (omega arith), shared-nil) (omega arith)
      go (inr h) = rw (u.rests, drop_of_length-le xs h) (omega arith)
