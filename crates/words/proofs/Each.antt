-- What is made of each thing in a list: one after the other, and of the numbers below another. Assumes nothing.
use mathlib.Core.Path.{◌≡◌, refl, sym, ◌∙◌, ap}
use mathlib.Core.Logic.{◌⊎◌, inl, inr}
use mathlib.Core.List.{List, [], ◌∷◌, ◌++◌, map, map-append, append-nil}
use Prim.Native.Nat.{ℕ, zero, suc, ◌<◌, ◌≤◌}
use native.Mathlib.Omega.{arith}
use Rattle.words.specs.Lists.{each, up_to}
use Rattle.words.proofs.Lists.{each_append, below_or}

-- what is made of each thing that is made
pub each-each : {A B C : Type 0} (g : B → List C) (f : A → List B) (l : List A)
    → each g (each f l) ≡ each (λ x. each g (f x)) l
each-each g f [] = refl
each-each {C = C} g f (x ∷ l) =
    each_append g (f x) (each f l) ∙ ap (λ (m : List C). each g (f x) ++ m) (each-each g f l)

pub map_each : {A B C : Type 0} (g : B → C) (f : A → List B) (l : List A)
    → map g (each f l) ≡ each (λ x. map g (f x)) l
map_each g f [] = refl
map_each {C = C} g f (x ∷ l) =
    map-append g (f x) (each f l) ∙ ap (λ (m : List C). map g (f x) ++ m) (map_each g f l)

-- of the numbers below `n`: one more, and those of which nothing is made left out
module _ {A : Type 0} (f : ℕ → List A) where
  pub each_more : (n : ℕ) → each f (up_to n) ++ f n ≡ each f (up_to (suc n))
  each_more n =
      sym (each_append f (up_to n) (n ∷ []) ∙ ap (λ (l : List A). each f (up_to n) ++ l) (append-nil (f n)))

  pub each_same : (n m : ℕ) → n ≤ m → ((k : ℕ) → n ≤ k → k < m → f k ≡ []) → each f (up_to n) ≡ each f (up_to m)
  each_same n zero l h = let e : n ≡ 0 = omega arith in rw e
  each_same n (suc m) l h = go (below_or n (suc m)) (each_same n m)
    where
      go : (n < suc m) ⊎ (suc m ≤ n)
          → (n ≤ m → ((k : ℕ) → n ≤ k → k < m → f k ≡ []) → each f (up_to n) ≡ each f (up_to m))
          → each f (up_to n) ≡ each f (up_to (suc m))
      go (inl b) ih =
          ih (omega arith) (λ k a b. h k a (omega arith))
          ∙ sym (append-nil (each f (up_to m)))
          ∙ ap (λ (l : List A). each f (up_to m) ++ l) (sym (h m (omega arith) (omega arith)))
          ∙ each_more m
      go (inr b) ih = let e : n ≡ suc m = omega arith in rw e
