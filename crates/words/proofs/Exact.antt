-- What a test says exactly, and how tests of parts make a test of the whole. Assumes nothing.
use mathlib.Core.Path.{◌≡◌, refl, sym, ◌∙◌}
use mathlib.Core.Logic.{◌↔◌, ◌⊎◌, inl, inr}
use mathlib.Core.Bool.{Bool, true, false, cond, not, ◌&&◌, ◌||◌, false≢true}
use mathlib.Core.List.Memᴰ
use mathlib.Core.List.{List}
use Prim.Native.Nat.{ℕ, ◌<◌, ◌≤◌}
use lib.Dec.{eqb, ltb, leb}
use borrow.Author.Tests.{eqb-true, eq-eqb, ltb-true, lt-ltb, leb-true, le-leb}
use Rattle.words.specs.Lists.{◌among◌, Exact, every, any_of, is_empty}
use Rattle.words.specs.Words.{Word}
use Rattle.words.specs.Order.{same_word}
use Rattle.words.proofs.Lists.{both, split, either, every_in, every-out, any-in, any_out, empty-in, empty-out}
use Rattle.words.proofs.Ordered.{same_in, same_out}

-- a test that passed, and one that did not
pub yes-exact : {P : Type 0} → P → Exact P true
yes-exact p = (λ q. refl, λ e. p)

pub no-exact : {P : Type 0} → (P → ⊥) → Exact P false
no-exact f = (λ p. absurd (f p), λ e. absurd (false≢true e))

-- what a test says in a branch of `if test` or `if !test`
pub denied : {P : Type 0} {b : Bool} → Exact P b → b ≡ false → P → ⊥
denied e f p = false≢true (sym f ∙ e.0 p)

pub granted : {P : Type 0} {b : Bool} → Exact P b → b ≡ true → P
granted e h = e.1 h

pub eqb-exact : (m n : ℕ) → Exact (m ≡ n) (eqb m n)
eqb-exact m n = (eq-eqb m n, eqb-true m n)

pub ltb-exact : (m n : ℕ) → Exact (m < n) (ltb m n)
ltb-exact m n = (lt-ltb m n, ltb-true m n)

pub leb-exact : (m n : ℕ) → Exact (m ≤ n) (leb m n)
leb-exact m n = (le-leb m n, leb-true m n)

pub same-exact : (v w : Word) → Exact (v ≡ w) (same_word v w)
same-exact v w = (same_in, same_out v w)

-- the same test for a sentence that holds exactly when another does
pub exact-as : {P Q : Type 0} {b : Bool} → P ↔ Q → Exact P b → Exact Q b
exact-as f e = (λ q. e.0 (f.1 q), λ h. f.0 (e.1 h))

-- two tests for one sentence answer alike
pub exact_same : {P : Type 0} {a b : Bool} → Exact P a → Exact P b → a ≡ b
exact_same {a = true} e f = sym (f.0 (e.1 refl))
exact_same {a = false} {b = true} e f = e.0 (f.1 refl)
exact_same {a = false} {b = false} e f = refl

module _ {P : Type 0} where
  pub not-exact : {b : Bool} → Exact P b → Exact (P → ⊥) (not b)
  not-exact {b} e = (to b e.1, fro b e.0)
    where
      to : (b : Bool) → (b ≡ true → P) → (P → ⊥) → not b ≡ true
      to true f n = absurd (n (f refl))
      to false f n = refl

      fro : (b : Bool) → (P → b ≡ true) → not b ≡ true → P → ⊥
      fro true g h p = false≢true h
      fro false g h p = false≢true (g p)

  module _ {Q : Type 0} where
    -- the second is looked at where the first holds
    pub then-exact : {a b : Bool} → Exact P a → (P → Exact Q b) → Exact (P × Q) (a && b)
    then-exact {a} {b} e f = (
      λ x. both (e.0 x.0) ((f x.0).0 x.1),
      λ h. let x = split a b h in let p = e.1 x.0 in (p, (f p).1 x.1),
    )

    pub and-exact : {a b : Bool} → Exact P a → Exact Q b → Exact (P × Q) (a && b)
    and-exact e f = then-exact e (λ p. f)

    pub or-exact : {a b : Bool} → Exact P a → Exact Q b → Exact (P ⊎ Q) (a || b)
    or-exact {a} {b} e f = (to, λ h. fro (either a b h))
      where
        right : (a : Bool) → b ≡ true → (a || b) ≡ true
        right true h = refl
        right false h = h

        to : P ⊎ Q → (a || b) ≡ true
        to (inl p) = rw (e.0 p)
        to (inr q) = right a (f.0 q)

        fro : (a ≡ true) ⊎ (b ≡ true) → P ⊎ Q
        fro (inl h) = inl (e.1 h)
        fro (inr h) = inr (f.1 h)

    -- a condition that matters only where another holds
    pub if-exact : {a b : Bool} → Exact P a → Exact Q b → Exact (P → Q) (cond a b true)
    if-exact {a} {b} e f = (λ g. to a (λ h. f.0 (g (e.1 h))), λ h p. f.1 (rw (e.0 p) at h))
      where
        to : (a : Bool) → (a ≡ true → b ≡ true) → cond a b true ≡ true
        to true g = g refl
        to false g = refl

module _ {A : Type 0} {P : A → Type 0} {f : A → Bool} (l : List A) where
  pub every-exact : ((x : A) → x among l → Exact (P x) (f x)) → Exact ((x : A) → x among l → P x) (every f l)
  every-exact e = (λ g. every_in f l (λ x m. (e x m).0 (g x m)), λ h x m. (e x m).1 (every-out f l h x m))

  pub any-exact : ((x : A) → x among l → Exact (P x) (f x)) → Exact ((x : A) × (x among l) × P x) (any_of f l)
  any-exact e = (
    λ x. any-in f l x.1 ((e x.0 x.1).0 x.2),
    λ h. let x = any_out f l h in (x.0, x.1, (e x.0 x.1).1 x.2),
  )

pub empty-exact : {A : Type 0} (l : List A) → Exact ((x : A) → x among l → ⊥) (is_empty l)
empty-exact l = (empty-in l, λ e x m. Memᴰ.not-nil (rw (empty-out l e) at m))
