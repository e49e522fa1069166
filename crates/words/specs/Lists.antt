-- Lists: what is among them, and what a function or a test makes of each thing in them.
use Rattle.std.specs.Prelude.{◌≡◌, ◌↔◌, Bool, true, false, ◌&&◌, ◌||◌, ℕ, zero, suc}
use mathlib.Core.List.{List, [], ◌∷◌, ◌++◌, Memᴰ}

-- a thing is in a list; all that is said of links, rows and runs that are listed is said with it
infix 50 ◌among◌
abbrev pub ◌among◌ : {A : Type 0} → A → List A → Type 0
x among l = Memᴰ x l

-- the lists that a function makes of the things in a list, joined in their order
abbrev pub each : {A B : Type 0} → (A → List B) → List A → List B
each f [] = []
each f (x ∷ l) = f x ++ each f l

-- the list of one thing, if a test passes
abbrev pub only : {A : Type 0} → Bool → A → List A
only true x = x ∷ []
only false x = []

-- what is made of each `x` and each `y` for which a test passes, by `x`, then by `y`
abbrev pub choices : {A B C : Type 0} → (A → B → Bool) → (A → B → C) → List A → List B → List C
choices test make X Y = each (λ x. each (λ y. only (test x y) (make x y)) Y) X

-- the test `b` passes exactly when `P` holds
abbrev pub Exact : Type 0 → Bool → Type 0
Exact P b = P ↔ (b ≡ true)

-- a test passes for all in a list
abbrev pub every : {A : Type 0} → (A → Bool) → List A → Bool
every f [] = true
every f (x ∷ l) = f x && every f l

-- a test passes for some in a list
abbrev pub any_of : {A : Type 0} → (A → Bool) → List A → Bool
any_of f [] = false
any_of f (x ∷ l) = f x || any_of f l

-- the numbers below `n`, rising: the places of a list
abbrev pub up_to : ℕ → List ℕ
up_to zero = []
up_to (suc n) = up_to n ++ n ∷ []

-- no two the same
abbrev pub Distinct : {A : Type 0} → List A → Type 0
Distinct [] = Unit {0}
Distinct (x ∷ l) = (x among l → ⊥) × Distinct l

-- whether a list has nothing in it
abbrev pub is_empty : {A : Type 0} → List A → Bool
is_empty [] = true
is_empty (x ∷ l) = false
