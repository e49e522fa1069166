-- The first test of a list that passes, and the first sentence that holds. Assumes nothing.
use mathlib.Core.Path.{◌≡◌, refl, sym, ◌∙◌}
use mathlib.Core.Logic.{◌↔◌}
use mathlib.Core.Bool.{Bool, true, false, cond, not, ◌&&◌, true≢false}
use mathlib.Core.List.{List, [], ◌∷◌}
use Prim.Native.Nat.{ℕ, ◌<◌}
use native.Mathlib.Omega.{arith}
use lib.Dec.{eqb, ltb}
use borrow.Author.Tests.{eqb-true, eqb-false, eq-eqb, ne_eqb, ltb-true, not-true}
use Rattle.words.specs.Lists.{Exact, every}
use Rattle.words.proofs.Lists.{split}
use Rattle.meaning.specs.Table.{Class, is}
use Rattle.meaning.specs.Answers.{first}
use Rattle.meaning.specs.Sentences.{Sentence, First}
use Rattle.meaning.proofs.Shift.{is-in, is-out}

pub is-exact : (j k : Class) → Exact (j ≡ k) (is j k)
is-exact j k = (is-in, is-out j k)

-- tests and sentences side by side: the same numbers, and each test says whether its sentence holds, if none passed yet
abbrev pub Match : List (Bool × ℕ) → List Sentence → Type 0
Match [] [] = Unit {0}
Match [] (s ∷ l) = ⊥
Match (c ∷ k) [] = ⊥
Match (c ∷ k) (s ∷ l) = (c.1 ≡ s.number) × Exact s.holds c.0 × (c.0 ≡ false → Match k l)

-- numbers that are not 0 and differ
abbrev pub apart : List (Bool × ℕ) → Bool
apart [] = true
apart (c ∷ k) = ltb 0 c.1 && every (λ d. not (eqb c.1 d.1)) k && apart k

pub record Apart (c : Bool × ℕ) (k : List (Bool × ℕ)) : Type 0 where
  pub some : 0 < c.1
  pub later : every (λ d. not (eqb c.1 d.1)) k ≡ true
  pub rest : apart k ≡ true

pub apart_out : (c : Bool × ℕ) (k : List (Bool × ℕ)) → apart (c ∷ k) ≡ true → Apart c k
apart_out c k e =
    let s = split (ltb 0 c.1 && every (λ d. not (eqb c.1 d.1)) k) (apart k) e in
    let f = split (ltb 0 c.1) (every (λ d. not (eqb c.1 d.1)) k) s.0 in
    record { some = ltb-true 0 c.1 f.0; later = f.1; rest = s.1 }

-- a number that no test has is not given
pub absent : (n : ℕ) (k : List (Bool × ℕ)) → 0 < n → every (λ d. not (eqb n d.1)) k ≡ true → first k ≡ n → ⊥
absent n [] l h e = omega arith
absent n (c ∷ k) l h e = go c.0 e (absent n k l s.1)
  where
    s : (not (eqb n c.1) ≡ true) × (every (λ d. not (eqb n d.1)) k ≡ true)
    s = split (not (eqb n c.1)) (every (λ d. not (eqb n d.1)) k) h

    go : (b : Bool) → cond b c.1 (first k) ≡ n → (first k ≡ n → ⊥) → ⊥
    go true e ih = eqb-false n c.1 (not-true (eqb n c.1) s.0) (sym e)
    go false e ih = ih e

-- the number of the first test that passes has its sentence hold first
pub first_holds : (k : List (Bool × ℕ)) (l : List Sentence) → apart k ≡ true → Match k l → First l (first k)
first_holds [] [] h m = refl
first_holds [] (s ∷ l) h m = absurd m
first_holds (c ∷ k) [] h m = absurd m
first_holds (c ∷ k) (s ∷ l) h m = go c.0 refl (first_holds k l a.rest)
  where
    a : Apart c k
    a = apart_out c k h

    go : (b : Bool) → c.0 ≡ b → (Match k l → First l (first k)) → First (s ∷ l) (cond b c.1 (first k))
    go true e ih = rw (eq-eqb c.1 s.number m.0) (m.1.1 e)
    go false e ih =
        rw (ne_eqb (first k) s.number (λ d. absent c.1 k a.some a.later (d ∙ sym m.0)))
        (λ h. true≢false (sym (m.1.0 h) ∙ e), ih (m.2 e))

-- and no other number has
pub first_one : (l : List Sentence) (m n : ℕ) → First l m → First l n → m ≡ n
first_one [] m n e f = e ∙ sym f
first_one (s ∷ l) m n e f =
    go (eqb m s.number) refl (eqb n s.number) refl e f (first_one l m n)
  where
    go : (b : Bool) → eqb m s.number ≡ b → (c : Bool) → eqb n s.number ≡ c
        → cond b s.holds ((s.holds → ⊥) × First l m) → cond c s.holds ((s.holds → ⊥) × First l n)
        → (First l m → First l n → m ≡ n) → m ≡ n
    go true d true g e f ih = eqb-true m s.number d ∙ sym (eqb-true n s.number g)
    go true d false g e f ih = absurd (f.0 e)
    go false d true g e f ih = absurd (e.0 f)
    go false d false g e f ih = ih e.1 f.1

pub first-exact : (k : List (Bool × ℕ)) (l : List Sentence) → apart k ≡ true → Match k l
    → (n : ℕ) → (first k ≡ n) ↔ First l n
first-exact k l h m n = (λ e. rw e at (first_holds k l h m), λ f. first_one l (first k) n (first_holds k l h m) f)

-- 0 is given only if no test passes
abbrev pub Fails : List (Bool × ℕ) → Type 0
Fails [] = Unit {0}
Fails (c ∷ k) = (c.0 ≡ false) × Fails k

pub fails : (k : List (Bool × ℕ)) → apart k ≡ true → first k ≡ 0 → Fails k
fails [] h e = tt
fails (c ∷ k) h e = go c.0 refl e (fails k (apart_out c k h).rest)
  where
    go : (b : Bool) → c.0 ≡ b → cond b c.1 (first k) ≡ 0 → (first k ≡ 0 → Fails k) → Fails (c ∷ k)
    go true d e ih = absurd (let l = (apart_out c k h).some in omega arith)
    go false d e ih = (d, ih e)
