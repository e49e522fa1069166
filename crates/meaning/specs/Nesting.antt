-- Well-nested words, and when the words of one table nest for the classes of another: document 01, "Joining two hops".
use Rattle.std.specs.Prelude.{◌≡◌, Bool, true, false, cond, not, ◌&&◌, [], ◌∷◌, ◌++◌, ℕ, zero, suc, eqb}
use Rattle.std.proofs.Math.Option.{Option, some, none}
use Rattle.words.specs.Lists.{◌among◌, every}
use Rattle.words.specs.Words.{Word}
use Rattle.meaning.specs.Table.{Class, unused, call, return, internal, is, Row, Table}

-- 000, section 2.5, (i) to (iv): well-nested words
pub data Nested (k : ℕ → Class) : Word → Type 0 where
  nothing : Nested k []
  alone : {a : ℕ} → k a ≡ internal → Nested k (a ∷ [])
  around : {a b : ℕ} {v : Word} → k a ≡ call → Nested k v → k b ≡ return → Nested k (a ∷ (v ++ b ∷ []))
  beside : {v w : Word} → Nested k v → Nested k w → Nested k (v ++ w)

-- how many calls are open after a symbol; none if a return closes nothing, or for a symbol of class 0
abbrev pub after : Class → ℕ → Option ℕ
after unused d = none
after call d = some (suc d)
after return zero = none
after return (suc d) = some d
after internal d = some d

-- a number that there may be, and what is asked of it
abbrev pub and_then : Option ℕ → (ℕ → Option ℕ) → Option ℕ
and_then none f = none
and_then (some d) f = f d

-- how many calls are open after a word, if `d` were before it
abbrev pub level : (ℕ → Class) → Word → ℕ → Option ℕ
level k [] d = some d
level k (a ∷ w) d = and_then (after (k a) d) (level k w)

-- whether there is a number, and it is 0
abbrev pub is_zero : Option ℕ → Bool
is_zero none = false
is_zero (some d) = eqb d 0

-- the test for `Nested`: `nested-exact`
abbrev pub nested : (ℕ → Class) → Word → Bool
nested k w = is_zero (level k w 0)

-- 000, definition 39. None of: "a byte in some word of the first table has class 0 in the second; or an internal row's
-- word isn't well nested by the second's classes; or a call row's and a return row's word, with one marker, joined in
-- that order, aren't well nested"
pub record Nests (k : ℕ → Class) (A : Table) : Type 0 where
  pub known : (r : Row) → r among A.rows → (a : ℕ) → a among r.word → k a ≡ unused → ⊥
  pub inner : (r : Row) → r among A.rows → A.class r.symbol ≡ internal → Nested k r.word
  pub pairs : (r s : Row) → r among A.rows → s among A.rows → A.class r.symbol ≡ call
      → A.class s.symbol ≡ return → r.marker ≡ s.marker → Nested k (r.word ++ s.word)

-- "a call row's and a return row's word, with one marker": whether two rows are such a pair
abbrev pub partners : Table → Row → Row → Bool
partners A r s = is (A.class r.symbol) call && is (A.class s.symbol) return && eqb r.marker s.marker

-- the test for `Nests`, in the same three parts: `nests-exact`
abbrev pub nests : (ℕ → Class) → Table → Bool
nests k A =
    every (λ r. every (λ a. not (is (k a) unused)) r.word) A.rows
    && every (λ r. cond (is (A.class r.symbol) internal) (nested k r.word) true) A.rows
    && every (λ r. every (λ s. cond (partners A r s) (nested k (r.word ++ s.word)) true) A.rows) A.rows
