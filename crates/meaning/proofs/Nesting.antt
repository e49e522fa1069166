-- The tests of nesting say exactly which words are well nested, and which tables nest. Assumes nothing.
use mathlib.Core.Path.{◌≡◌, refl, sym, ◌∙◌, ap}
use mathlib.Core.Bool.{true, false≢true}
use mathlib.Core.Option.{Option, some, none, none-ne-some}
use mathlib.Core.Logic.{◌↔◌}
use mathlib.Core.List.{[], ◌∷◌, ◌++◌, append_assoc}
use Prim.Native.Nat.{ℕ, zero, suc}
use borrow.Author.Tests.{eqb-true}
use native.Mathlib.Omega.{arith}
use Rattle.words.specs.Lists.{◌among◌, Exact}
use Rattle.words.specs.Words.{Word}
use Rattle.meaning.specs.Table.{Class, unused, call, return, internal, Row, Table}
use Rattle.meaning.specs.Nesting.{Nested, nothing, alone, around, beside, after, and_then, level, is_zero, nested}
use Rattle.meaning.specs.Nesting.{Nests, partners, nests}
use Rattle.words.proofs.Exact.{eqb-exact, not-exact, and-exact, if-exact, every-exact}
use Rattle.meaning.proofs.Tests.{is-exact}

pub and_then-some : (o : Option ℕ) (f : ℕ → Option ℕ) {n : ℕ} → and_then o f ≡ some n
    → (m : ℕ) × (o ≡ some m) × (f m ≡ some n)
and_then-some none f {n} e = absurd (none-ne-some n e)
and_then-some (some m) f e = (m, refl, e)

and_then-assoc : (o : Option ℕ) (f g h : ℕ → Option ℕ) → ((d : ℕ) → f d ≡ and_then (g d) h)
    → and_then o f ≡ and_then (and_then o g) h
and_then-assoc none f g h e = refl
and_then-assoc (some d) f g h e = e d

module _ (k : ℕ → Class) where
  pub level-append : (v w : Word) (d : ℕ) → level k (v ++ w) d ≡ and_then (level k v d) (level k w)
  level-append [] w d = refl
  level-append (a ∷ v) w d =
      and_then-assoc (after (k a) d) (level k (v ++ w)) (level k v) (level k w) (level-append v w)

  -- a well-nested word leaves as many calls open as there were
  pub nested-level : {w : Word} → Nested k w → (d : ℕ) → level k w d ≡ some d
  nested-level nothing d = refl
  nested-level (alone e) d = rw e
  nested-level (around {a} {b} {v} e n f) d = rw (e, level-append v (b ∷ []) (suc d), nested-level n (suc d), f)
  nested-level (beside {v} {w} m n) d = rw (level-append v w d, nested-level m d, nested-level n d)

  -- the words that close `d` calls: well-nested words with a return between each and the next
  abbrev Closing : ℕ → Word → Type 0
  Closing zero w = Nested k w
  Closing (suc d) w = (v : Word) × (b : ℕ) × (x : Word) × Nested k v × (k b ≡ return) × Closing d x × (w ≡ v ++ b ∷ x)

  beside-closing : (d : ℕ) (v w : Word) → Nested k v → Closing d w → Closing d (v ++ w)
  beside-closing zero v w n c = beside n c
  beside-closing (suc d) v w n c =
      (v ++ c.0, c.1, c.2, beside n c.3, c.4, c.5, cc (c.6, append_assoc v c.0 (c.1 ∷ c.2)))

  closing : (w : Word) (d : ℕ) → level k w d ≡ some 0 → Closing d w
  closing [] zero e = nothing
  closing [] (suc d) e = let z : ◌≡◌ {A = ℕ} (suc d) 0 = cc in absurd (omega arith)
  closing (a ∷ w) d e = go (k a) refl d e (closing w)
    where
      go : (c : Class) → k a ≡ c → (d : ℕ) → and_then (after c d) (level k w) ≡ some 0
          → ((d : ℕ) → level k w d ≡ some 0 → Closing d w) → Closing d (a ∷ w)
      go unused f d e ih = absurd (none-ne-some 0 e)
      go call f d e ih =
          let c = ih (suc d) e in
          let p : a ∷ w ≡ (a ∷ (c.0 ++ c.1 ∷ [])) ++ c.2 = cc (c.6, append_assoc c.0 (c.1 ∷ []) c.2) in
          rw p (beside-closing d (a ∷ (c.0 ++ c.1 ∷ [])) c.2 (around f c.3 c.4) c.5)
      go return f zero e ih = absurd (none-ne-some 0 e)
      go return f (suc d) e ih = ([], a, w, nothing, f, ih d e, refl)
      go internal f d e ih = beside-closing d (a ∷ []) w (alone f) (ih d e)

  -- the test says exactly which words are well nested
  pub nested-exact : (w : Word) → Nested k w ↔ (nested k w ≡ true)
  nested-exact w = (λ n. rw (nested-level n 0), λ e. closing w 0 (zero-out (level k w 0) e))
    where
      zero-out : (o : Option ℕ) → is_zero o ≡ true → o ≡ some 0
      zero-out none e = absurd (false≢true e)
      zero-out (some d) e = ap some (eqb-true d 0 e)

-- what a call row's word opens, the word of a return row with its marker closes
pub pairs-level : {k : ℕ → Class} {A : Table} → Nests k A → (r s : Row) → r among A.rows → s among A.rows
    → A.class r.symbol ≡ call → A.class s.symbol ≡ return → r.marker ≡ s.marker
    → (n : ℕ) × (level k r.word 0 ≡ some n) × (level k s.word n ≡ some 0)
pairs-level {k} nests r s m n c d e =
    and_then-some (level k r.word 0) (level k s.word)
    (sym (level-append k r.word s.word 0) ∙ nested-level k (nests.pairs r s m n c d e) 0)

partners-exact : (A : Table) (r s : Row)
    → Exact
    (((A.class r.symbol ≡ call) × (A.class s.symbol ≡ return)) × (r.marker ≡ s.marker))
    (partners A r s)
partners-exact A r s = and-exact (and-exact (is-exact _ call) (is-exact _ return)) (eqb-exact r.marker s.marker)

-- the test for NotNested says exactly which tables nest
pub nests-exact : (k : ℕ → Class) (A : Table) → Nests k A ↔ (nests k A ≡ true)
nests-exact k A =
    let known = every-exact A.rows (λ r m. every-exact r.word (λ a i. not-exact (is-exact (k a) unused))) in
    let inner =
    every-exact A.rows
    (λ r m. if-exact (is-exact (A.class r.symbol) internal) (nested-exact k r.word)) in
    let pairs =
    every-exact A.rows
    (λ r m. every-exact A.rows (λ s i. if-exact (partners-exact A r s) (nested-exact k (r.word ++ s.word)))) in
    let parts = and-exact (and-exact known inner) pairs in (
      λ n. parts.0 ((n.known, n.inner), λ r m s i c. n.pairs r s m i c.0.0 c.0.1 c.1),
      λ e. let x = parts.1 e in
          record { known = x.0.0; inner = x.0.1; pairs = λ r s m i c d f. x.1 r m s i ((c, d), f) },
    )
