-- Nesting row by row: the words of a good file, and what is known of a row by its symbol's class. Assumes nothing.
use mathlib.Core.Path.{◌≡◌, refl, sym, ◌∙◌, ap}
use mathlib.Core.Bool.{Bool, false≢true}
use mathlib.Core.Option.{Option}
use mathlib.Core.List.Memᴰ
use mathlib.Core.List.{List, ◌∷◌, ◌++◌}
use Prim.Native.Nat.{ℕ, suc, ◌+◌, ◌<◌, ◌≤◌}
use native.Mathlib.Omega.{arith}
use lib.ListN.{length, get_or, length-take}
use Rattle.words.specs.Lists.{◌among◌, Exact, up_to}
use Rattle.words.specs.Words.{Word}
use Rattle.words.proofs.Lists.{up_to-in, up_to-out, get_or-byte}
use Rattle.words.proofs.Exact.{exact-as}
use Rattle.meaning.specs.Table.{Class, unused, call, return, internal, is, Row, Table}
use Rattle.meaning.specs.Nesting.{and_then, level, is_zero, nested}
use Rattle.meaning.proofs.Tests.{is-exact}
use Rattle.meaning.proofs.Nesting.{level-append, nested-exact}
use Rattle.table.specs.File.{row_count, row_start, word_of, row_at, table_of}
use Rattle.table.proofs.Stands.{rows-of}
use Rattle.join_nesting.specs.Nesting.{Hops, level_of, Few, Opens, Known}
use Rattle.join_nesting.specs.Nesting.{PairNests, RowNests}
use Rattle.std.specs.Prelude.{Option as Maybe}
use Rattle.join_nesting.proofs.Levels.{level-small}

-- the rows of a file are those by number
module _ (file : List ℕ) where
  pub row-among : (i : ℕ) → i < row_count file → row_at file i among (table_of file).rows
  row-among i l = rw (rows-of file) (Memᴰ.map (row_at file) (up_to-in (row_count file) i l))

  pub rows-each : (P : Row → Type 0) → ((i : ℕ) → i < row_count file → P (row_at file i)) → (r : Row)
      → r among (table_of file).rows → P r
  rows-each P f r m =
      let x = Memᴰ.of_map (row_at file) (up_to (row_count file)) (rw (rows-of file) at m) in
      rw (← x.2) (f x.0 (up_to-out (row_count file) x.0 x.1))

-- their words are short
pub word-short : {a b : List ℕ} → Hops a b → (i : ℕ) {w : Word} → w ≡ word_of a i → length w ≤ 255
word-short {a} h i e = rw e (simp length-take (let n = get_or-byte a h.first-bytes (row_start i + 6) in omega arith))

-- few are open after the word of a row
pub opens-few : {a b : List ℕ} {i : ℕ} {from : Maybe ℕ} → Opens a b i from → Few from
opens-few {a} {b} {i} o =
    record {
      few = λ many e.
          omega (
            arith,
            word-short o.hops i refl,
            level-small (table_of b).class (row_at a i).word 0 (sym o.is ∙ ap level_of e),
          );
    }

pub known-all : (k : ℕ → Class) (w : Word) → ((i : ℕ) → i < length w → k (get_or w i 0) ≡ unused → ⊥) → Known k w
known-all k w f = record { each = at w f }
  where
    at : (w : Word) → ((i : ℕ) → i < length w → k (get_or w i 0) ≡ unused → ⊥) → (a : ℕ) → a among w → k a ≡ unused → ⊥
    at mathlib.Core.List.[] f a x3 u = elim x3 [ ]
    at (x ∷ w) f a (Memᴰ.head e) u = f 0 (omega arith) (ap k (sym e) ∙ u)
    at (x ∷ w) f a (Memᴰ.tail m) u = at w (λ i l. f (suc i) (omega arith)) a m u

-- a pair by the class of the second row's symbol
module _ {k : ℕ → Class} {A : Table} {r s : Row} where
  pub pair-closes : {b : Bool} {o : Option ℕ} → A.class s.symbol ≡ return → r.marker ≡ s.marker
      → o ≡ level k r.word 0 → b ≡ is_zero (and_then o (level k s.word))
      → Exact (PairNests k A r s) b
  pair-closes c m is e =
      let f = nested-exact k (r.word ++ s.word) in
      rw (e, is, ← level-append k r.word s.word 0)
      (exact-as (λ n. record { nested = λ c m. n }, λ p. p.nested c m) f)

-- a row by the class of its symbol
module _ {k : ℕ → Class} {A : Table} {r : Row} where
  pub row-inner : {b : Bool} → A.class r.symbol ≡ internal → b ≡ nested k r.word → Exact (RowNests k A r) b
  row-inner p e =
      rw e
      (exact-as (
        λ n. record { inner = λ q. n; pairs = λ q. absurd (false≢true ((is-exact internal call).0 (sym p ∙ q))) },
        λ n. n.inner p,
      )
      (nested-exact k r.word))
