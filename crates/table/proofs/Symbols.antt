-- Rows rise by symbol and then by `from`: they turn at the first of a symbol from a state, and all of them stand side by
-- side. Assumes nothing.
use mathlib.Core.Path.{◌≡◌}
use mathlib.Core.Logic.{◌⊎◌, inl, inr}
use mathlib.Core.List.{List}
use Prim.Native.Nat.{ℕ, zero, suc, ◌+◌, ◌-◌, ◌<◌, ◌≤◌}
use native.Mathlib.Nat.{eq-zero-or-pos}
use native.Mathlib.Numerals.{add-one}
use native.Mathlib.Omega.{arith}
use Rattle.std.specs.Prelude.{Option, Some, None, MatchOption}
use Rattle.std.specs.Option.{unwrap_or}
use Rattle.words.specs.Order.{Less}
use Rattle.meaning.specs.Table.{Row, row_key}
use Rattle.table.specs.File.{row_count, row_at}
use Rattle.table.specs.Good.{Rows}
use Rattle.table.specs.Calls.{RowBefore, FirstRow, RowsFrom}

first-up : {x y : ℕ} {Q : Type 0} → (x < y) ⊎ ((x ≡ y) × Q) → x ≤ y
first-up (inl h) = omega arith
first-up (inr h) = let e = h.0 in omega arith

-- a row stands before all that a higher one stands before
less-before : {x y : Row} {a q : ℕ} → Less (row_key x) (row_key y) → RowBefore y a q → RowBefore x a q
less-before (inl h) b =
    let s = b.symbols in
    record { symbols = omega arith; froms = λ e. absurd (omega arith) }
less-before (inr h) b =
    let s = b.symbols in
    let e = h.0 in
    let u = first-up h.1 in
    record { symbols = omega arith; froms = λ f. let l = b.froms (omega arith) in omega arith }

-- what stands before those of a state stands before those of the next, and so do those of the state
before-next : {x : Row} {a q : ℕ} → RowBefore x a q → RowBefore x a (q + 1)
before-next b = record { symbols = b.symbols; froms = λ e. let h = b.froms e in omega arith }

has-before : {x : Row} {a q : ℕ} → x.symbol ≡ a → x.from ≡ q → RowBefore x a (q + 1)
has-before s t = record { symbols = omega arith; froms = λ e. omega arith }

module _ (file : List ℕ) (rows : Rows file) where
  before-up : {a q : ℕ} (m k : ℕ) → k ≤ m → m < row_count file → RowBefore (row_at file m) a q
      → RowBefore (row_at file k) a q
  before-up zero k h l b = let e : k ≡ 0 = omega arith in rw e b
  before-up {a} {q} (suc m) k h l b = go (eq-zero-or-pos (suc m - k)) (before-up m k)
    where
      next : RowBefore (row_at file m) a q
      next = less-before (rw add-one at (rows.rise m (omega arith)).less) b

      go : (suc m - k ≡ 0) ⊎ (0 < suc m - k)
          → (k ≤ m → m < row_count file → RowBefore (row_at file m) a q → RowBefore (row_at file k) a q)
          → RowBefore (row_at file k) a q
      go (inl e) ih = let f : k ≡ suc m = omega arith in rw f b
      go (inr p) ih = ih (omega arith) (omega arith) next

  -- where the rows turn from those that stand before a symbol from a state to those that don't, there is its first
  pub turns : {a q n : ℕ} → n ≤ row_count file → ((k : ℕ) → k + 1 ≡ n → RowBefore (row_at file k) a q)
      → (n < row_count file → RowBefore (row_at file n) a q → ⊥) → FirstRow file a q n
  turns {a} {q} {n} w last next =
      record {
        within = w;
        before = λ k l. before-up (n - 1) k (omega arith) (omega arith) (last (n - 1) (omega arith));
        onward = λ k l m b. next (omega arith) (before-up k n l m b);
      }

  -- a search up from the first row of a symbol from a state: all passed are of these, and the one it stops at is not
  stops : {a q n r : ℕ} → FirstRow file a q n → n ≤ r → r ≤ row_count file
      → ((k : ℕ) → n ≤ k → k < r → ((row_at file k).symbol ≡ a) × ((row_at file k).from ≡ q))
      → (r < row_count file → (row_at file r).symbol ≡ a → (row_at file r).from ≡ q → ⊥) → FirstRow file a (q + 1) r
  stops {a} {q} {n} {r} f l m passed other =
      turns m (λ k e. last k e (eq-zero-or-pos (n - k)))
      (λ w b.
      f.onward r l w
      (record { symbols = b.symbols; froms = λ e. let d = other w e in let h = b.froms e in omega arith }))
    where
      last : (k : ℕ) → k + 1 ≡ r → (n - k ≡ 0) ⊎ (0 < n - k) → RowBefore (row_at file k) a (q + 1)
      last k e (inl z) = let h = passed k (omega arith) (omega arith) in has-before h.0 h.1
      last k e (inr p) = before-next (f.before k (omega arith))

  -- such a search ends where the rows of the next state would stand, at the end of the rows where it finds none
  pub ends-at : {a q n m : ℕ} (r : Option ℕ) → FirstRow file a q n → m ≡ row_count file
      → MatchOption r
      ((k : ℕ) → n ≤ k → k < m → ((row_at file k).symbol ≡ a) × ((row_at file k).from ≡ q))
      (λ i.
      (n ≤ i) × (i < m) × ((row_at file i).symbol ≡ a → (row_at file i).from ≡ q → ⊥) ×
      ((k : ℕ) → n ≤ k → k < i → ((row_at file k).symbol ≡ a) × ((row_at file k).from ≡ q)))
      → FirstRow file a (q + 1) (unwrap_or r m)
  ends-at None f e h = let w = f.within in stops f (omega arith) (omega arith) h (λ l. absurd (omega arith))
  ends-at (Some i) f e h = stops f h.0 (omega (arith, h.1)) h.3 (λ l. h.2)

-- no row before the first is of the symbol from the state
pub none_before : {file : List ℕ} {a q n : ℕ} → FirstRow file a q n → (k : ℕ) → k < n → (row_at file k).symbol ≡ a
    → (row_at file k).from ≡ q → ⊥
none_before f k l s t = let b = (f.before k l).froms s in omega arith

-- the rows of a symbol from a state are those of their part, and no others
module _ {file : List ℕ} {a q : ℕ} {start end : ℕ} (f : RowsFrom file a q start end) where
  pub rows-ordered : start ≤ end
  rows-ordered =
      let before : end < start → ⊥
      = λ l.
      f.ends.onward end (omega arith) (let w = f.starts.within in omega arith)
      (before-next (f.starts.before end l)) in
      omega arith

  pub rows-have : (k : ℕ) → start ≤ k → k < end → ((row_at file k).symbol ≡ a) × ((row_at file k).from ≡ q)
  rows-have k l h =
      let up = f.ends.before k h in
      let s = up.symbols in
      let down = f.starts.onward k l (let w = f.ends.within in omega arith) in
      let lower : (row_at file k).symbol < a → ⊥
      = λ m. down (record { symbols = s; froms = λ e. absurd (omega arith) }) in
      let is : (row_at file k).symbol ≡ a = omega arith in
      let t = up.froms is in
      let earlier : (row_at file k).from < q → ⊥ = λ m. down (record { symbols = s; froms = λ e. m }) in
      (is, omega arith)

  pub rows_behind : (k : ℕ) → end ≤ k → k < row_count file → (row_at file k).symbol ≡ a → (row_at file k).from ≡ q → ⊥
  rows_behind k l h s t = f.ends.onward k l h (has-before s t)
