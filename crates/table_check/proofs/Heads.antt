-- When a row stands above another: by their heads, each one number, and where these are the same by their words.
-- Assumes nothing.
use mathlib.Core.Path.{◌≡◌, sym, ◌∙◌}
use mathlib.Core.Bool.{Bool}
use mathlib.Core.Logic.{◌↔◌, inr}
use Prim.Native.Nat.{ℕ}
use native.Mathlib.Omega.{arith}
use Rattle.std.proofs.Common.{is_lt}
use Rattle.std.specs.declared.cmp.Ordering.{Ordering}
use Rattle.std.specs.declared.cmp.Ordering.TheVariants.{Less as Before, Equal, Greater}
use Rattle.words.specs.Lists.{Exact}
use Rattle.words.specs.Words.{Word}
use Rattle.words.specs.Order.{Less, lower, side}
use Rattle.words.specs.Calls.{side_of}
use Rattle.words.proofs.Exact.{yes-exact, no-exact}
use Rattle.words.proofs.Ordered.{side-lower, less-side, first-same}
use Rattle.words.proofs.Ordered.{same≢lower, upper≢lower}
use Rattle.meaning.specs.Table.{Row, row_key}
use Rattle.table.specs.Calls.{Headed}

module _ {r s : Row} {head next : ℕ} (n : Headed r head) (m : Headed s next) where
  head-same : head ≡ next → Less (row_key r) (row_key s) ↔ Less r.word s.word
  head-same h =
      let a : r.symbol ≡ s.symbol = omega arith in
      let b : r.from ≡ s.from = omega arith in
      let c : r.marker ≡ s.marker = omega arith in
      let d : r.to ≡ s.to = omega arith in (
        λ l.
            first-same r.to s.to d
            (first-same r.marker s.marker c
            (first-same r.from s.from b (first-same r.symbol s.symbol a l))),
        λ l. inr (a, inr (b, inr (c, inr (d, l)))),
      )

  words-stay : head ≡ next → (side r.word s.word ≡ lower → ⊥) → Less (row_key r) (row_key s) → ⊥
  words-stay h f l = f (less-side r.word s.word ((head-same h).0 l))

  -- where the heads are the same, the words decide, and `compare` says how
  pub words-decide : {v w : Word} {b : Bool} (o : Ordering) → head ≡ next → v ≡ r.word → w ≡ s.word
      → side_of o ≡ side v w → b ≡ is_lt o → Exact (Less (row_key r) (row_key s)) b
  words-decide Before h v w e f = rw f (yes-exact ((head-same h).1 (side-lower r.word s.word (sym (rw (v, w) at e)))))
  words-decide Equal h v w e f = rw f (no-exact (words-stay h (λ d. same≢lower ((rw (v, w) at e) ∙ d))))
  words-decide Greater h v w e f = rw f (no-exact (words-stay h (λ d. upper≢lower ((rw (v, w) at e) ∙ d))))
