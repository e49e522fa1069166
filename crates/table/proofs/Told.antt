-- What is judged of a file is one thing only, and so is what `class_of`, `first_row` and
-- `rows_from` tell. Assumes nothing.
use mathlib.Core.Path.{◌≡◌, refl, sym, ◌∙◌}
use mathlib.Core.Bool.{Bool, true, false}
use mathlib.Core.List.{List}
use Prim.Native.Nat.{ℕ, ◌+◌, ◌<◌}
use native.Mathlib.Omega.{arith}
use lib.Dec.{eqb}
use borrow.Author.Tests.{eqb-true, eqb-false}
use mathlib.Mathlib.Logic.Function.Defs.{LeftInverse-Injective}
use Rattle.std.specs.Prelude.{Result, Ok, Err, ⊤}
use Rattle.numbers.specs.declared.Refusal.{Refusal}
use Rattle.numbers.proofs.Told.{number_same, refusal-some}
use Rattle.meaning.specs.Table.{Class as Kind, unused, call, return, internal}
use Rattle.table.specs.Good.{first_edition, GoodFile}
use Rattle.table.specs.Calls.{Judged, Checked, meant, FirstRow, RowsFrom}
use Rattle.table.specs.declared.read.Class.{Class}
use Rattle.table.specs.declared.read.Class.TheVariants.{Unused, Call, Return, Internal}

-- a good file has number 0,
pub judged-good : {file : List ℕ} → GoodFile first_edition file → Judged file 0
judged-good g = record { good = (λ e. g, λ h. refl); bad = (λ e. absurd (omega arith), λ f. absurd (f g)) }

-- and is not where its number is not 0
pub judged-faulty : {file : List ℕ} {n : ℕ} → Judged file n → (n ≡ 0 → ⊥) → GoodFile first_edition file → ⊥
judged-faulty j f g = f (j.good.1 g)

-- two numbers that meet the promise of `check` on one file are the same; so are two answers
pub judged-unique : {file : List ℕ} {m n : ℕ} → Judged file m → Judged file n → m ≡ n
judged-unique {file} {m} {n} a b = go (eqb m 0) refl
  where
    go : (t : Bool) → eqb m 0 ≡ t → m ≡ n
    go true e = let z = eqb-true m 0 e in z ∙ sym (b.good.1 (a.good.0 z))
    go false e =
        let bad : GoodFile first_edition file → ⊥ = λ g. eqb-false m 0 e (a.good.1 g) in
        a.bad.1 bad ∙ sym (b.bad.1 bad)

pub checked-unique : (file : List ℕ) (r q : Result ⊤ Refusal) → Checked file r → Checked file q → r ≡ q
checked-unique file (Ok x) (Ok y) c d = refl
checked-unique file (Ok x) (Err q) c d = absurd (refusal-some q (sym (judged-unique c d)))
checked-unique file (Err r) (Ok y) c d = absurd (refusal-some r (judged-unique c d))
checked-unique file (Err r) (Err q) c d = λ i. Err (number_same r q (judged-unique c d) i)

-- so are two answers of `class_of`,
pub meant-unique : (r q : Class) → meant r ≡ meant q → r ≡ q
meant-unique r q e = LeftInverse-Injective back meant back_is r q e
  where
    back : Kind → Class
    back unused = Unused
    back call = Call
    back return = Return
    back internal = Internal

    back_is : (r : Class) → back (meant r) ≡ r
    back_is Unused = refl
    back_is Call = refl
    back_is Return = refl
    back_is Internal = refl

-- two of `first_row`,
pub first-row-unique : (file : List ℕ) (symbol from r q : ℕ) → FirstRow file symbol from r
    → FirstRow file symbol from q → r ≡ q
first-row-unique file symbol from r q f g =
    let a = apart f g in
    let b = apart g f in
    omega arith
  where
    apart : {r q : ℕ} → FirstRow file symbol from r → FirstRow file symbol from q → r < q → ⊥
    apart {r} f g l = f.onward r (omega arith) (let w = g.within in omega arith) (g.before r l)

-- and two of `rows_from`
pub rows-from-unique : (file : List ℕ) (symbol from : ℕ) {start start' end end' : ℕ}
    → RowsFrom file symbol from start end → RowsFrom file symbol from start' end' → (start ≡ start') × (end ≡ end')
rows-from-unique file symbol from f g = (
  first-row-unique file symbol from _ _ f.starts g.starts,
  first-row-unique file symbol (from + 1) _ _ f.ends g.ends,
)
