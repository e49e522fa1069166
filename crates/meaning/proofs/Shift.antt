-- The tests of classes and the stacks that follow a row say exactly what they should. Assumes nothing.
use mathlib.Core.Path.{◌≡◌, refl, sym, ◌∙◌, ap}
use mathlib.Core.Bool.{true}
use mathlib.Core.List.Memᴰ
use mathlib.Core.List.{List, [], ◌∷◌, nil≢cons}
use mathlib.Core.List.{head-eq_of_cons-eq, tail-eq_of_cons-eq}
use Prim.Native.Nat.{ℕ}
use lib.Dec.{eqb}
use borrow.Author.Tests.{eqb-true, eq-eqb}
use Rattle.words.specs.Lists.{◌among◌}
use Rattle.words.proofs.Lists.{only-in, only_out}
use Rattle.meaning.specs.Table.{Class, unused, call, return, internal, code, class_of, is}
use Rattle.meaning.specs.Runs.{Shifts, shifted}

pub class-code : (k : Class) → class_of (code k) ≡ k
class-code unused = refl
class-code call = refl
class-code return = refl
class-code internal = refl

pub is-out : (j k : Class) → is j k ≡ true → j ≡ k
is-out j k e = sym (class-code j) ∙ ap class_of (eqb-true (code j) (code k) e) ∙ class-code k

pub is-in : {j k : Class} → j ≡ k → is j k ≡ true
is-in {j} {k} e = eq-eqb (code j) (code k) (ap code e)

pub shifted-out : (k : Class) (m : ℕ) (s t : List ℕ) → t among shifted k m s → Shifts k m s t
shifted-out unused m s t i = elim i [ ]
shifted-out call m s t i = Memᴰ.eq_of_singleton i
shifted-out return m [] t i = elim i [ ]
shifted-out return m (n ∷ s) t i =
    let x = only_out (eqb n m) i in
    let e = eqb-true n m x.0 in
    let f = x.1 in
    cc
shifted-out internal m s t i = Memᴰ.eq_of_singleton i

pub shifted_in : (k : Class) (m : ℕ) (s t : List ℕ) → Shifts k m s t → t among shifted k m s
shifted_in unused m s t e = absurd e
shifted_in call m s t e = Memᴰ.head e
shifted_in return m [] t e = absurd (nil≢cons e)
shifted_in return m (n ∷ s) t e =
    Memᴰ.cast (sym (tail-eq_of_cons-eq e)) (only-in (eq-eqb n m (head-eq_of_cons-eq e)))
shifted_in internal m s t e = Memᴰ.head e
