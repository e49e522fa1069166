-- Depth is calls less returns: as high as the stack of every run, one more after a call, one less after a return.
-- Assumes nothing.
use mathlib.Core.Path.{◌≡◌, refl, ap}
use mathlib.Core.Bool.{Bool, true, false, cond, ◌&&◌}
use mathlib.Core.List.{List, [], ◌∷◌, ◌++◌}
use Prim.Native.Nat.{ℕ, suc, ◌+◌}
use native.Mathlib.Omega.{arith}
use lib.Dec.{eqb}
use lib.ListN.{length}
use borrow.Author.Tests.{eqb-false}
use Rattle.words.specs.Words.{Word}
use Rattle.meaning.specs.Table.{Class, unused, call, return, internal, is, Row, Table}
use Rattle.meaning.specs.Runs.{Config, Shifts, Steps, stop, next, Run, tally, depth}
use Rattle.meaning.specs.Answers.{deeper}

-- one symbol more at the front, and at the end
shifts-count : (k : Class) (m : ℕ) (s t : List ℕ) (c r n : ℕ) → Shifts k m s t → length t + c ≡ r + n
    → length s + cond (is k call) (suc c) c ≡ cond (is k return) (suc r) r + n
shifts-count unused m s t c r n e h = absurd e
shifts-count call m s t c r n e h = let l = ap length e in omega arith
shifts-count return m s t c r n e h = let l = ap length e in omega arith
shifts-count internal m s t c r n e h = let l = ap length e in omega arith

steps-count : (T : Table) {c e : Config} {u : Word} {ρ : List Row} → Steps T c u ρ e
    → length c.stack + tally call T u ≡ tally return T u + length e.stack
steps-count T stop = omega arith
steps-count T (next {a} {u} {r} {ρ} {c} {d} {e} v s) =
    shifts-count (T.class a) r.marker c.stack d.stack (tally call T u) (tally return T u) (length e.stack)
    v.takes.shifts (steps-count T s)

count-snoc : (k : Class) (T : Table) (u : Word) (a : ℕ)
    → tally k T (u ++ a ∷ []) ≡ cond (is (T.class a) k) (suc (tally k T u)) (tally k T u)
count-snoc k T [] a = refl
count-snoc k T (b ∷ u) a = go (is (T.class b) k) (is (T.class a) k) (count-snoc k T u a)
  where
    go : (x y : Bool) → tally k T (u ++ a ∷ []) ≡ cond y (suc (tally k T u)) (tally k T u)
        → cond x (suc (tally k T (u ++ a ∷ []))) (tally k T (u ++ a ∷ []))
        ≡ cond y (suc (cond x (suc (tally k T u)) (tally k T u))) (cond x (suc (tally k T u)) (tally k T u))
    go true true h = ap suc h
    go true false h = ap suc h
    go false true h = h
    go false false h = h

-- the stack of a run is as high as its message is deep
pub run-depth : {T : Table} {u : Word} (r : Run T u) → length r.end.stack ≡ depth T u
run-depth {T} r = let h = steps-count T r.steps in omega arith

deeper-count : (k : Class) (c r d : ℕ) → c ≡ r + d → (is k return && eqb d 0) ≡ false
    → cond (is k call) (suc c) c ≡ cond (is k return) (suc r) r + deeper k d
deeper-count unused c r d h e = h
deeper-count call c r d h e = omega arith
deeper-count return c r d h e = let n = eqb-false d 0 e in omega arith
deeper-count internal c r d h e = h

-- one symbol more
pub count_next : (T : Table) (u : Word) (a d : ℕ) → tally call T u ≡ tally return T u + d
    → (is (T.class a) return && eqb d 0) ≡ false
    → tally call T (u ++ a ∷ []) ≡ tally return T (u ++ a ∷ []) + deeper (T.class a) d
count_next T u a d h e =
    rw (count-snoc call T u a, count-snoc return T u a)
    (deeper-count (T.class a) (tally call T u) (tally return T u) d h e)
