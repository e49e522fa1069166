-- Levels: a word read symbol by symbol, and how far a level can rise. Assumes nothing.
use mathlib.Core.Path.{◌≡◌, refl, sym, ◌∙◌}
use mathlib.Core.Option.{some, none-ne-some}
use mathlib.Core.List.{[], ◌∷◌}
use Prim.Native.Nat.{ℕ, zero, suc, ◌+◌, ◌≤◌, ◌<◌}
use native.Mathlib.Numerals.{add-one}
use native.Mathlib.Omega.{arith}
use lib.ListN.{length, drop, get_or, drop_of_length-le}
use lib.Seq.{drop-cons}
use Rattle.words.specs.Words.{Word}
use Rattle.meaning.specs.Table.{Class, unused, call, return, internal}
use Rattle.meaning.specs.Nesting.{after, and_then, level}
use Rattle.meaning.proofs.Nesting.{and_then-some}

-- a symbol opens one header at most, and a word as many as it has bytes
after_small : (c : Class) (d : ℕ) {n : ℕ} → after c d ≡ some n → n ≤ suc d
after_small unused d {n} e = absurd (none-ne-some n e)
after_small call d {n} e = let f : suc d ≡ n = cc in omega arith
after_small return zero {n} e = absurd (none-ne-some n e)
after_small return (suc d) {n} e = let f : d ≡ n = cc in omega arith
after_small internal d {n} e = let f : d ≡ n = cc in omega arith

module _ (k : ℕ → Class) where
  pub level-small : (w : Word) (d : ℕ) {n : ℕ} → level k w d ≡ some n → n ≤ d + length w
  level-small [] d {n} e = let f : d ≡ n = cc in omega arith
  level-small (a ∷ w) d e =
      let x = and_then-some (after (k a) d) (level k w) e in
      omega (arith, after_small (k a) d x.1, level-small w x.0 x.2)

  -- a word is read up to a place, and so many headers are open there
  pub record Read (w : Word) (from i many : ℕ) : Type 0 where
    pub within : i ≤ length w
    pub few : many ≤ from + i
    pub rest : level k w from ≡ level k (drop i w) many

  pub read-start : (w : Word) (from : ℕ) → Read w from 0 from
  read-start w from = record { within = omega arith; few = omega arith; rest = refl }

  module _ {w : Word} {from i many : ℕ} (r : Read w from i many) where
    one_more : i < length w → level k w from ≡ and_then (after (k (get_or w i 0)) many) (level k (drop (i + 1) w))
    one_more lt = r.rest ∙ rw (add-one, drop-cons w i 0)

    pub read_next : {n : ℕ} → i < length w → some n ≡ after (k (get_or w i 0)) many → Read w from (i + 1) n
    read_next lt e =
        let s = after_small (k (get_or w i 0)) many (sym e) in
        let f = r.few in
        record { within = omega arith; few = omega arith; rest = one_more lt ∙ rw (← e) }

    pub read-end : length w ≤ i → some many ≡ level k w from
    read-end le = sym (r.rest ∙ rw (drop_of_length-le w le))
