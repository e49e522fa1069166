-- Feet and seats compare as links do: which link stands on which, and which are at level 0. Assumes nothing.
use mathlib.Core.Path.{◌≡◌, sym, ◌∙◌, ap}
use mathlib.Core.Logic.{◌↔◌}
use mathlib.Core.Option.{some, none, some-injective}
use mathlib.Core.List.{List}
use Prim.Native.Nat.{ℕ, suc, ◌+◌}
use native.Mathlib.Omega.{arith}
use lib.Dec.{eqb}
use borrow.Author.Tests.{eq-eqb, ne_eqb}
use Rattle.words.specs.Words.{Bytes}
use Rattle.words.proofs.Lists.{get_or-byte}
use Rattle.words.proofs.Exact.{exact-as, exact_same, eqb-exact}
use Rattle.meaning.specs.Trails.{Pair, ground, Link, on, link_of}
use Rattle.session_meaning.specs.Sessions.{on_bottom, stands_on}
use Rattle.session_meaning.specs.Bytes.{link_start, pair, below_at, link_at, NoneBelow}
use Rattle.session_meaning.specs.Numbers.{seat_at, foot_at}
use Rattle.session_meaning.proofs.Tests.{bottom-exact, stands-exact}

abbrev Stands : List ℕ → ℕ → ℕ → Type 0
Stands bytes i j =
    let l = link_at bytes j in
    l ≡ on l.here.state l.here.marker (link_at bytes i)

abbrev Lowest : List ℕ → ℕ → Type 0
Lowest bytes j = link_at bytes j ≡ link_of (ground (link_at bytes j).here.state)

module _ (bytes : List ℕ) where
  pub some_below : (j : ℕ) → ((link_at bytes j).level ≡ 0 → ⊥) → (link_at bytes j).below ≡ some (below_at bytes j)
  some_below j f = rw (ne_eqb (link_at bytes j).level 0 f)

  pub none_below : (j : ℕ) → (link_at bytes j).level ≡ 0 → (link_at bytes j).below ≡ none
  none_below j e = rw (eq-eqb (link_at bytes j).level 0 e)

  module _ (j : ℕ) (plain : (link_at bytes j).level ≡ 0 → (link_at bytes j).here.marker ≡ 0)
      (below : NoneBelow bytes (link_start j)) where
    pub foot-bottom : (foot_at bytes j ≡ 0) ↔ Lowest bytes j
    foot-bottom = (to, fro)
      where
        to : foot_at bytes j ≡ 0 → Lowest bytes j
        to h =
            let e : (link_at bytes j).level ≡ 0 = omega arith in
            let m : (link_at bytes j).here.marker ≡ 0 = plain e in
            let b = none_below j e in
            λ k. record { level = e k; here = pair (link_at bytes j).here.state (m k); below = b k }

        fro : Lowest bytes j → foot_at bytes j ≡ 0
        fro h =
            let e : (link_at bytes j).level ≡ 0 = ap (λ (l : Link). l.level) h in
            let b = below e in
            omega (arith, b.0, b.1)

    pub bottom-foot : on_bottom (link_at bytes j) ≡ eqb (foot_at bytes j) 0
    bottom-foot =
        exact_same (bottom-exact (link_at bytes j)) (exact-as foot-bottom (eqb-exact (foot_at bytes j) 0))

  module _ (small : Bytes bytes) where
    pub foot-stands : (i j : ℕ) → (foot_at bytes j ≡ seat_at bytes i) ↔ Stands bytes i j
    foot-stands i j = (to, fro)
      where
        to : foot_at bytes j ≡ seat_at bytes i → Stands bytes i j
        to h =
            let e : (link_at bytes j).level ≡ suc (link_at bytes i).level = digits.0 in
            let p : below_at bytes j ≡ (link_at bytes i).here = λ k. pair (digits.1 k) (digits.2 k) in
            let b = some_below j (omega arith) ∙ ap some p in
            λ k. record { level = e k; here = (link_at bytes j).here; below = b k }
          where
            digits : ((link_at bytes j).level ≡ suc (link_at bytes i).level)
                × ((below_at bytes j).state ≡ (link_at bytes i).here.state)
                × ((below_at bytes j).marker ≡ (link_at bytes i).here.marker)
            digits =
                let s = get_or-byte bytes small (link_start i + 1) in
                let m = get_or-byte bytes small (link_start i + 2) in
                let u = get_or-byte bytes small (link_start j + 3) in
                let w = get_or-byte bytes small (link_start j + 4) in
                (omega arith, omega arith, omega arith)

        fro : Stands bytes i j → foot_at bytes j ≡ seat_at bytes i
        fro h =
            let e : (link_at bytes j).level ≡ suc (link_at bytes i).level = ap (λ (l : Link). l.level) h in
            let b : (link_at bytes j).below ≡ some (link_at bytes i).here = ap (λ (l : Link). l.below) h in
            let p = some-injective _ _ (sym (some_below j (omega arith)) ∙ b) in
            let s : (below_at bytes j).state ≡ (link_at bytes i).here.state = ap (λ (p : Pair). p.state) p in
            let m : (below_at bytes j).marker ≡ (link_at bytes i).here.marker = ap (λ (p : Pair). p.marker) p in
            omega arith

    pub stands-foot : (i j : ℕ) → stands_on (link_at bytes i) (link_at bytes j) ≡ eqb (foot_at bytes j) (seat_at bytes i)
    stands-foot i j =
        exact_same (stands-exact (link_at bytes i) (link_at bytes j))
        (exact-as (foot-stands i j) (eqb-exact (foot_at bytes j) (seat_at bytes i)))
