-- The numbers of links rise as links do. Assumes nothing.
use mathlib.Core.Path.{◌≡◌, sym, ap}
use mathlib.Core.Logic.{◌⊎◌, ◌↔◌, inl, inr}
use mathlib.Core.List.{List, [], ◌∷◌}
use Prim.Native.Nat.{ℕ, ◌+◌, ◌*◌, ◌<◌}
use native.Mathlib.Nat.{eq-zero-or-pos}
use native.Mathlib.Omega.{arith}
use Rattle.words.specs.Words.{Bytes}
use Rattle.words.specs.Order.{Less}
use Rattle.words.proofs.Lists.{get_or-byte}
use Rattle.words.proofs.Ordered.{first_below}
use Rattle.words.specs.LittleEndian.{byte}
use Rattle.meaning.specs.Trails.{pair_key, link_key}
use Rattle.session_meaning.specs.Bytes.{link_start, below_at, link_at, NoneBelow}
use Rattle.session_meaning.specs.Numbers.{key_at}
use Rattle.session_meaning.proofs.Feet.{some_below, none_below}

two-less : {p q r s : ℕ} → q < 256 → Less (p ∷ q ∷ []) (r ∷ s ∷ []) → p * 256 + q < r * 256 + s
two-less l (inl h) = omega arith
two-less l (inr (e, inl h)) = omega arith
two-less l (inr (e, inr (f, h))) = absurd h

module _ (bytes : List ℕ) (small : Bytes bytes) where
  -- the key of the pair below, where there is one
  pair-some : (i : ℕ) → 0 < (link_at bytes i).level
      → (below_at bytes i).state ∷ (below_at bytes i).marker ∷ [] ≡ pair_key (link_at bytes i).below
  pair-some i p = sym (ap pair_key (some_below bytes i (λ e. omega arith)))

  pair-none : (i : ℕ) → (link_at bytes i).level ≡ 0 → [] ≡ pair_key (link_at bytes i).below
  pair-none i e = sym (ap pair_key (none_below bytes i e))

  -- below 256 are a link's state and marker, and those below it
  abbrev Four : ℕ → Type 0
  Four i =
      ((link_at bytes i).here.state < 256)
      × ((link_at bytes i).here.marker < 256)
      × ((below_at bytes i).state < 256)
      × ((below_at bytes i).marker < 256)

  four : (i : ℕ) → Four i
  four i = (at 1, at 2, at 3, at 4)
    where
      at : (k : ℕ) → byte bytes (link_start i + k) < 256
      at k = get_or-byte bytes small (link_start i + k)

  module _ (i j : ℕ) (a : NoneBelow bytes (link_start i)) (b : NoneBelow bytes (link_start j)) where
    abbrev Same : Type 0
    Same =
        ((link_at bytes i).level ≡ (link_at bytes j).level)
        × ((link_at bytes i).here.state ≡ (link_at bytes j).here.state)
        × ((link_at bytes i).here.marker ≡ (link_at bytes j).here.marker)

    -- where level and pair are the same, the pairs below decide
    below-rises : Same
        → (key_at bytes i < key_at bytes j) ↔ Less (pair_key (link_at bytes i).below) (pair_key (link_at bytes j).below)
    below-rises e = go (eq-zero-or-pos (link_at bytes i).level)
      where
        go : ((link_at bytes i).level ≡ 0) ⊎ (0 < (link_at bytes i).level)
            → (key_at bytes i < key_at bytes j) ↔ Less (pair_key (link_at bytes i).below) (pair_key (link_at bytes j).below)
        go (inl z) =
            let x = a z in
            let y = b (omega (arith, e.0)) in
            rw (← pair-none i z, ← pair-none j (omega (arith, e.0)))
            (λ h. absurd (omega (arith, e.0, e.1, e.2, x.0, x.1, y.0, y.1)), λ h. absurd h)
        go (inr p) =
            let x = four i in
            let y = four j in
            rw (← pair-some i p, ← pair-some j (omega (arith, e.0))) (
              λ h.
                  first_below (below_at bytes i).state (below_at bytes j).state (omega arith)
                  (λ (f : (below_at bytes i).state ≡ (below_at bytes j).state).
                  first_below (below_at bytes i).marker (below_at bytes j).marker (omega arith)
                  (λ (g : (below_at bytes i).marker ≡ (below_at bytes j).marker). absurd (omega arith))),
              λ h. omega (arith, e.0, e.1, e.2, two-less x.3 h),
            )

    pub key-rises : (key_at bytes i < key_at bytes j) ↔ Less (link_key (link_at bytes i)) (link_key (link_at bytes j))
    key-rises = (to, fro)
      where
        to : key_at bytes i < key_at bytes j → Less (link_key (link_at bytes i)) (link_key (link_at bytes j))
        to h =
            let x = four i in
            let y = four j in
            first_below (link_at bytes i).level (link_at bytes j).level (omega arith)
            (λ (e : (link_at bytes i).level ≡ (link_at bytes j).level).
            first_below (link_at bytes i).here.state (link_at bytes j).here.state (omega arith)
            (λ (f : (link_at bytes i).here.state ≡ (link_at bytes j).here.state).
            first_below (link_at bytes i).here.marker (link_at bytes j).here.marker (omega arith)
            (λ (g : (link_at bytes i).here.marker ≡ (link_at bytes j).here.marker). (below-rises (e, f, g)).0 h)))

        fro : Less (link_key (link_at bytes i)) (link_key (link_at bytes j)) → key_at bytes i < key_at bytes j
        fro (inl h) = omega (arith, four i)
        fro (inr (e, inl h)) = omega (arith, four i)
        fro (inr (e, inr (f, inl h))) = omega (arith, four i)
        fro (inr (e, inr (f, inr (g, h)))) = (below-rises (e, f, g)).1 h
