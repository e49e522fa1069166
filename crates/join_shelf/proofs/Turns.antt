-- Where the place of a word is: the words before it stand below, and the one there does not. Assumes nothing.
use mathlib.Core.Path.{◌≡◌, sym, ◌∙◌, ap}
use mathlib.Core.Logic.{◌⊎◌, inl, inr}
use mathlib.Core.List.Memᴰ
use mathlib.Core.List.{List}
use Prim.Native.Nat.{ℕ, ◌+◌, ◌-◌, ◌<◌, ◌≤◌}
use native.Mathlib.Nat.{eq-or-lt_of_le}
use native.Mathlib.Omega.{arith}
use Rattle.words.specs.Lists.{up_to}
use Rattle.words.specs.Words.{Word}
use Rattle.std.specs.declared.cmp.Ordering.{Ordering}
use Rattle.std.specs.declared.cmp.Ordering.TheVariants.{Less as Less', Equal, Greater}
use Rattle.words.specs.Order.{Less, side, rank}
use Rattle.words.specs.Calls.{side_of}
use Rattle.words.proofs.Lists.{up_to-out, below_or}
use Rattle.words.proofs.Ordered.{less-self, less-trans, side-lower, side_same, side-upper, rises-out}
use Rattle.join_shelf.specs.Shelved.{word_at, words_of, Standing, WordPlace}
use Rattle.join_shelf.proofs.Lists.{rank-at}

module _ {room : List ℕ} {count : ℕ} (s : Standing room count) where
  abbrev at : ℕ → Word
  at i = word_at room i

  pub words-rise : (i j : ℕ) → i < j → j < count → Less (at i) (at j)
  words-rise = rises-out (λ (v : Word). v) at count s.rise

  -- as words rise, the edge of those below a word is its place
  module _ (w : Word) (r : ℕ) (within : r ≤ count) (last : (i : ℕ) → i + 1 ≡ r → Less (at i) w)
      (first : r < count → Less (at r) w → ⊥) where
    before-edge : (i : ℕ) → i < r → Less (at i) w
    before-edge i l = go (eq-or-lt_of_le (omega arith))
      where
        m : ℕ
        m = r - 1

        go : (i ≡ m) ⊎ (i < m) → Less (at i) w
        go (inl e) = last i (omega arith)
        go (inr h) = less-trans (at i) (at m) w (words-rise i m h (omega arith)) (last m (omega arith))

    behind-edge : (i : ℕ) → r ≤ i → i < count → Less (at i) w → ⊥
    behind-edge i h l less = go (eq-or-lt_of_le h)
      where
        go : (r ≡ i) ⊎ (r < i) → ⊥
        go (inl e) = first (omega arith) (rw e less)
        go (inr k) = first (omega arith) (less-trans (at r) (at i) w (words-rise r i k l) less)

    pub edge-place : WordPlace room count w r
    edge-place =
        record {
          within = within;
          before = before-edge;
          onward = behind-edge;
          ranked = λ m. let i = Memᴰ.of_map at (up_to count) m in is i.0 (up_to-out count i.0 i.1) i.2;
        }
      where
        here : (i : ℕ) → i < count → at i ≡ w → (i < r) ⊎ (r ≤ i) → (r < i) ⊎ (i ≤ r) → r ≡ i
        here i l e (inl h) o = absurd (less-self w (rw e at (before-edge i h)))
        here i l e (inr h) (inl k) = absurd (behind-edge r (omega arith) (omega arith) (rw e at (words-rise r i k l)))
        here i l e (inr h) (inr k) = omega arith

        is : (i : ℕ) → i < count → at i ≡ w → r ≡ rank (λ (v : Word). v) (words_of room count) w
        is i l e =
            let d = here i l e (below_or i r) (below_or r i) in
            sym
            (rank-at w at count r (omega arith) (sym (ap at d ∙ e)) (λ j h f.
            less-self w (rw (← f) at (before-edge j h))))

  -- and where it stands, that is its place
  pub found-place : (w : Word) (r : ℕ) → r < count → w ≡ at r → WordPlace room count w r
  found-place w r l e =
      edge-place w r (omega arith) (λ i h. rw e (words-rise i r (omega arith) l)) (λ k less. less-self w (rw (← e) at less))

-- where a word stands to another, by the answer of a comparison
pub told-behind : (w u v : Word) (r : Ordering) → v ≡ u → side_of r ≡ side w v → Greater ≡ r → Less u w
told-behind w u v r f e g = rw f at (side-upper w v (sym e ∙ ap side_of (sym g)))

pub told-here : (w u v : Word) (r : Ordering) → v ≡ u → side_of r ≡ side w v → Equal ≡ r → w ≡ u
told-here w u v r f e g = side_same w v (sym e ∙ ap side_of (sym g)) ∙ f

pub told-before : (w u v : Word) (r : Ordering) → v ≡ u → side_of r ≡ side w v → Less' ≡ r → Less w u
told-before w u v r f e g = rw f at (side-lower w v (sym e ∙ ap side_of (sym g)))
