-- The joined stack turns as the first's does, and the second's cut at the first's markers. Assumes nothing.
use mathlib.Core.Path.{◌≡◌, refl, sym}
use mathlib.Core.Bool.{true}
use mathlib.Core.List.Memᴰ
use mathlib.Core.List.{List, [], ◌∷◌, ◌++◌, map, nil≢cons}
use mathlib.Core.List.{head-eq_of_cons-eq, tail-eq_of_cons-eq}
use Prim.Native.Nat.{ℕ}
use Rattle.words.specs.Lists.{◌among◌, each}
use Rattle.words.proofs.Lists.{empty-out}
use Rattle.meaning.specs.Table.{Class, unused, call, return, internal}
use Rattle.meaning.specs.Runs.{Shifts}
use Rattle.meaning.specs.Joining.{Mark, mark, mark_number, starts_of, leaves, marker_of}
use Rattle.meaning.proofs.Joined.{number-one, starts-in, starts-out}

-- the three stacks of a list of marks: the first's, the second's and the joined one
abbrev pub markers : List Mark → List ℕ
markers X = map (λ y. y.marker) X

abbrev pub lefts : List Mark → List ℕ
lefts X = each (λ y. y.left) X

abbrev pub numbers : List Mark → List Mark → List ℕ
numbers L X = map (mark_number L) X

abbrev pub Within : List Mark → List Mark → Type 0
Within L X = (y : Mark) → y among X → y among L

module _ (L : List Mark) where
  -- 000, section 6.2: a row of class `k` with the marker `m`, its word read from `s` to `t` with `u` under them,
  -- takes the stacks of `X` to those of `Y`
  pub record Turn (k : Class) (m : ℕ) (s t u : List ℕ) (X Y : List Mark) : Type 0 where
    pub joined : Shifts k (marker_of L k m s t) (numbers L X) (numbers L Y)
    pub first : Shifts k m (markers X) (markers Y)
    pub starts : s ++ u ≡ lefts X
    pub ends : t ++ u ≡ lefts Y
    pub within : Within L Y

  call-turn : (m : ℕ) (t : List ℕ) (X : List Mark) → Within L X → mark m t among L
      → Turn call m [] t (lefts X) X (mark m t ∷ X)
  call-turn m t X w i = record { joined = refl; first = refl; starts = refl; ends = refl; within = go }
    where
      go : Within L (mark m t ∷ X)
      go y (Memᴰ.head e) = rw e i
      go y (Memᴰ.tail n) = w y n

  return-turn : (y : Mark) (Y : List Mark) → Within L (y ∷ Y) → Turn return y.marker y.left [] (lefts Y) (y ∷ Y) Y
  return-turn y Y w =
      record { joined = refl; first = refl; starts = refl; ends = refl; within = λ z n. w z (Memᴰ.tail n) }

  internal-turn : (m : ℕ) (X : List Mark) → Within L X → Turn internal m [] [] (lefts X) X X
  internal-turn m X w = record { joined = refl; first = refl; starts = refl; ends = refl; within = w }

  -- what turns the joined stack turns all three
  pub joined-turns : (k : Class) (m : ℕ) (s t : List ℕ) (X : List Mark) (js : List ℕ) → Within L X
      → s among starts_of L k m → leaves k t ≡ true → (k ≡ call → mark m t among L)
      → Shifts k (marker_of L k m s t) (numbers L X) js
      → (u : List ℕ) × (Y : List Mark) × (js ≡ numbers L Y) × Turn k m s t u X Y
  joined-turns unused m s t X js w i l p e = absurd e
  joined-turns call m s t X js w i l p e =
      (lefts X, mark m t ∷ X, e, rw (Memᴰ.eq_of_singleton i) (call-turn m t X w (p refl)))
  joined-turns return m s t [] js w i l p e = absurd (nil≢cons e)
  joined-turns return m s t (y ∷ Y) js w i l p e =
      let f = number-one L y (mark m s) (w y (Memᴰ.head refl)) (starts-out L m s i) (head-eq_of_cons-eq e) in
      (lefts Y, Y, sym (tail-eq_of_cons-eq e), rw (f, empty-out t l) (return-turn (mark m s) Y (rw f at w)))
  joined-turns internal m s t X js w i l p e =
      (lefts X, X, e, rw (Memᴰ.eq_of_singleton i, empty-out t l) (internal-turn m X w))

  -- and so does what turns the first's, wherever the reading may end
  pub first-turns : (k : Class) (m : ℕ) (X : List Mark) (fs : List ℕ) → Within L X → Shifts k m (markers X) fs
      → (s : List ℕ) × (u : List ℕ) × (s among starts_of L k m) × (s ++ u ≡ lefts X)
      × ((t : List ℕ) → leaves k t ≡ true → (k ≡ call → mark m t among L)
      → (Y : List Mark) × (fs ≡ markers Y) × Turn k m s t u X Y)
  first-turns unused m X fs w e = absurd e
  first-turns call m X fs w e =
      ([], lefts X, Memᴰ.head refl, refl, λ t l p. (mark m t ∷ X, e, call-turn m t X w (p refl)))
  first-turns return m [] fs w e = absurd (nil≢cons e)
  first-turns return m (y ∷ Y) fs w e =
      let f : y.marker ≡ m = head-eq_of_cons-eq e in (
        y.left,
        lefts Y,
        starts-in L m y (w y (Memᴰ.head refl)) f,
        refl,
        λ t l p. (Y, sym (tail-eq_of_cons-eq e), rw (← f, empty-out t l) (return-turn y Y w)),
      )
  first-turns internal m X fs w e =
      ([], lefts X, Memᴰ.head refl, refl, λ t l p. (X, e, rw (empty-out t l) (internal-turn m X w)))
