-- A byte inserted into a list: where each byte comes from, and that there is one such list. Assumes nothing.
use mathlib.Core.Path.{◌≡◌, refl, sym, ◌∙◌, ap}
use mathlib.Core.Logic.{◌⊎◌, inl, inr}
use mathlib.Core.List.{List}
use Prim.Native.Nat.{ℕ, ◌+◌, ◌-◌, ◌<◌, ◌≤◌}
use native.Mathlib.Omega.{arith}
use lib.ListN.{get_or, take, length-take}
use lib.Seq.{get_or-take, ext_get_or}
use Rattle.words.specs.Calls.{Inserted}
use Rattle.words.proofs.Lists.{below_or}

-- where the byte at a place comes from
pub data Came (l : List ℕ) (count at byte : ℕ) (l' : List ℕ) (j : ℕ) : Type 0 where
  stayed : j < at → get_or l' j 0 ≡ get_or l j 0 → Came l count at byte l' j
  fresh : j ≡ at → get_or l' j 0 ≡ byte → Came l count at byte l' j
  moved : (k : ℕ) → j ≡ k + 1 → at ≤ k → k < count → get_or l' j 0 ≡ get_or l k 0 → Came l count at byte l' j

module _ {l l' : List ℕ} {count at byte : ℕ} (into : Inserted l count at byte l') where
  pub came : (j : ℕ) → j < count + 1 → Came l count at byte l' j
  came j lt = go (below_or j at) (below_or at j)
    where
      go : (j < at) ⊎ (at ≤ j) → (at < j) ⊎ (j ≤ at) → Came l count at byte l' j
      go (inl h) o = stayed h (into.before j h)
      go (inr h) (inr k) =
          let e : j ≡ at = omega arith in
          fresh e (ap (λ (i : ℕ). get_or l' i 0) e ∙ into.here)
      go (inr h) (inl k) =
          let e : j ≡ j - 1 + 1 = omega arith in
          moved (j - 1) e (omega arith) (omega arith)
          (ap (λ (i : ℕ). get_or l' i 0) e ∙ into.after (j - 1) (omega arith) (omega arith))

-- what stands before it is as it was
pub inserted-take : {l l' : List ℕ} {count at byte : ℕ} → Inserted l count at byte l' → (n : ℕ) → n ≤ at
    → take n l' ≡ take n l
inserted-take {l} {l'} into n le =
    ext_get_or 0 (take n l') (take n l) (rw (length-take, length-take, into.whole) refl) (λ i lt.
    let i-below : i < n = omega (arith, length-take n l') in
    get_or-take n l' i 0 i-below ∙ into.before i (omega arith) ∙ sym (get_or-take n l i 0 i-below))

module _ {l p q : List ℕ} {count at byte : ℕ} where
  pub inserted-unique : Inserted l count at byte p → Inserted l count at byte q → p ≡ q
  inserted-unique a b = ext_get_or 0 p q (a.whole ∙ sym b.whole) (λ i lt. go i (below_or i (count + 1)))
    where
      from : (i : ℕ) → Came l count at byte p i → get_or p i 0 ≡ get_or q i 0
      from i (stayed h e) = e ∙ sym (b.before i h)
      from i (fresh h e) = e ∙ sym b.here ∙ ap (λ (j : ℕ). get_or q j 0) (sym h)
      from i (moved k h g m e) = e ∙ sym (b.after k g m) ∙ ap (λ (j : ℕ). get_or q j 0) (sym h)

      go : (i : ℕ) → (i < count + 1) ⊎ (count + 1 ≤ i) → get_or p i 0 ≡ get_or q i 0
      go i (inl h) = from i (came a i h)
      go i (inr h) = a.behind i (omega arith) ∙ sym (b.behind i (omega arith))
