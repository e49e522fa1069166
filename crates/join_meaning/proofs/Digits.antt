-- Numbers by their bytes, lowest first, and sets of states as numbers. Assumes nothing.
use mathlib.Core.Path.{◌≡◌, refl, ap}
use mathlib.Core.Logic.{◌⊎◌, inl, inr}
use mathlib.Core.List.Memᴰ
use mathlib.Core.List.{List, [], ◌∷◌}
use Prim.Native.Nat.{ℕ, zero, suc, ◌+◌, ◌*◌, ◌/◌, ◌%◌, ◌^◌, ◌<◌, ◌≤◌}
use native.Mathlib.Nat.{pow-suc, mul-add, mul_assoc, eq-zero-or-pos}
use native.Mathlib.Omega.{arith}
use Rattle.words.specs.Lists.{◌among◌}
use Rattle.words.specs.Words.{Bytes}
use Rattle.words.specs.Order.{Rises}
use Rattle.words.proofs.Ordered.{first-less}
use Rattle.words.proofs.Lists.{below_or}
use Rattle.meaning.specs.Table.{GoodSet}
use Rattle.sets.specs.Sets.{members_from, members}
use Rattle.sets.proofs.Members.{none}
use Rattle.join_meaning.specs.Laid.{little_endian, set_of}

-- the number that bytes are
abbrev value : List ℕ → ℕ
value [] = 0
value (x ∷ l) = x + 256 * value l

pub little-value : (k n : ℕ) → n < 256 ^ k → value (little_endian k n) ≡ n
little-value zero n h = omega arith
little-value (suc k) n h =
    let g : n < 256 ^ k * 256 = rw pow-suc at h in
    omega (arith, little-value k (n / 256) (omega arith))

pub little-bytes : (k n : ℕ) → Bytes (little_endian k n)
little-bytes zero n b m = elim m [ ]
little-bytes (suc k) n b (Memᴰ.head e) = rw e (omega arith)
little-bytes (suc k) n b (Memᴰ.tail m) = little-bytes k (n / 256) b m

-- states from `b` to below `b + k` as the `k` digits of a number, the lowest of which stands for `b`
record Spelled (k b : ℕ) (l : List ℕ) : Type 0 where
  number : ℕ
  is : set_of l ≡ 2 ^ b * number
  small : number < 2 ^ k
  listed : members_from k b number ≡ l

abbrev Rising : List ℕ → Type 0
Rising l = Rises (λ q. q ∷ []) l

odd : {k b : ℕ} {l : List ℕ} → Spelled k (suc b) l → Spelled (suc k) b (b ∷ l)
unfolding members_from
odd {k} {b} {l} s =
    let n = 1 + 2 * s.number in
    let m : n % 2 ≡ 1 = omega arith in
    let d : n / 2 ≡ s.number = omega arith in
    record {
      number = n;
      is = let e : set_of l ≡ 2 ^ b * 2 * s.number = rw pow-suc at s.is in rw (mul-add, ← mul_assoc) (omega arith);
      small = rw pow-suc (omega (arith, s.small));
      listed = rw (m, d) (ap (λ (l : List ℕ). b ∷ l) s.listed);
    }

even : {k b : ℕ} {l : List ℕ} → Spelled k (suc b) l → Spelled (suc k) b l
unfolding members_from
even {k} {b} {l} s =
    let n = 2 * s.number in
    let m : n % 2 ≡ 0 = omega arith in
    let d : n / 2 ≡ s.number = omega arith in
    record {
      number = n;
      is = rw (← mul_assoc) (rw pow-suc at s.is);
      small = rw pow-suc (omega (arith, s.small));
      listed = rw (m, d) s.listed;
    }

from_first : (b q : ℕ) (l : List ℕ) → b ≤ q → Rising (q ∷ l) → (p : ℕ) → p among q ∷ l → b ≤ p
from_first b q l h r p (Memᴰ.head e) = omega arith
from_first b q l h r p (Memᴰ.tail m) = omega (arith, first-less (r.0 p m))

abbrev Between : ℕ → ℕ → List ℕ → Type 0
Between b k l = (q : ℕ) → q among l → (b ≤ q) × (q < b + k)

spelled : (k b : ℕ) (l : List ℕ) → Rising l → Between b k l → Spelled k b l
unfolding members_from
spelled zero b [] r h = record { number = 0; is = omega arith; small = omega arith; listed = refl }
spelled zero b (q ∷ l) r h = let i = h q (Memᴰ.head refl) in absurd (omega arith)
spelled (suc k) b [] r h = even (spelled k (suc b) [] r (λ q m. elim m [ ]))
spelled (suc k) b (q ∷ l) r h = go (below_or b q) (spelled k (suc b))
  where
    go : (b < q) ⊎ (q ≤ b) → ((l : List ℕ) → Rising l → Between (suc b) k l → Spelled k (suc b) l)
        → Spelled (suc k) b (q ∷ l)
    go (inl lt) ih =
        even (ih (q ∷ l) r (λ p m. let i = h p m in (from_first (suc b) q l lt r p m, omega arith)))
    go (inr le) ih =
        let e : q ≡ b = let i = h q (Memᴰ.head refl) in omega arith in
        rw e (odd (ih l r.1 (λ p m.
        let i = h p (Memᴰ.tail m) in (omega (arith, first-less (r.0 p m)), omega arith))))

-- a set of states is listed by the members of its number, which has no digit from the state count on
module _ {n : ℕ} {l : List ℕ} (g : GoodSet n l) where
  spelled-in : (k : ℕ) → n ≤ k → Spelled k 0 l
  spelled-in k le = spelled k 0 l g.rise (λ q m. let h = g.below q m in (omega arith, omega arith))

  number_is : (k : ℕ) (le : n ≤ k) → (spelled-in k le).number ≡ set_of l
  number_is k le = omega (arith, (spelled-in k le).is)

  pub set_below : set_of l < 2 ^ n
  set_below = let le : n ≤ n = omega arith in rw (← number_is n le) (spelled-in n le).small

  module _ (few : n ≤ 64) where
    pub set-members : members (set_of l) ≡ l
    unfolding members
    set-members = rw (← number_is 64 few) (spelled-in 64 few).listed

    pub set-some : {q : ℕ} → q among l → 0 < set_of l
    set-some {q} m = go (eq-zero-or-pos (set_of l))
      where
        go : (set_of l ≡ 0) ⊎ (0 < set_of l) → 0 < set_of l
        go (inl e) = absurd (Memᴰ.not-nil (rw (← set-members, e, none) at m))
        go (inr h) = h
