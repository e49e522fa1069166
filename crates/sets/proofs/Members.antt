-- Laws of the members of a set: how many, which and in which order, the first and the others. Assumes nothing.
use mathlib.Core.Path.{◌≡◌, refl, sym, ap, ◌∙◌}
use mathlib.Core.Bool.{true, false}
use mathlib.Core.Logic.{◌⊎◌, inl, inr, ⊎_elim, ◌↔◌}
use mathlib.Core.List.Memᴰ
use mathlib.Core.List.{List, [], ◌∷◌, head-eq_of_cons-eq, tail-eq_of_cons-eq}
use Prim.Native.Nat.{ℕ, zero, suc, ◌+◌, ◌-◌, ◌*◌, ◌/◌, ◌%◌, ◌^◌, ◌≤◌, ◌<◌}
use native.Mathlib.Omega.{arith}
use native.Mathlib.Numerals.{add-one}
use native.Mathlib.Nat.{pow-suc, pow-succ', add-zero, zero-add, add-suc, suc-add, eq-zero-or-pos, div-div-eq-div-mul}
use native.Mathlib.Nat.{div-eq_of_lt, div-one, mul-add, mul_assoc, lt_of_lt_of_le}
use lib.Arith.{lt-one}
use lib.Pow.{pow_mono}
use lib.ListN.{length, drop, get_or, length-drop}
use lib.Seq.{drop-cons}
use lib.Count.{ones, ones_step, count_trailing_zeros, trailing_of_zero}
use lib.Bits.{bit_and, and_step, and_self}
use borrow.Author.Tests.{eqb-true, eq-eqb}
use Rattle.words.specs.Lists.{◌among◌}
use Rattle.words.specs.Order.{Rises}
use Rattle.sets.specs.Sets.{is_in, front, members_from, members}

half : (k n : ℕ) → n < 2 ^ suc k → n / 2 < 2 ^ k
half k n h = let g : n < 2 ^ k * 2 = rw pow-suc at h in omega arith

-- how many

front_length : (d b : ℕ) (l : List ℕ) → d < 2 → length (front d b l) ≡ d + length l
front_length zero b l h = omega arith
front_length (suc zero) b l h = omega arith
front_length (suc (suc d)) b l h = omega arith

count-from : (k b n : ℕ) → n < 2 ^ k → ones n ≡ length (members_from k b n)
unfolding members_from ones
count-from zero b n h = ap ones (lt-one h)
count-from (suc k) b n h =
    ones_step n ∙ ap (λ (x : ℕ). n % 2 + x) (count-from k (suc b) (n / 2) (half k n h))
    ∙ sym (front_length (n % 2) b _ (omega arith))

pub count : (n : ℕ) → n < 2 ^ 64 → ones n ≡ length (members n)
unfolding members
count n h = count-from 64 0 n h

le_from : (k b n : ℕ) → length (members_from k b n) ≤ k
unfolding members_from
le_from zero b n = omega arith
le_from (suc k) b n =
    omega (arith, le_from k (suc b) (n / 2), front_length (n % 2) b (members_from k (suc b) (n / 2)) (omega arith))

pub members-le : (n : ℕ) → length (members n) ≤ 64
unfolding members
members-le n = le_from 64 0 n

none_from : (k b : ℕ) → members_from k b 0 ≡ []
unfolding members_from
none_from zero b = refl
none_from (suc k) b = none_from k (suc b)

pub none : members 0 ≡ []
unfolding members
none = none_from 64 0

-- which, in which order

front-head : (d b : ℕ) (l : List ℕ) → d ≡ 1 → b among front d b l
front-head d b l e = rw e (Memᴰ.head refl)

front-tail : (d b : ℕ) {q : ℕ} {l : List ℕ} → q among l → q among front d b l
front-tail zero b m = m
front-tail (suc d) b m = Memᴰ.tail m

front_out : (d b : ℕ) {q : ℕ} {l : List ℕ} → d < 2 → q among front d b l → ((d ≡ 1) × (q ≡ b)) ⊎ (q among l)
front_out zero b h m = inr m
front_out (suc d) b h (Memᴰ.head e) = inl (omega arith, e)
front_out (suc d) b h (Memᴰ.tail m) = inr m

from-least : (k b n q : ℕ) → q among members_from k b n → b ≤ q
unfolding members_from
from-least zero b n q m = elim m [ ]
from-least (suc k) b n q m =
    ⊎_elim (λ e. omega arith) (λ t. omega (arith, from-least k (suc b) (n / 2) q t))
    (front_out (n % 2) b (omega arith) m)

rise-from : (k b n : ℕ) → Rises (λ (q : ℕ). q ∷ []) (members_from k b n)
unfolding members_from
rise-from zero b n = tt
rise-from (suc k) b n = go (n % 2) (rise-from k (suc b) (n / 2))
  where
    go : (d : ℕ) → Rises (λ (q : ℕ). q ∷ []) (members_from k (suc b) (n / 2))
        → Rises (λ (q : ℕ). q ∷ []) (front d b (members_from k (suc b) (n / 2)))
    go zero r = r
    go (suc d) r = (λ q m. inl (from-least k (suc b) (n / 2) q m), r)

pub members-rise : (n : ℕ) → Rises (λ (q : ℕ). q ∷ []) (members n)
unfolding members
members-rise n = rise-from 64 0 n

none_in : (k b n q : ℕ) → n < 1 → q among members_from k b n → ⊥
none_in k b n q h m = Memᴰ.not-nil (rw (lt-one h, none_from) at m)

below-from : (j k b n q : ℕ) → n < 2 ^ k → q among members_from j b n → q < b + k
unfolding members_from
below-from zero k b n q h m = elim m [ ]
below-from (suc j) zero b n q h m = absurd (none_in (suc j) b n q h m)
below-from (suc j) (suc k) b n q h m =
    ⊎_elim (λ e. omega arith) (λ t. omega (arith, below-from j k (suc b) (n / 2) q (half k n h) t))
    (front_out (n % 2) b (omega arith) m)

pub members-below : (k n : ℕ) → n < 2 ^ k → (q : ℕ) → q among members n → q < k
unfolding members
members-below k n h q m = rw zero-add at (below-from 64 k 0 n q h m)

-- digit `i + 1` of a number is digit `i` of its half
digit : (n i : ℕ) → n / 2 ^ suc i ≡ n / 2 / 2 ^ i
digit n i = rw (pow-succ' 2 i) (sym (div-div-eq-div-mul n 2 (2 ^ i)))

in-from : (k b n i : ℕ) → i < k → n / 2 ^ i % 2 ≡ 1 → (b + i) among members_from k b n
unfolding members_from
in-from zero b n i h e = absurd (omega arith)
in-from (suc k) b n zero h e = rw add-zero (front-head (n % 2) b _ (rw div-one at e))
in-from (suc k) b n (suc i) h e =
    rw (add-suc, ← suc-add) (front-tail (n % 2) b (in-from k (suc b) (n / 2) i (omega arith) (rw digit at e)))

out-from : (k b n i : ℕ) → (b + i) among members_from k b n → n / 2 ^ i % 2 ≡ 1
unfolding members_from
out-from zero b n i m = elim m [ ]
out-from (suc k) b n zero m =
    ⊎_elim (λ e. rw div-one e.0) (λ t. absurd (omega (arith, from-least k (suc b) (n / 2) (b + 0) t)))
    (front_out (n % 2) b (omega arith) m)
out-from (suc k) b n (suc i) m =
    ⊎_elim (λ e. absurd (omega arith)) (λ t. rw digit (out-from k (suc b) (n / 2) i (rw (suc-add, ← add-suc) t)))
    (front_out (n % 2) b (omega arith) m)

pub members-exact : (n q : ℕ) → q < 64 → (q among members n) ↔ (is_in n q ≡ true)
unfolding members
members-exact n q h =
    (λ m. eq-eqb _ _ (out-from 64 0 n q (rw zero-add m)), λ e. rw zero-add at (in-from 64 0 n q h (eqb-true _ _ e)))

-- no member from 64 on
pub far : (n i : ℕ) → n < 2 ^ 64 → 64 ≤ i → is_in n i ≡ false
far n i h k = rw (div-eq_of_lt (lt_of_lt_of_le h (pow_mono k)))

-- the first, and the others

-- the lowest digit that is 1, cleared
clear-odd : (n : ℕ) → n % 2 ≡ 1 → bit_and n (n - 1) ≡ n / 2 * 2
clear-odd n e =
    let d : (n - 1) / 2 ≡ n / 2 = omega arith in
    let m : (n - 1) % 2 ≡ 0 = omega arith in
    rw (and_step, d, m, e, and_self) (omega arith)

clear-even : (n : ℕ) → n % 2 ≡ 0 → 0 < n → bit_and n (n - 1) ≡ bit_and (n / 2) (n / 2 - 1) * 2
clear-even n e h =
    let d : (n - 1) / 2 ≡ n / 2 - 1 = omega arith in
    let m : (n - 1) % 2 ≡ 1 = omega arith in
    rw (and_step n (n - 1), d, m, e) (omega arith)

twice-mod : (n : ℕ) → n * 2 % 2 ≡ 0
twice-mod n = omega arith

twice-div : (n : ℕ) → n * 2 / 2 ≡ n
twice-div n = omega arith

next-from : (k b n : ℕ) → n < 2 ^ k → 0 < n
    → members_from k b n ≡ (b + count_trailing_zeros k n) ∷ members_from k b (bit_and n (n - 1))
unfolding members_from count_trailing_zeros
next-from zero b n h p = absurd (omega arith)
next-from (suc k) b n h p =
    ⊎_elim
    (λ e. rw (clear-even n e p, twice-mod, twice-div, e, add-suc, ← suc-add)
    (next-from k (suc b) (n / 2) (half k n h) (omega arith)))
    (λ q. let e : n % 2 ≡ 1 = omega arith in rw (clear-odd n e, twice-mod, twice-div, e, add-zero))
    (eq-zero-or-pos (n % 2))

pub next : (n : ℕ) → n < 2 ^ 64 → 0 < n → members n ≡ count_trailing_zeros 64 n ∷ members (bit_and n (n - 1))
unfolding members
next n h p = rw zero-add at (next-from 64 0 n h p)

first-in : (n : ℕ) → n < 2 ^ 64 → 0 < n → count_trailing_zeros 64 n among members n
first-in n h p = rw (next n h p) (Memᴰ.head refl)

pub members-some : (n : ℕ) → 0 < n → n < 2 ^ 64 → (q : ℕ) × (q among members n)
members-some n p h = (count_trailing_zeros 64 n, first-in n h p)

pub first : (n : ℕ) → n < 2 ^ 64 → count_trailing_zeros 64 n ≡ get_or (members n) 0 64
first zero h = rw none (trailing_of_zero 64)
first (suc n) h = rw (next (suc n) h (omega arith))

pub first_some : (n : ℕ) → n < 2 ^ 64 → 0 < n
    → (count_trailing_zeros 64 n < 64) × (members n ≡ count_trailing_zeros 64 n ∷ drop 1 (members n))
first_some n h p = (members-below 64 n h _ (first-in n h p), rw (next n h p))

pub others : (n : ℕ) → n < 2 ^ 64 → 0 < n → members (bit_and n (n - 1)) ≡ drop 1 (members n)
others n h p = rw (next n h p)

-- a visit of the members of `set` in their order: `n` are behind, and those of `rest` are ahead
pub record Visit (set n rest : ℕ) : Type 0 where
  pub behind : n ≤ length (members set)
  pub ahead : drop n (members set) ≡ members rest

pub visit-start : (set : ℕ) → Visit set 0 set
visit-start set = record { behind = omega arith; ahead = refl }

pub visit-done : {set n rest : ℕ} → Visit set n rest → rest ≡ 0 → n ≡ length (members set)
visit-done {set} {n} v e =
    let l : drop n (members set) ≡ [] = v.ahead ∙ ap members e ∙ none in
    omega (arith, rw length-drop at (ap length l))

-- a turn of it: `i` is next, and then those of `after`
pub record Turn (set n i after : ℕ) : Type 0 where
  pub within : n < length (members set)
  pub is : get_or (members set) n 0 ≡ i
  pub onward : Visit set (n + 1) after

-- by what `lowest` and `without_lowest` ensure
pub turn : {set n i rest after : ℕ} → Visit set n rest
    → members rest ≡ i ∷ drop 1 (members rest) → members after ≡ drop 1 (members rest) → Turn set n i after
turn {set} {n} {i} {rest} {after} v e f =
    let l : drop n (members set) ≡ i ∷ members after = v.ahead ∙ e ∙ ap (λ (l : List ℕ). i ∷ l) (sym f) in
    let h : n < length (members set) = omega (arith, rw length-drop at (ap length l)) in
    let c = sym (drop-cons (members set) n 0 h) ∙ l in
    record {
      within = h;
      is = head-eq_of_cons-eq c;
      onward = record { behind = omega arith; ahead = rw add-one (tail-eq_of_cons-eq c) };
    }

-- a set is known by its members

abbrev total : List ℕ → ℕ
total [] = 0
total (q ∷ l) = 2 ^ q + total l

front-total : (d b : ℕ) (l : List ℕ) → d < 2 → total (front d b l) ≡ 2 ^ b * d + total l
front-total zero b l h = omega arith
front-total (suc zero) b l h = omega arith
front-total (suc (suc d)) b l h = absurd (omega arith)

total-from : (k b n : ℕ) → n < 2 ^ k → total (members_from k b n) ≡ 2 ^ b * n
unfolding members_from
total-from zero b n h = rw (lt-one h) (omega arith)
total-from (suc k) b n h =
    let e : n % 2 + 2 * (n / 2) ≡ n = omega arith in
    front-total (n % 2) b _ (omega arith)
    ∙ rw (total-from k (suc b) (n / 2) (half k n h), pow-suc, mul_assoc, ← mul-add, e)

pub members-same : (n m : ℕ) → n < 2 ^ 64 → m < 2 ^ 64 → members n ≡ members m → n ≡ m
unfolding members
members-same n m h k e = omega (arith, total-from 64 0 n h, total-from 64 0 m k, ap total e)

pub without-lowest-unique : (set r q : ℕ) → r < 2 ^ 64 → q < 2 ^ 64
    → members r ≡ drop 1 (members set) → members q ≡ drop 1 (members set) → r ≡ q
without-lowest-unique set r q h k e d = members-same r q h k (e ∙ sym d)
