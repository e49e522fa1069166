-- Where the links of each level stand, found link by link, and what lies outside. Assumes nothing.
use mathlib.Core.Path.{◌≡◌, sym, ◌∙◌, ap, subst, refl}
use mathlib.Core.Logic.{◌⊎◌, inl, inr}
use mathlib.Core.List.{List}
use Prim.Native.Nat.{ℕ, zero, suc, ◌+◌, ◌-◌, ◌<◌, ◌≤◌}
use native.Mathlib.Nat.{eq-or-lt_of_le}
use native.Mathlib.Omega.{arith}
use lib.ListN.{length, replicate, get_or, set, length-set, length-replicate}
use lib.Seq.{get_or-set_same, get_or-set_other}
use Rattle.words.specs.Words.{Bytes}
use Rattle.words.proofs.Lists.{below_or, get_or-byte}
use Rattle.session_meaning.specs.Bytes.{link_start, link_count, link_from, link_at}
use Rattle.session_meaning.specs.Numbers.{seat_from, foot_from, seat_at, foot_at, start_of, level_of, Graded, Levelled}
use Rattle.session_meaning.specs.Numbers.{Heaviest}
use Rattle.session_meaning.proofs.Encoded.{get_or-zeros}
use Rattle.links.proofs.Weighed.{Sought, sought-start, sought-past, sought-all}
use Rattle.session_meaning.proofs.Started.{same_or}
use Rattle.std.specs.Prelude.{Option, Some, None, MatchOption}
use Rattle.links.specs.Heads.{FoundAt}

module _ (bytes : List ℕ) (small : Bytes bytes) where
  -- feet and seats say the level
  pub foot-level : (k : ℕ) → level_of (foot_from bytes k) ≡ (link_from bytes k).level
  foot-level k =
      let s = get_or-byte bytes small (k + 3) in
      let m = get_or-byte bytes small (k + 4) in
      omega arith

  pub seat-level : (k : ℕ) → level_of (seat_from bytes k) ≡ (link_from bytes k).level + 1
  seat-level k =
      let s = get_or-byte bytes small (k + 1) in
      let m = get_or-byte bytes small (k + 2) in
      omega arith

-- the links before `i` are looked at
pub record Found (bytes starts : List ℕ) (i : ℕ) : Type 0 where
  pub long : length starts ≡ 35
  pub within : (l : ℕ) → start_of starts l ≤ i
  pub after : (l j : ℕ) → j < link_count bytes → l ≤ (link_at bytes j).level → start_of starts l ≤ j
  pub before : (j : ℕ) → j < i → j < start_of starts ((link_at bytes j).level + 1)

pub found-start : (bytes : List ℕ) → Found bytes (replicate 35 0) 0
found-start bytes =
    record {
      long = length-replicate {A = ℕ} 35 0;
      within = λ l. omega (arith, get_or-zeros 35 l);
      after = λ l j k h. omega (arith, get_or-zeros 35 l);
      before = λ j l. absurd (omega arith);
    }

-- one place set: what stands there and elsewhere
abbrev pub At : List ℕ → ℕ → ℕ → ℕ → Type 0
At l p v q = ((q ≡ p) × (get_or (set l p v) q 0 ≡ v)) ⊎ ((q ≡ p → ⊥) × (get_or (set l p v) q 0 ≡ get_or l q 0))

pub set_at : (l : List ℕ) (p v q : ℕ) → p < length l → At l p v q
set_at l p v q lt = go (same_or q p)
  where
    go : (q ≡ p) ⊎ (q ≡ p → ⊥) → At l p v q
    go (inl e) = inl (e, ap (λ (k : ℕ). get_or (set l p v) k 0) e ∙ get_or-set_same l p v 0 lt)
    go (inr n) = inr (n, get_or-set_other l p q v 0 n)

pub found-next : {bytes starts : List ℕ} {i : ℕ} → Graded bytes → Found bytes starts i
    → i < link_count bytes → (l v : ℕ) → l ≡ (link_at bytes i).level + 1 → v ≡ i + 1 → l < 35
    → Found bytes (set starts l v) (i + 1)
found-next {bytes} {starts} {i} graded f lt l v el ev low =
    record {
      long = length-set starts l v ∙ f.long;
      within = λ q. within q (at q);
      after = λ q j k h. after q j k h (at q) (below_or i j);
      before = λ j k. before j k (at ((link_at bytes j).level + 1)) (below_or j i);
    }
  where
    at : (q : ℕ) → At starts l v q
    at q = set_at starts l v q (omega (arith, f.long))

    within : (q : ℕ) → At starts l v q → start_of (set starts l v) q ≤ i + 1
    within q (inl a) = omega (arith, a.1)
    within q (inr a) = omega (arith, a.1, f.within q)

    lower : (j : ℕ) → (j ≡ i) ⊎ (j < i) → (link_at bytes j).level ≤ (link_at bytes i).level
    lower j (inl e) = subst (λ (k : ℕ). (link_at bytes j).level ≤ (link_at bytes k).level) e (omega arith)
    lower j (inr o) = graded.rise j i o lt

    after : (q j : ℕ) → j < link_count bytes → q ≤ (link_at bytes j).level → At starts l v q → (i < j) ⊎ (j ≤ i)
        → start_of (set starts l v) q ≤ j
    after q j k h (inl a) (inl o) = omega (arith, a.1)
    after q j k h (inl a) (inr o) = absurd (omega (arith, a.0, lower j (eq-or-lt_of_le o)))
    after q j k h (inr a) o = omega (arith, a.1, f.after q j k h)

    before : (j : ℕ) → j < i + 1 → At starts l v ((link_at bytes j).level + 1) → (j < i) ⊎ (i ≤ j)
        → j < start_of (set starts l v) ((link_at bytes j).level + 1)
    before j k (inl a) o = omega (arith, a.1)
    before j k (inr a) (inl o) = omega (arith, a.1, f.before j o)
    before j k (inr a) (inr o) =
        let e : i ≡ j = omega arith in
        absurd (a.0 (sym (el ∙ ap (λ (k : ℕ). (link_at bytes k).level + 1) e)))

pub found_all : {bytes starts : List ℕ} {n : ℕ} → Graded bytes → Bytes bytes → n ≡ link_count bytes → Found bytes starts n
    → Levelled bytes starts
found_all {bytes} graded small e f =
    record {
      graded = graded;
      small = small;
      within = λ l. omega (arith, f.within l);
      after = λ j l. f.after (link_at bytes j).level j l (omega arith);
      before = λ j l. f.before j (omega arith);
    }

module _ {bytes starts : List ℕ} (v : Levelled bytes starts) (foot : ℕ) where
  -- those with one foot stand between two starts
  on-level : (k : ℕ) → foot_at bytes k ≡ foot → (link_at bytes k).level ≡ level_of foot
  on-level k e = sym (foot-level bytes v.small (link_start k)) ∙ ap level_of e

  pub foot-after : (k : ℕ) → k < link_count bytes → foot_at bytes k ≡ foot → start_of starts (level_of foot) ≤ k
  foot-after k l e = subst (λ (m : ℕ). start_of starts m ≤ k) (on-level k e) (v.after k l)

  pub foot-before : (k : ℕ) → k < link_count bytes → foot_at bytes k ≡ foot → k < start_of starts (level_of foot + 1)
  foot-before k l e = subst (λ (m : ℕ). k < start_of starts (m + 1)) (on-level k e) (v.before k l)

  -- and those that they stand on between the two before
  under-level : (k : ℕ) → seat_at bytes k ≡ foot → (link_at bytes k).level + 1 ≡ level_of foot
  under-level k e = sym (seat-level bytes v.small (link_start k)) ∙ ap level_of e

  pub seat-after : (k : ℕ) → k < link_count bytes → seat_at bytes k ≡ foot → start_of starts (level_of foot - 1) ≤ k
  seat-after k l e =
      let u : (link_at bytes k).level ≡ level_of foot - 1 = omega (arith, under-level k e) in
      subst (λ (m : ℕ). start_of starts m ≤ k) u (v.after k l)

  pub seat-before : (k : ℕ) → k < link_count bytes → seat_at bytes k ≡ foot → k < start_of starts (level_of foot)
  seat-before k l e = subst (λ (m : ℕ). k < start_of starts m) (under-level k e) (v.before k l)

-- links without the foot are passed over
sought-to : {bytes : List ℕ} {foot from n : ℕ} (d j t : ℕ) → j + d ≡ t → t ≤ link_count bytes
    → ((k : ℕ) → j ≤ k → k < t → foot_at bytes k ≡ foot → ⊥) → Sought bytes foot from j n → Sought bytes foot from t n
sought-to {bytes} {foot} {from} {n} zero j t e le no-foot s =
    let f : j ≡ t = omega arith in
    subst (λ (k : ℕ). Sought bytes foot from k n) f s
sought-to (suc d) j t e le no-foot s =
    sought-to d (j + 1) t (omega arith) le (λ k a b. no-foot k (omega arith) b)
    (sought-past s (omega arith) (no-foot j (omega arith) (omega arith)) refl)

module _ {bytes starts : List ℕ} (v : Levelled bytes starts) {foot : ℕ} where
  -- the most, from the start of the level to its end, and from any place before
  pub sought-ended : {from j n : ℕ} → Sought bytes foot from j n → start_of starts (level_of foot + 1) ≤ j
      → j ≤ link_count bytes → Heaviest bytes foot from n
  sought-ended {j = j} s e le =
      sought-all
      (sought-to (link_count bytes - j) j (link_count bytes) (omega arith) (omega arith)
      (λ k a b f. omega (arith, foot-before v foot k b f)) s)
      (omega arith)

  pub heaviest-from : {i r : ℕ} → Heaviest bytes foot (start_of starts (level_of foot)) r
      → i ≤ start_of starts (level_of foot) → Heaviest bytes foot i r
  heaviest-from {i} {r} h le =
      let t = start_of starts (level_of foot) in
      let w = v.within (level_of foot) in
      let s =
      sought-to (t - i) i t (omega arith) w (λ k a b f. omega (arith, foot-after v foot k (omega arith) f))
      (sought-start bytes foot i) in
      record { is = λ test p. omega (arith, h.is test p, s.is test p) }

-- what stands on a link comes after it, at a level that has a start and an end
module _ {bytes starts : List ℕ} (v : Levelled bytes starts) (i : ℕ) (l : i < link_count bytes) where
  over : {foot : ℕ} → foot ≡ seat_at bytes i → level_of foot ≡ (link_at bytes i).level + 1
  over e = ap level_of e ∙ seat-level bytes v.small (link_start i)

  pub seat-past : {foot : ℕ} → foot ≡ seat_at bytes i → i < start_of starts (level_of foot)
  seat-past e = subst (λ (m : ℕ). i < start_of starts m) (sym (over e)) (v.before i l)

  pub seat-low : {foot : ℕ} → foot ≡ seat_at bytes i → level_of foot < 34
  seat-low e = omega (arith, over e, v.graded.low i l)

-- what a search over the places of a level says of all places
pub found_in : {at : ℕ → ℕ} {n number a b : ℕ} (r : Option ℕ) → b ≤ n → ((k : ℕ) → k < n → at k ≡ number → a ≤ k)
    → ((k : ℕ) → k < n → at k ≡ number → k < b)
    → MatchOption r ((k : ℕ) → a ≤ k → k < b → at k ≡ number → ⊥)
    (λ i. (a ≤ i) × (i < b) × (at i ≡ number) × ((k : ℕ) → a ≤ k → k < i → at k ≡ number → ⊥)) → FoundAt at n number r
found_in None le from to h =
    record {
      within = omega arith;
      before = λ k l e. h k (from k l e) (to k l e) e;
      found = λ l. absurd (omega arith);
    }
found_in (Some i) le from to h = (
  record {
    within = omega arith;
    before = λ k l e. h.3 k (from k (omega arith) e) l e;
    found = λ l. h.2;
  },
  omega arith,
)
