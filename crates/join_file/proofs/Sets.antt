-- The set of the pairs of two sets, made by shifting one for each member of the other. Assumes nothing.
use mathlib.Core.Path.{◌≡◌, refl, sym, ◌∙◌, ap, subst}
use mathlib.Core.List.Memᴰ
use mathlib.Core.List.{List, [], ◌∷◌, ◌++◌, map}
use Prim.Native.Nat.{ℕ, ◌+◌, ◌*◌, ◌%◌, ◌^◌, ◌<◌, ◌≤◌}
use native.Mathlib.Nat.{add-mul, mul_comm, zero-add, lt_of_lt_of_le, mul-le-mul_right}
use native.Mathlib.Omega.{arith}
use lib.Bits.{bit_or, or_shifted_r}
use lib.Pow.{pow-add, pow_mono, pow_pos, shl_exact}
use lib.ListN.{drop}
use Rattle.words.specs.Lists.{◌among◌}
use Rattle.words.specs.Order.{Rises}
use Rattle.words.proofs.Ordered.{first-less}
use Rattle.words.specs.LittleEndian.{byte, eight}
use Rattle.meaning.specs.Parts.{final_start}
use Rattle.meaning.specs.Table.{GoodSet}
use Rattle.meaning.specs.Joining.{pair_number, pairs_of}
use Rattle.sets.specs.Sets.{members}
use Rattle.sets.proofs.Members.{none, members-rise, members-below, members-same}
use Rattle.table.specs.File.{table_of}
use Rattle.table.specs.Good.{first_edition as edition, GoodFile}
use Rattle.table.proofs.Stands.{starting-of}
use Rattle.join_meaning.specs.Laid.{set_of}
use Rattle.join_meaning.proofs.Digits.{set_below, set-members}
use Rattle.join_file.specs.Written.{Paired, TwoTables}

-- a set is the number of its members
set-number : (n : ℕ) → n < 2 ^ 64 → set_of (members n) ≡ n
set-number n h =
    let g : GoodSet 64 (members n) = record { rise = members-rise n; below = members-below 64 n h } in
    members-same (set_of (members n)) n (set_below g) h (set-members g (omega arith))

set-append : (l m : List ℕ) → set_of (l ++ m) ≡ set_of l + set_of m
set-append [] m = sym (zero-add (set_of m))
set-append (q ∷ l) m = omega (arith, set-append l m)

set-shifted : (n p : ℕ) (l : List ℕ) → set_of (map (pair_number n p) l) ≡ set_of l * 2 ^ (p * n)
set-shifted n p [] = omega arith
set-shifted n p (q ∷ l) =
    rw (pow-add 2 (p * n) q, set-shifted n p l, add-mul, mul_comm (2 ^ (p * n)) (2 ^ q))

-- the pairs of those behind are made, those of `rest` are ahead and above them
pub record Pairing (one other n all rest : ℕ) : Type 0 where
  pub asked : Paired one other n
  pub small : other < 2 ^ 64
  pub is : set_of (pairs_of n (members one) (members other)) ≡ all + set_of (pairs_of n (members rest) (members other))
  pub above : (p : ℕ) → p among members rest → all < 2 ^ (p * n)
  pub within : (p : ℕ) → p among members rest → p < asked.states

pub pairing-none : {one other n : ℕ} → Paired one other n → other < 2 ^ 64 → Pairing one other n 0 one
pairing-none {one} {other} {n} asked small =
    record {
      asked = asked;
      small = small;
      is = sym (zero-add _);
      above = λ p m. pow_pos (p * n);
      within = asked.first.below;
    }

pub pairing-all : {one other n all rest : ℕ} → Pairing one other n all rest → rest ≡ 0
    → all ≡ set_of (pairs_of n (members one) (members other))
pairing-all {one} {other} {n} {all} g e =
    let f : set_of (pairs_of n (members 0) (members other)) ≡ 0 = rw none in
    let h = rw e at g.is in
    omega arith

module _ {one other n all rest : ℕ} (g : Pairing one other n all rest) (p : ℕ)
    (next : members rest ≡ p ∷ drop 1 (members rest)) where
  here : p among members rest
  here = subst (λ (l : List ℕ). p among l) (sym next) (Memᴰ.head refl)

  other-below : other < 2 ^ n
  other-below = rw (set-number other g.small) at (set_below g.asked.second)

  pub shift_fits : n + p * n ≤ 64
  shift_fits =
      let l = mul-le-mul_right n (g.within p here) in
      omega (arith, g.asked.few)

  pub shift-below : p * n < 64
  shift-below = omega (arith, shift_fits, g.asked.some)

  made : bit_or all ((other * 2 ^ (p * n)) % 2 ^ 64) ≡ other * 2 ^ (p * n) + all
  made =
      rw (shl_exact {a = other} n (p * n) 64 other-below shift_fits)
      (or_shifted_r other (p * n) all (g.above p here))

  made-below : other * 2 ^ (p * n) + all < 2 ^ (n + p * n)
  made-below =
      let l : (other + 1) * 2 ^ (p * n) ≤ 2 ^ n * 2 ^ (p * n) =
      mul-le-mul_right (2 ^ (p * n)) (omega (arith, other-below)) in
      rw (pow-add 2 n (p * n)) (omega (arith, rw add-mul at l, g.above p here))

  -- the pairs of the next member
  pub pairing-more : {after : ℕ} → members after ≡ drop 1 (members rest)
      → Pairing one other n (bit_or all ((other * 2 ^ (p * n)) % 2 ^ 64)) after
  pairing-more {after} e =
      record {
        asked = g.asked;
        small = g.small;
        is = omega (arith, g.is, ahead, made);
        above = λ q m. rw made (lt_of_lt_of_le made-below (pow_mono (above-next q m)));
        within = λ q m. g.within q (later q m);
      }
    where
      all-members : members rest ≡ p ∷ members after
      all-members = next ∙ ap (λ (l : List ℕ). p ∷ l) (sym e)

      later : (q : ℕ) → q among members after → q among members rest
      later q m = subst (λ (l : List ℕ). q among l) (sym all-members) (Memᴰ.tail m)

      ahead : set_of (pairs_of n (members rest) (members other))
          ≡ other * 2 ^ (p * n) + set_of (pairs_of n (members after) (members other))
      ahead =
          ap (λ (l : List ℕ). set_of (pairs_of n l (members other))) all-members
          ∙ set-append (map (pair_number n p) (members other)) (pairs_of n (members after) (members other))
          ∙ ap (λ (k : ℕ). k + set_of (pairs_of n (members after) (members other)))
          (set-shifted n p (members other) ∙ ap (λ (k : ℕ). k * 2 ^ (p * n)) (set-number other g.small))

      above-next : (q : ℕ) → q among members after → n + p * n ≤ q * n
      above-next q m =
          let rise = subst (Rises (λ (q : ℕ). q ∷ [])) all-members (members-rise rest) in
          let l = mul-le-mul_right n (first-less (rise.0 q m)) in
          omega arith

-- the sets of two good files

final-set : (file : List ℕ) → GoodFile edition file → GoodSet (table_of file).states (table_of file).final
unfolding table_of
final-set file g =
    record {
      rise = members-rise (eight file final_start);
      below = members-below (byte file 1) (eight file final_start) g.sets.final;
    }

some-state : (file : List ℕ) → GoodFile edition file → 1 ≤ (table_of file).states
unfolding table_of
some-state file g = g.head.states.0

module _ {a b : List ℕ} (g : TwoTables a b) {one other n : ℕ} (count : n ≡ (table_of b).states) where
  asked : GoodSet (table_of a).states (members one) → GoodSet (table_of b).states (members other) → Paired one other n
  asked f s =
      rw count
      (record { states = (table_of a).states; first = f; second = s; some = some-state b g.second; few = g.few })

  pub starting-asked : members one ≡ (table_of a).starting → members other ≡ (table_of b).starting → Paired one other n
  starting-asked e f =
      asked
      (subst (GoodSet (table_of a).states) (sym e) (starting-of a g.first).0)
      (subst (GoodSet (table_of b).states) (sym f) (starting-of b g.second).0)

  pub final-asked : members one ≡ (table_of a).final → members other ≡ (table_of b).final → Paired one other n
  final-asked e f =
      asked
      (subst (GoodSet (table_of a).states) (sym e) (final-set a g.first))
      (subst (GoodSet (table_of b).states) (sym f) (final-set b g.second))

pub pairs-number : (one other : ℕ) {n m r : ℕ} {ps qs : List ℕ} → r ≡ set_of (pairs_of n (members one) (members other))
    → n ≡ m → members one ≡ ps → members other ≡ qs → r ≡ set_of (pairs_of m ps qs)
pairs-number one other i d e f = i ∙ (λ k. set_of (pairs_of (d k) (e k) (f k)))
