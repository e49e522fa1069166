-- Links weighed one after the other, from the last to the first: what is known of those passed. Assumes nothing.
use mathlib.Core.Path.{◌≡◌, refl, ◌∙◌, ap}
use mathlib.Core.Logic.{◌⊎◌, inl, inr}
use mathlib.Core.Bool.{Bool, true, false, cond}
use mathlib.Core.List.{List, [], ◌∷◌}
use Prim.Native.Nat.{ℕ, zero, suc, ◌+◌, ◌*◌, ◌-◌, ◌<◌, ◌≤◌, max}
use native.Mathlib.Numerals.{add-one}
use native.Mathlib.Omega.{arith}
use lib.ListN.{length, get_or, set, length-map, drop_of_length-le}
use lib.Seq.{drop-cons, get_or-set_same, get_or-set_other}
use borrow.Author.Tests.{eq-eqb, ne_eqb}
use Rattle.words.specs.Lists.{up_to}
use Rattle.words.specs.Words.{Bytes}
use Rattle.words.proofs.Lists.{below_or, get_or-map-up_to, length-up_to}
use Rattle.meaning.specs.Trails.{Link}
use Rattle.session_meaning.specs.Sessions.{on_bottom, stands_on}
use Rattle.session_meaning.specs.Soundly.{Load, most, loads_of, longest_of}
use Rattle.session_meaning.specs.Bytes.{link_start, link_count, length_at, link_at, NoneBelow, no_entry}
use Rattle.session_meaning.specs.Numbers.{seat_at, foot_at, Weighable, weight_at, weights, loads_from, load_at, Weighed}
use Rattle.session_meaning.specs.Numbers.{Picks, Heaviest}
use Rattle.session_meaning.proofs.Feet.{stands-foot, bottom-foot}

module _ (bytes : List ℕ) where
  weighed : length (weights bytes) ≡ link_count bytes
  weighed = length-map (up_to (link_count bytes)) (weight_at bytes) ∙ length-up_to (link_count bytes)

  -- the loads from a place on: that of the link there, and those after it
  loads-next : (j : ℕ) → j < link_count bytes
      → loads_from bytes j ≡ record { link = link_at bytes j; bytes = load_at bytes j } ∷ loads_from bytes (j + 1)
  unfolding loads_from load_at
  loads-next j lt =
      let d : Load = record { link = no_entry.link; bytes = 0 } in
      let a = get_or-map-up_to (weight_at bytes) (link_count bytes) j d lt in
      rw (add-one j, drop-cons (weights bytes) j d (omega (arith, weighed)), a)

  loads-end : (j : ℕ) → link_count bytes ≤ j → loads_from bytes j ≡ []
  unfolding loads_from
  loads-end j le =
      let l : length (weights bytes) ≤ j = omega (arith, weighed) in
      ap loads_of (drop_of_length-le (weights bytes) l)

  module _ (test : Link → Bool) where
    abbrev most_from : ℕ → ℕ
    most_from j = most test (loads_from bytes j)

    most-next : (j : ℕ) → j < link_count bytes → (b : Bool) → test (link_at bytes j) ≡ b
        → most_from j ≡ cond b (max (load_at bytes j) (most_from (j + 1))) (most_from (j + 1))
    most-next j lt b e = rw (loads-next j lt, e)

    most-end : (j : ℕ) → link_count bytes ≤ j → most_from j ≡ 0
    most-end j le = rw (loads-end j le)

-- the most so far and that from `j` on make the most from `from` on
pub record Sought (bytes : List ℕ) (foot from j so_far : ℕ) : Type 0 where
  pub within : from ≤ j
  pub is : (test : Link → Bool) → Picks bytes foot test
      → max so_far (most test (loads_from bytes j)) ≡ most test (loads_from bytes from)

pub sought-start : (bytes : List ℕ) (foot from : ℕ) → Sought bytes foot from from 0
sought-start bytes foot from = record { within = omega arith; is = λ test p. omega arith }

module _ {bytes : List ℕ} {foot from j n : ℕ} (s : Sought bytes foot from j n) where
  pub sought-past : {m : ℕ} → j < link_count bytes → (foot_at bytes j ≡ foot → ⊥) → m ≡ n
      → Sought bytes foot from (j + 1) m
  sought-past lt f e =
      record {
        within = let w = s.within in omega arith;
        is =
            λ test p.
            omega (arith, s.is test p, most-next bytes test j lt false (p j lt ∙ ne_eqb (foot_at bytes j) foot f));
      }

  pub sought-met : {m : ℕ} {loads : List ℕ} → j < link_count bytes → foot_at bytes j ≡ foot → Weighed bytes loads from
      → m ≡ max n (get_or loads j 0) → Sought bytes foot from (j + 1) m
  sought-met lt f w e =
      let load = w.each j s.within lt in
      record {
        within = let w = s.within in omega arith;
        is =
            λ test p.
            omega (arith, s.is test p, most-next bytes test j lt true (p j lt ∙ eq-eqb (foot_at bytes j) foot f));
      }

  pub sought-all : link_count bytes ≤ j → Heaviest bytes foot from n
  sought-all le = record { is = λ test p. omega (arith, s.is test p, most-end bytes test j le) }

-- a link is weighed by its piece and the most of what stands on it
load_of : (bytes : List ℕ) (i : ℕ)
    → load_at bytes i ≡ length_at bytes i + most (stands_on (link_at bytes i)) (loads_from bytes (i + 1))
unfolding load_at
load_of bytes i = refl

module _ {bytes : List ℕ} (able : Weighable bytes) where
  -- no more waits than the pieces have room for
  abbrev Roomy : ℕ → ℕ → Type 0
  Roomy n j = (test : Link → Bool) → most test (loads_from bytes j) ≤ 1023 * n

  load-small : (n j : ℕ) → j < link_count bytes → Roomy n (j + 1) → load_at bytes j ≤ 1023 * suc n
  load-small n j lt h =
      omega (arith, load_of bytes j, h (stands_on (link_at bytes j)), able.short j lt)

  most-small : (n j : ℕ) → j + n ≡ link_count bytes → Roomy n j
  most-small zero j e test = omega (arith, most-end bytes test j (omega arith))
  most-small (suc n) j e test = go (test (link_at bytes j)) refl (most-small n (j + 1) (omega arith)) (omega arith)
    where
      go : (b : Bool) → test (link_at bytes j) ≡ b → Roomy n (j + 1) → j < link_count bytes
          → most test (loads_from bytes j) ≤ 1023 * suc n
      go true t h lt = omega (arith, h test, load-small n j lt h, most-next bytes test j lt true t)
      go false t h lt = omega (arith, h test, most-next bytes test j lt false t)

  pub loads-small : (i : ℕ) → i < link_count bytes → load_at bytes i ≤ 1023 * link_count bytes
  loads-small i lt =
      let n = link_count bytes - (i + 1) in
      omega (arith, load-small n i lt (most-small n (i + 1) (omega arith)))

  -- what waits at level 0 is all that waits
  pub heaviest-longest : {r : ℕ} → ((j : ℕ) → j < link_count bytes → NoneBelow bytes (link_start j)) → Heaviest bytes 0 0 r
      → r ≡ longest_of (weights bytes)
  unfolding loads_from
  heaviest-longest below h = h.is on_bottom (λ j l. bottom-foot bytes j (able.plain j l) (below j l))

-- the length of a link's piece with the most of what stands on it is its load
pub heaviest-load : {bytes : List ℕ} {n foot r : ℕ} (i : ℕ) → Bytes bytes → n ≡ length_at bytes i
    → foot ≡ seat_at bytes i → Heaviest bytes foot (i + 1) r → n + r ≡ load_at bytes i
heaviest-load {bytes} i small e f h =
    let m = h.is (stands_on (link_at bytes i)) (λ j l. rw f (stands-foot bytes small i j)) in
    rw (load_of, e, m)

-- one link more is weighed
pub weighed-next : {bytes loads : List ℕ} {i : ℕ} (v : ℕ) → Weighed bytes loads (i + 1) → i < length loads
    → v ≡ load_at bytes i → Weighed bytes (set loads i v) i
weighed-next {bytes} {loads} {i} v w lt e = record { each = λ k l m. go k m (below_or i k) l }
  where
    go : (k : ℕ) → k < link_count bytes → (i < k) ⊎ (k ≤ i) → i ≤ k → get_or (set loads i v) k 0 ≡ load_at bytes k
    go k m (inl o) l = get_or-set_other loads i k v 0 (λ e. omega arith) ∙ w.each k (omega arith) m
    go k m (inr o) l =
        let f : i ≡ k = omega arith in
        rw (← f) (get_or-set_same loads i v 0 lt ∙ e)
