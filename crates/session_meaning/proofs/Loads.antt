-- The longest waiting output, by links. Assumes nothing.
use mathlib.Core.Path.{◌≡◌, refl, sym, ◌∙◌, ap, subst}
use mathlib.Core.Logic.{◌⊎◌, inl, inr}
use mathlib.Core.Bool.{Bool, true, false, cond, false≢true}
use mathlib.Core.List.Memᴰ
use mathlib.Core.List.{List, [], ◌∷◌, ◌++◌, map}
use Prim.Native.Nat.{ℕ, zero, suc, ◌+◌, ◌<◌, ◌≤◌, max}
use native.Mathlib.Omega.{arith}
use native.Mathlib.Nat.{le-max_left, le-max_right, max-eq_left, max-eq_right}
use lib.ListN.{length, length-append}
use Rattle.words.specs.Lists.{◌among◌}
use Rattle.words.specs.Words.{Word}
use Rattle.words.specs.Order.{Less}
use Rattle.words.proofs.Lists.{map_same, below_or}
use Rattle.meaning.specs.Trails.{Trail, ground, over, height, Link, on, link_of, link_key}
use Rattle.session_meaning.specs.Sessions.{Apart, RisesByLink, Entry, entry, Session, Has, Spells, Waits}
use Rattle.session_meaning.specs.Sessions.{on_bottom}
use Rattle.session_meaning.specs.Sessions.{stands_on}
use Rattle.session_meaning.specs.Soundly.{Load, most, loads, longest}
use Rattle.session_meaning.proofs.Tests.{bottom-exact, stands-exact, as-has}
use Rattle.session_meaning.proofs.Spells.{Above, no_more, up, above-spells, from-bottom, level-link_of, has-top}
use Rattle.session_meaning.proofs.Spells.{GoesOn}
use Rattle.session_meaning.proofs.Spells.{Stood, stood}

-- the most of a list of loads

max-is : (m n : ℕ) → (max m n ≡ m) ⊎ (max m n ≡ n)
max-is m n = go (below_or m n)
  where
    go : (m < n) ⊎ (n ≤ m) → (max m n ≡ m) ⊎ (max m n ≡ n)
    go (inl lt) = inr (max-eq_right (omega arith))
    go (inr le) = inl (max-eq_left le)

module _ (test : Link → Bool) where
  abbrev At : Load → List Load → Bool → ℕ
  At h H b = cond b (max h.bytes (most test H)) (most test H)

  -- none that passes is more
  most-each : (H : List Load) (h : Load) → h among H → test h.link ≡ true → h.bytes ≤ most test H
  most-each [] h x'' t = elim x'' [ ]
  most-each (k ∷ H) h (Memᴰ.head e) t =
      let s : test k.link ≡ true = ap (λ (h : Load). test h.link) (sym e) ∙ t in
      let f : h.bytes ≡ k.bytes = ap (λ (h : Load). h.bytes) e in
      rw s (omega (arith, le-max_left k.bytes (most test H)))
  most-each (k ∷ H) h (Memᴰ.tail m) t = go (test k.link) (most-each H h m t)
    where
      go : (b : Bool) → h.bytes ≤ most test H → h.bytes ≤ At k H b
      go true l = omega (arith, le-max_right k.bytes (most test H))
      go false l = l

  -- one that passes is as much, if any passes
  abbrev Most : List Load → ℕ → Type 0
  Most H n = (h : Load) × (h among H) × (test h.link ≡ true) × (h.bytes ≡ n)

  most-none : (H : List Load) → ((h : Load) → h among H → test h.link ≡ true → ⊥) → most test H ≡ 0
  most-none [] f = refl
  most-none (k ∷ H) f =
      go (test k.link) (f k (Memᴰ.head refl)) (most-none H (λ h m. f h (Memᴰ.tail m)))
    where
      go : (b : Bool) → (b ≡ true → ⊥) → most test H ≡ 0 → At k H b ≡ 0
      go true f e = absurd (f refl)
      go false f e = e

  most-in : (H : List Load) → Most H (most test H) ⊎ ((h : Load) → h among H → test h.link ≡ true → ⊥)
  most-in [] = inr (λ h m t. elim m [ ])
  most-in (k ∷ H) = go (test k.link) refl (most-in H)
    where
      down : Most H (most test H) → Most (k ∷ H) (most test H)
      down r = (r.0, Memᴰ.tail r.1, r.2, r.3)

      here : (n : ℕ) → test k.link ≡ true → k.bytes ≡ n → Most (k ∷ H) n
      here n t e = (k, Memᴰ.head refl, t, e)

      pick : test k.link ≡ true → (n : ℕ) → (n ≡ k.bytes) ⊎ (n ≡ most test H) → k.bytes ≤ n
          → Most H (most test H) ⊎ ((h : Load) → h among H → test h.link ≡ true → ⊥) → Most (k ∷ H) n
      pick t n (inl e) l r = here n t (sym e)
      pick t n (inr e) l (inl r) = rw e (down r)
      pick t n (inr e) l (inr f) = here n t (omega (arith, most-none H f))

      go : (b : Bool) → test k.link ≡ b → Most H (most test H) ⊎ ((h : Load) → h among H → test h.link ≡ true → ⊥)
          → Most (k ∷ H) (At k H b) ⊎ ((h : Load) → h among k ∷ H → test h.link ≡ true → ⊥)
      go true t r =
          let n = max k.bytes (most test H) in
          inl (pick t n (max-is k.bytes (most test H)) (le-max_left k.bytes (most test H)) r)
      go false t (inl r) = inl (down r)
      go false t (inr f) = inr (λ h m. none h (Memᴰ.cases_cons m))
        where
          none : (h : Load) → (h ≡ k) ⊎ (h among H) → test h.link ≡ true → ⊥
          none h (inl e) s = false≢true (sym t ∙ ap (λ (h : Load). test h.link) (sym e) ∙ s)
          none h (inr m) s = f h m s

-- the load of an entry of a rising list is by all links that stand on it

abbrev load : List Load → Entry → Load
load H e = record { link = e.link; bytes = length e.piece + most (stands_on e.link) H }

-- what stands on a link is at the next level
stands-level : (l k : Link) → stands_on l k ≡ true → k.level ≡ suc l.level
stands-level l k h = ap (λ (k : Link). k.level) ((stands-exact l k).1 h)

pub level-less : (k l : Link) → Less (link_key k) (link_key l) → k.level ≤ l.level
level-less k l (inl h) = omega arith
level-less k l (inr h) = omega (arith, h.0)

-- what is not above a link does not stand on it
skipped : (H : List Load) (k : Load) (l : Link) → k.link.level ≤ l.level
    → most (stands_on l) (k ∷ H) ≡ most (stands_on l) H
skipped H k l le = go (stands_on l k.link) (λ h. stands-level l k.link h)
  where
    go : (b : Bool) → (b ≡ true → k.link.level ≡ suc l.level) → At (stands_on l) k H b ≡ most (stands_on l) H
    go true f = let e = f refl in absurd (omega arith)
    go false f = refl

loads-are : (E : List Entry) → RisesByLink E → loads E ≡ map (load (loads E)) E
loads-are [] r = refl
loads-are (e ∷ E) r =
    let k = load (loads E) e in
    let a = sym (skipped (loads E) k e.link (omega arith)) in
    let b =
    loads-are E r.1 ∙ map_same (load (loads E)) (load (k ∷ loads E)) E
    (λ f m. again f (level-less e.link f.link (r.0 f m))) in
    cc
  where
    again : (f : Entry) → e.link.level ≤ f.link.level
        → load (loads E) f ≡ load (load (loads E) e ∷ loads E) f
    again f le =
        ap (λ (n : ℕ). record { link = f.link; bytes = length f.piece + n })
        (sym (skipped (loads E) (load (loads E) e) f.link le))

-- a full trail that goes on from `t` and adds the most
abbrev MostOn : Session → Trail → Type 0
MostOn S t = (s : Word) × GoesOn S t s × (length s ≡ most (stands_on (link_of t)) (loads S.entries))

-- a longest waiting output
abbrev Longest : Session → Type 0
Longest S = (t : Trail) × (w : Word) × Waits S t w × (length w ≡ longest S.entries)

module _ (S : Session) (rise : RisesByLink S.entries) where
  abbrev All : List Load
  All = loads S.entries

  load-in : (e : Entry) → e among S.entries → load All e among All
  load-in e m =
      subst (λ (H : List Load). load All e among H) (sym (loads-are S.entries rise)) (Memᴰ.map (load All) m)

  load-out : (h : Load) → h among All → (e : Entry) × (e among S.entries) × (load All e ≡ h)
  load-out h m =
      Memᴰ.of_map (load All) S.entries (subst (λ (H : List Load). h among H) (loads-are S.entries rise) m)

  -- what goes on from a trail adds no more than the most that stands on its top
  above_most : (t U : Trail) (s : Word) → Above S t U s → length s ≤ most (stands_on (link_of t)) All
  above_most t U s no_more = omega arith
  above_most t U s (up {q} {m} {x = x} {s = s'} h a) =
      let l = link_of (over q m t) in
      omega (
        arith,
        above_most (over q m t) U s' a,
        length-append x s',
        most-each (stands_on (link_of t)) All (load All (entry l x)) (load-in (entry l x) h)
            ((stands-exact (link_of t) l).0 refl),
      )

  -- no waiting output is longer
  pub waits-longest : (U : Trail) (w : Word) → Spells S U w → length w ≤ longest S.entries
  waits-longest U w p =
      let r = from-bottom S U w p in
      let l = link_of (ground r.0) in
      let e = ap length r.5 in
      omega (
        arith,
        length-append r.1 r.2,
        above_most (ground r.0) U r.2 r.4,
        most-each on_bottom All (load All (entry l r.1)) (load-in (entry l r.1) r.3) ((bottom-exact l).0 refl),
      )

  module _ (apart : Apart S) (low : (l : Link) (x : Word) → Has S l x → l.level ≤ S.depth) where
    -- and one adds as much
    goes-most : (n : ℕ) (t : Trail) (o : Word) → height t + n ≡ S.depth → Spells S t o → MostOn S t
    goes-most zero t o e p =
        ([], (t, no_more, omega arith), sym (most-none (stands_on (link_of t)) All (λ h m s. none h (load-out h m) s)))
      where
        none : (h : Load) → (e : Entry) × (e among S.entries) × (load All e ≡ h)
            → stands_on (link_of t) h.link ≡ true → ⊥
        none h f s =
            let a = stands-level (link_of t) h.link s in
            let b : f.0.link.level ≡ h.link.level = ap (λ (h : Load). h.link.level) f.2 in
            absurd (omega (arith, low f.0.link f.0.piece f.1, level-link_of t))
    goes-most (suc n) t o e p =
        let h = has-top S t o p in
        let k = stood S apart t h.0 h.1 (omega arith) in
        go k (most-in (stands_on (link_of t)) All)
        (λ q m y k. goes-most n (over q m t) (o ++ y) (omega arith) (o, y, p, k, refl))
      where
        rest : (h : Load) → stands_on (link_of t) h.link ≡ true → h.bytes ≡ most (stands_on (link_of t)) All
            → (e : Entry) × (e among S.entries) × (load All e ≡ h)
            → ((q m : ℕ) (y : Word) → Has S (on q m (link_of t)) y → MostOn S (over q m t)) → MostOn S t
        rest h s b f ih =
            let l = ap (λ (h : Load). h.link) f.2 ∙ (stands-exact (link_of t) h.link).1 s in
            let k = as-has S f.0 _ f.1 l in
            let r = ih h.link.here.state h.link.here.marker f.0.piece k in
            let c = ap (λ (l : Link). most (stands_on l) All) l in
            let d = ap (λ (h : Load). h.bytes) f.2 in (
              f.0.piece ++ r.0,
              (r.1.0, up k r.1.1, r.1.2),
              omega (arith, length-append f.0.piece r.0, r.2),
            )

        go : Stood S t
            → Most (stands_on (link_of t)) All (most (stands_on (link_of t)) All)
            ⊎ ((h : Load) → h among All → stands_on (link_of t) h.link ≡ true → ⊥)
            → ((q m : ℕ) (y : Word) → Has S (on q m (link_of t)) y → MostOn S (over q m t)) → MostOn S t
        go k (inl r) ih = rest r.0 r.2 r.3 (load-out r.0 r.1) ih
        go k (inr f) ih =
            let l = on k.0 k.1 (link_of t) in
            absurd (f (load All (entry l k.2)) (load-in (entry l k.2) k.3) ((stands-exact (link_of t) l).0 refl))

    -- a waiting output is the longest, where there is one
    pub longest-waits : (U : Trail) (w : Word) → Spells S U w
        → Longest S
    longest-waits U w p =
        let b = from-bottom S U w p in
        let l = link_of (ground b.0) in
        let e = entry l b.1 in
        go (most-in on_bottom All) (λ f. f (load All e) (load-in e b.3) ((bottom-exact l).0 refl))
      where
        found : (h : Load) → on_bottom h.link ≡ true → h.bytes ≡ longest S.entries
            → (e : Entry) × (e among S.entries) × (load All e ≡ h)
            → Longest S
        found h s b f =
            let l = ap (λ (h : Load). h.link) f.2 ∙ (bottom-exact h.link).1 s in
            let q = h.link.here.state in
            let k = as-has S f.0 (link_of (ground q)) f.1 l in
            let r = goes-most S.depth (ground q) f.0.piece (omega arith) k in
            let c = ap (λ (l : Link). most (stands_on l) All) l in
            let d = ap (λ (h : Load). h.bytes) f.2 in (
              r.1.0,
              f.0.piece ++ r.0,
              record { full = r.1.2; spells = above-spells S (ground q) r.1.0 f.0.piece r.0 k r.1.1 },
              omega (arith, length-append f.0.piece r.0, r.2),
            )

        go : Most on_bottom All (longest S.entries) ⊎ ((h : Load) → h among All → on_bottom h.link ≡ true → ⊥)
            → (((h : Load) → h among All → on_bottom h.link ≡ true → ⊥) → ⊥)
            → Longest S
        go (inl r) n = found r.0 r.2 r.3 (load-out r.0 r.1)
        go (inr f) n = absurd (n f)
