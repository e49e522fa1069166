-- What the trails of a sound session spell. Assumes nothing.
use mathlib.Core.Path.{◌≡◌, refl, sym, ◌∙◌, ap}
use mathlib.Core.List.Memᴰ
use mathlib.Core.List.{List, [], ◌∷◌, ◌++◌, append_assoc}
use mathlib.Core.List.{append-nil}
use Prim.Native.Nat.{ℕ, zero, suc, ◌+◌, ◌-◌, ◌<◌, ◌≤◌}
use native.Mathlib.Omega.{arith}
use lib.ListN.{length, length-append}
use Rattle.words.specs.Lists.{◌among◌}
use Rattle.words.specs.Words.{Word, Begins}
use Rattle.words.proofs.Common.{begins, begins-head, begins-not, begins-tail, begins-trans}
use Rattle.words.proofs.Ordered.{rises-one}
use Rattle.meaning.specs.Trails.{Trail, ground, over, height, Link, on, link_of, links, link_key}
use Rattle.meaning.proofs.Trails.{Under, same, more, under-height}
use Rattle.session_meaning.specs.Sessions.{Apart, Lies, RisesByLink, Entry, entry, Session, Has, Spells, Waits}
use Rattle.session_meaning.specs.Sessions.{AllBegin}
use Rattle.session_meaning.specs.Sessions.{stands_on}
use Rattle.session_meaning.specs.Soundly.{pieces_on}
use Rattle.session_meaning.proofs.Tests.{apart-exact, apart_some, on-pieces}

-- the pieces from the top of a trail up to the top of one that it is the lower part of
pub data Above (S : Session) : Trail → Trail → Word → Type 0 where
  no_more : {t : Trail} → Above S t t []
  up : {q m : ℕ} {t T : Trail} {x s : Word} → Has S (link_of (over q m t)) x → Above S (over q m t) T s
      → Above S t T (x ++ s)

under-over : {q m : ℕ} (t T : Trail) → Under (over q m t) T → Under t T
under-over t T same = more same
under-over t (over q m T) (more u) = more (under-over t T u)

pub above-under : (S : Session) (t T : Trail) (s : Word) → Above S t T s → Under t T
above-under S t T s no_more = same
above-under S t T s (up h a) = under-over t T (above-under S _ T _ a)

pub above-spells : (S : Session) (t T : Trail) (o s : Word) → Spells S t o → Above S t T s → Spells S T (o ++ s)
above-spells S t T o s p no_more = rw append-nil p
above-spells S t T o s p (up {q} {m} {x = x} {s = s'} h a) =
    rw append_assoc at (above-spells S (over q m t) T (o ++ x) s' (o, x, p, h, refl) a)

above-over : (S : Session) (t U : Trail) (s : Word) (q m : ℕ) (y : Word) → Above S t U s → Has S (link_of (over q m U)) y
    → Above S t (over q m U) (s ++ y)
above-over S t U s q m y no_more h = rw (← append-nil y) (up h no_more)
above-over S t U s q m y (up {q = q'} {m = m'} {x = x} {s = s'} k a) h =
    rw append_assoc (up k (above-over S (over q' m' t) U s' q m y a h))

-- a trail goes on from its lowest pair
pub from-bottom : (S : Session) (U : Trail) (w : Word) → Spells S U w
    → (q : ℕ) × (x : Word) × (s : Word) × Has S (link_of (ground q)) x × Above S (ground q) U s × (w ≡ x ++ s)
from-bottom S (ground q) w p = (q, w, [], p, no_more, sym (append-nil w))
from-bottom S (over q m U) w p =
    let r = from-bottom S U p.0 p.2 in (
      r.0,
      r.1,
      r.2 ++ p.1,
      r.3,
      above-over S (ground r.0) U r.2 q m p.1 r.4 p.3,
      p.4 ∙ ap (λ (v : Word). v ++ p.1) r.5 ∙ append_assoc r.1 r.2 p.1,
    )

pub level-link_of : (t : Trail) → (link_of t).level ≡ height t
level-link_of (ground q) = refl
level-link_of (over q m t) = ap suc (level-link_of t)

pub has-top : (S : Session) (t : Trail) (w : Word) → Spells S t w → (x : Word) × Has S (link_of t) x
has-top S (ground q) w s = (w, s)
has-top S (over q m t) w s = (s.1, s.3)

-- a link of a trail is that of its lower part
pub links-under : (l : Link) (t : Trail) → l among links t → (s : Trail) × Under s t × (l ≡ link_of s)
links-under l (ground q) (Memᴰ.head e) = (ground q, same, e)
links-under l (ground q) (Memᴰ.tail m) = elim m [ ]
links-under l (over q n t) (Memᴰ.head e) = (over q n t, same, e)
links-under l (over q n t) (Memᴰ.tail m) = let r = links-under l t m in (r.0, more r.1, r.2)

pub under-links : (s t : Trail) → Under s t → link_of s among links t
under-links (ground q) t same = Memᴰ.head refl
under-links (over q m s) t same = Memᴰ.head refl
under-links s (over q m t) (more u) = Memᴰ.tail (under-links s t u)

-- where every link lies on a full trail, there is one
pub some-waits : (S : Session) → 1 ≤ length S.entries → Lies S → (t : Trail) × (w : Word) × Waits S t w
some-waits S n lies = go S.entries n (λ l x h. lies l x h)
  where
    go : (E : List Entry) → 1 ≤ length E
        → ((l : Link) (x : Word) → entry l x among E → (t : Trail) × (w : Word) × Waits S t w × (l among links t))
        → (t : Trail) × (w : Word) × Waits S t w
    go [] n lies = absurd (omega arith)
    go (e ∷ E) n lies = let r = lies e.link e.piece (Memᴰ.head refl) in (r.0, r.1, r.2)

-- of words that do not all begin with one byte, with one word put before each: what begins them all begins that word
pub apart-longest : (P : Word → Type 0) → (AllBegin P → ⊥) → (s₀ : Word) → P s₀ → (z o : Word)
    → ((s : Word) → P s → Begins z (o ++ s)) → Begins z o
apart-longest P f s₀ p₀ [] o all = begins o refl
apart-longest P f s₀ p₀ (b ∷ z) [] all = absurd (f (b, λ s p. begins-trans (begins z refl) (all s p)))
apart-longest P f s₀ p₀ (b ∷ z) (c ∷ o) all =
    let r = apart-longest P f s₀ p₀ z o (λ s p. begins-tail (all s p)) in
    let e = begins-head (all s₀ p₀) in
    begins r.rest (cc r.joins)

-- a full trail that goes on from `t`, and what it adds
abbrev pub GoesOn : Session → Trail → Word → Type 0
GoesOn S t s = (T : Trail) × Above S t T s × (height T ≡ S.depth)

-- a link of `S` that stands on the top of `t`
abbrev pub Stood : Session → Trail → Type 0
Stood S t = (q : ℕ) × (m : ℕ) × (y : Word) × Has S (on q m (link_of t)) y

module _ (S : Session) (rise : RisesByLink S.entries) where
  pub has_one : (l : Link) (x y : Word) → Has S l x → Has S l y → x ≡ y
  has_one l x y h k =
      ap (λ (e : Entry). e.piece)
      (rises-one (λ e. link_key e.link) S.entries rise (entry l x) (entry l y) h k refl)

  -- a trail spells one word
  pub spells_one : (t : Trail) (v w : Word) → Spells S t v → Spells S t w → v ≡ w
  spells_one (ground q) v w a b = has_one (link_of (ground q)) v w a b
  spells_one (over q m t) v w a b =
      let e = spells_one t a.0 b.0 a.2 b.2 in
      let f = has_one (link_of (over q m t)) a.1 b.1 a.3 b.3 in
      cc (a.4, b.4, e, f)

  -- a trail spells no less than the piece on its top
  pub piece-within : (t : Trail) (w x : Word) → Spells S t w → Has S (link_of t) x → length x ≤ length w
  piece-within (ground q) w x s h = let e = ap length (has_one (link_of (ground q)) x w h s) in omega arith
  piece-within (over q m t) w x s h =
      let e = ap length (has_one (link_of (over q m t)) x s.1 h s.3) in
      omega (arith, ap length s.4, length-append s.0 s.1)

-- what a lower part spells begins what the trail spells
pub spells-under : (S : Session) (t T : Trail) (w : Word) → Under t T → Spells S T w
    → (v : Word) × Spells S t v × Begins v w
spells-under S t T w same s = (w, s, begins [] (append-nil w))
spells-under S t (over q m T) w (more u) s =
    let r = spells-under S t T s.0 u s.2 in
    (r.0, r.1, begins-trans r.2 (begins s.1 (sym s.4)))

-- a link is the top of a trail that is spelled, and is not above the depth
abbrev pub TopOf : Session → Link → Type 0
TopOf S l = (s : Trail) × (v : Word) × (l ≡ link_of s) × Spells S s v × (height s ≤ S.depth)

-- a link that lies on a full trail is one
pub lies-spelled : (S : Session) → Lies S → (l : Link) (x : Word) → Has S l x → TopOf S l
lies-spelled S lies l x h =
    let r = lies l x h in
    let u = links-under l r.0 r.3 in
    let p = spells-under S u.0 r.0 r.1 u.1 r.2.spells in
    (u.0, p.0, u.2, p.1, omega (arith, under-height u.0 r.0 u.1, r.2.full))

-- where a link stands on each link below the depth
module _ (S : Session) (stood : (t : Trail) (x : Word) → Has S (link_of t) x → height t < S.depth → Stood S t) where
  -- a trail goes on to a full one
  pub goes-on : (n : ℕ) (t : Trail) (o : Word) → height t + n ≡ S.depth → Spells S t o → (s : Word) × GoesOn S t s
  goes-on zero t o e p = ([], (t, no_more, omega arith))
  goes-on (suc n) t o e p =
      let h = has-top S t o p in
      let k = stood t h.0 h.1 (omega arith) in
      let r = goes-on n (over k.0 k.1 t) (o ++ k.2) (omega arith) (o, k.2, p, k.3, refl) in
      (k.2 ++ r.0, (r.1.0, up {T = r.1.0} {s = r.0} k.3 r.1.1, r.1.2))

  -- and the top of one that is spelled lies on a full one
  pub spelled-lies : (l : Link) → TopOf S l → (t : Trail) × (w : Word) × Waits S t w × (l among links t)
  spelled-lies l p =
      let r = goes-on (S.depth - height p.0) p.0 p.1 (omega (arith, p.4)) p.3 in
      let U = r.1.0 in (
        U,
        p.1 ++ r.0,
        record { full = r.1.2; spells = above-spells S p.0 U p.1 r.0 p.3 r.1.1 },
        Memᴰ.cast p.2 (under-links p.0 U (above-under S p.0 U r.0 r.1.1)),
      )

module _ (S : Session) (apart : Apart S) where
  -- a link below the depth has a link that stands on it
  pub stood : (t : Trail) (x : Word) → Has S (link_of t) x → height t < S.depth → Stood S t
  stood t x h lt =
      let l = link_of t in
      let Y = pieces_on (stands_on l) S.entries in
      let a = (apart-exact Y (on-pieces S l)).0 (apart l x h (omega (arith, level-link_of t))) in
      let w = apart_some Y a in
      let k = (on-pieces S l w.0).1 w.1 in
      (k.0, k.1, w.0, k.2)

  -- what goes on from a trail does not all begin with one byte
  goes-apart : (n : ℕ) (t : Trail) (o : Word) → height t + n ≡ S.depth → Spells S t o → AllBegin (GoesOn S t) → ⊥
  goes-apart zero t o e p a = begins-not (a.1 [] (t, no_more, omega arith))
  goes-apart (suc n) t o e p a =
      let h = has-top S t o p in
      apart (link_of t) h.0 h.1 (omega (arith, level-link_of t)) (
        a.0,
        λ y k.
            let u = over k.0 k.1 t in
            let p' : Spells S u (o ++ y) = (o, y, p, k.2, refl) in
            let r = goes-on S stood n u (o ++ y) (omega arith) p' in
            apart-longest (GoesOn S u) (goes-apart n u (o ++ y) (omega arith) p') r.0 r.1 (a.0 ∷ []) y
            (λ s g. a.1 (y ++ s) (g.0, up k.2 g.1, g.2)),
      )

  -- what a trail spells is the longest common beginning of the waiting outputs of the full trails above it
  pub spells-longest : (t : Trail) (o z : Word) → height t ≤ S.depth → Spells S t o
      → ((T : Trail) (w : Word) → Under t T → Waits S T w → Begins z w) → Begins z o
  spells-longest t o z le p all =
      let n = S.depth - height t in
      let e : height t + n ≡ S.depth = omega arith in
      let r = goes-on S stood n t o e p in
      apart-longest (GoesOn S t) (goes-apart n t o e p) r.0 r.1 z o
      (λ s g.
      all g.0 (o ++ s) (above-under S t g.0 s g.1)
      (record { full = g.2; spells = above-spells S t g.0 o s p g.1 }))
