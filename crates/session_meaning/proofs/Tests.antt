-- The tests on links and pieces say exactly what they are named for. Assumes nothing.
use mathlib.Core.Path.{◌≡◌, refl, sym, ap}
use mathlib.Core.Logic.{◌⊎◌, inl, inr, ◌↔◌}
use mathlib.Core.Bool.{Bool, true, not, false≢true}
use mathlib.Core.List.Memᴰ
use mathlib.Core.List.{List, [], ◌∷◌}
use Prim.Native.Nat.{ℕ}
use Rattle.words.specs.Lists.{◌among◌, only, Exact}
use Rattle.words.specs.Words.{Word, Begins}
use Rattle.words.specs.Order.{Side, lower, same, upper, side, Less}
use Rattle.words.proofs.Lists.{both, split, each_in, each-out, only-in, only_out}
use Rattle.words.proofs.Exact.{yes-exact, no-exact, exact-as, eqb-exact, every-exact, not-exact}
use Rattle.words.proofs.Common.{begins, begins-head, begins-not}
use Rattle.words.proofs.Ordered.{same_in, same_out, less-trans, less-side, side-lower}
use Rattle.meaning.specs.Trails.{ground, Link, on, link_of, link_key}
use Rattle.meaning.proofs.Stands.{link_key-one}
use Rattle.session_meaning.specs.Sessions.{RisesByLink, Entry, entry, Session, Has, AllBegin, on_bottom, stands_on}
use Rattle.session_meaning.specs.Soundly.{is_lower, rising, pieces_on, starts_with, all_begin}

pub bottom-exact : (k : Link) → Exact (k ≡ link_of (ground k.here.state)) (on_bottom k)
bottom-exact k =
    let l = link_of (ground k.here.state) in
    (λ e. same_in (ap link_key e), λ h. link_key-one k l (same_out (link_key k) (link_key l) h))

pub stands-exact : (l k : Link) → Exact (k ≡ on k.here.state k.here.marker l) (stands_on l k)
stands-exact l k =
    let j = on k.here.state k.here.marker l in
    (λ e. same_in (ap link_key e), λ h. link_key-one k j (same_out (link_key k) (link_key j) h))

-- an entry whose link is another has its piece on that link
pub as-has : (S : Session) (e : Entry) (l : Link) → e among S.entries → e.link ≡ l → Has S l e.piece
as-has S e l m h = Memᴰ.cast (λ i. entry (sym h i) e.piece) m

module _ (test : Link → Bool) (E : List Entry) where
  pub pieces-in : (l : Link) (x : Word) → entry l x among E → test l ≡ true → x among pieces_on test E
  pieces-in l x m t = each_in (λ e. only (test e.link) e.piece) E m (only-in t)

  pub pieces-out : {x : Word} → x among pieces_on test E → (l : Link) × (entry l x among E) × (test l ≡ true)
  pieces-out {x} m =
      let y = each-out (λ e. only (test e.link) e.piece) E m in
      let o = only_out (test y.0.link) y.2 in
      (y.0.link, Memᴰ.cast (λ i. entry y.0.link (o.1 i)) y.1, o.0)

starts-exact : (b : ℕ) (w : Word) → Exact (Begins (b ∷ []) w) (starts_with b w)
starts-exact b [] = no-exact begins-not
starts-exact b (c ∷ w) =
    exact-as (λ e. begins w (ap (λ (z : ℕ). z ∷ w) e), λ h. begins-head h) (eqb-exact b c)

all-exact : (l : List Word) → Exact (AllBegin (λ w. w among l)) (all_begin l)
all-exact [] = yes-exact (0, λ w m. elim m [ ])
all-exact ([] ∷ l) = no-exact (λ a. begins-not (a.1 [] (Memᴰ.head refl)))
all-exact ((b ∷ w) ∷ l) = exact-as (to, fro) (every-exact l (λ v m. starts-exact b v))
  where
    to : ((v : Word) → v among l → Begins (b ∷ []) v) → AllBegin (λ v. v among (b ∷ w) ∷ l)
    to h = (b, λ v m. go v (Memᴰ.cases_cons m))
      where
        go : (v : Word) → (v ≡ b ∷ w) ⊎ (v among l) → Begins (b ∷ []) v
        go v (inl e) = begins w (sym e)
        go v (inr m) = h v m

    fro : AllBegin (λ v. v among (b ∷ w) ∷ l) → (v : Word) → v among l → Begins (b ∷ []) v
    fro a v m = rw (begins-head (a.1 (b ∷ w) (Memᴰ.head refl))) at (a.1 v (Memᴰ.tail m))

-- what holds of the words of a kind holds of another kind with the same words
pub all-as : {P Q : Word → Type 0} → ((w : Word) → Q w → P w) → AllBegin P → AllBegin Q
all-as f a = (a.0, λ w q. a.1 w (f w q))

-- pieces of a kind, listed, have no common first byte
pub apart-exact : {P : Word → Type 0} (l : List Word) → ((w : Word) → P w ↔ (w among l))
    → Exact (AllBegin P → ⊥) (not (all_begin l))
apart-exact {P} l f =
    not-exact (exact-as (all-as (λ w p. (f w).0 p), all-as (λ w m. (f w).1 m)) (all-exact l))

-- then there is one
pub apart_some : (l : List Word) → not (all_begin l) ≡ true → (w : Word) × (w among l)
apart_some [] h = absurd (false≢true h)
apart_some (w ∷ l) h = (w, Memᴰ.head refl)

module _ (S : Session) where
  -- the pieces on the links that stand on a pair, and on those with nothing below
  pub on-pieces : (l : Link) (y : Word)
      → ((q : ℕ) × (m : ℕ) × Has S (on q m l) y) ↔ (y among pieces_on (stands_on l) S.entries)
  on-pieces l y = (
    λ h.
        let k = on h.0 h.1 l in
        pieces-in (stands_on l) S.entries k y h.2 ((stands-exact l k).0 refl),
    λ m.
        let o = pieces-out (stands_on l) S.entries m in
        (o.0.here.state, o.0.here.marker, as-has S (entry o.0 y) _ o.1 ((stands-exact l o.0).1 o.2)),
  )

  pub bottom-pieces : (y : Word) → ((q : ℕ) × Has S (link_of (ground q)) y) ↔ (y among pieces_on on_bottom S.entries)
  bottom-pieces y = (
    λ h.
        let k = link_of (ground h.0) in
        pieces-in on_bottom S.entries k y h.1 ((bottom-exact k).0 refl),
    λ m.
        let o = pieces-out on_bottom S.entries m in
        (o.0.here.state, as-has S (entry o.0 y) _ o.1 ((bottom-exact o.0).1 o.2)),
  )

lower-out : (s : Side) → is_lower s ≡ true → s ≡ lower
lower-out lower h = refl
lower-out same h = absurd (false≢true h)
lower-out upper h = absurd (false≢true h)

rising-out : (E : List Entry) → rising E ≡ true → RisesByLink E
rising-out [] t = tt
rising-out (e ∷ []) t = (λ y m. elim m [ ], tt)
rising-out (e ∷ f ∷ E) t =
    let s = split (is_lower (side (link_key e.link) (link_key f.link))) (rising (f ∷ E)) t in
    let r = rising-out (f ∷ E) s.1 in
    let k = side-lower (link_key e.link) (link_key f.link) (lower-out _ s.0) in
    (λ y m. go y k r.0 (Memᴰ.cases_cons m), r)
  where
    go : (y : Entry) → Less (link_key e.link) (link_key f.link)
        → ((y : Entry) → y among E → Less (link_key f.link) (link_key y.link))
        → (y ≡ f) ⊎ (y among E) → Less (link_key e.link) (link_key y.link)
    go y k r (inl d) = rw d k
    go y k r (inr m) = less-trans (link_key e.link) (link_key f.link) (link_key y.link) k (r y m)

rising-in : (E : List Entry) → RisesByLink E → rising E ≡ true
rising-in [] r = refl
rising-in (e ∷ []) r = refl
rising-in (e ∷ f ∷ E) r =
    both (ap is_lower (less-side (link_key e.link) (link_key f.link) (r.0 f (Memᴰ.head refl))))
    (rising-in (f ∷ E) r.1)

pub rising-exact : (E : List Entry) → Exact (RisesByLink E) (rising E)
rising-exact E = (rising-in E, rising-out E)
