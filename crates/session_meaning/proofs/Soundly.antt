-- The test of soundness passes exactly for sound sessions. Assumes nothing.
use mathlib.Core.Path.{◌≡◌, refl, sym, ◌∙◌, ap}
use mathlib.Core.Logic.{◌⊎◌, inl, inr, ◌↔◌}
use mathlib.Core.Bool.{Bool}
use mathlib.Core.List.{[], ◌∷◌, ◌++◌}
use Prim.Native.Nat.{ℕ, zero, suc, ◌<◌, ◌≤◌}
use native.Mathlib.Nat.{eq-or-lt_of_le}
use native.Mathlib.Omega.{arith}
use lib.ListN.{length}
use Rattle.words.specs.Lists.{◌among◌, every, Exact}
use Rattle.words.specs.Words.{Word, Bytes}
use Rattle.words.proofs.Common.{begins, begins-trans}
use Rattle.words.proofs.Exact.{exact-as, and-exact, then-exact, or-exact, if-exact, every-exact, any-exact, eqb-exact}
use Rattle.words.proofs.Exact.{ltb-exact, leb-exact}
use Rattle.meaning.specs.Table.{Table}
use Rattle.meaning.specs.Trails.{Trail, ground, over, Link, on, link_of}
use Rattle.meaning.specs.Answers.{links_cap}
use Rattle.session_meaning.specs.Sessions.{Apart, Lies, RisesByLink, Entry, entry, Session, Has, Spells, Waits}
use Rattle.session_meaning.specs.Sessions.{AllBegin}
use Rattle.session_meaning.specs.Sessions.{Ranges, Sound, on_bottom, stands_on}
use Rattle.session_meaning.specs.Soundly.{in_ranges, rooted, pieces_on, carries, longest, in_bytes, soundly}
use Rattle.session_meaning.proofs.Tests.{bottom-exact, stands-exact, as-has, apart-exact, on-pieces}
use Rattle.session_meaning.proofs.Tests.{bottom-pieces}
use Rattle.session_meaning.proofs.Tests.{rising-exact}
use Rattle.session_meaning.proofs.Spells.{from-bottom, level-link_of, has-top, lies-spelled, spelled-lies, stood}
use Rattle.session_meaning.proofs.Spells.{some-waits, spells-longest}
use Rattle.session_meaning.proofs.Loads.{waits-longest, longest-waits}

ranges-exact : (T : Table) (l : Link) → Exact (Ranges T l) (in_ranges T l)
ranges-exact T l =
    let m = eqb-exact l.here.marker 0 in
    let n = eqb-exact l.level 0 in
    exact-as (
      λ h. record { state = h.0; marker = h.1.0; zero = (h.1.1.0, h.1.1.1) },
      λ r. (r.state, (r.marker, (r.zero.0, r.zero.1))),
    )
    (and-exact (ltb-exact l.here.state T.states)
    (and-exact (leb-exact l.here.marker T.markers) (and-exact (if-exact m n) (if-exact n m))))

-- for all links with their pieces
has-exact : (S : Session) {P : Link → Word → Type 0} (f : Entry → Bool)
    → ((l : Link) (x : Word) → Has S l x → Exact (P l x) (f (entry l x)))
    → Exact ((l : Link) (x : Word) → Has S l x → P l x) (every f S.entries)
has-exact S f e =
    exact-as (λ h l x m. h (entry l x) m, λ h e m. h e.link e.piece m)
    (every-exact S.entries (λ y m. e y.link y.piece m))

-- a link is within the depth, and lowest or on one that is there
abbrev pub Rooted : Session → Link → Type 0
Rooted S l =
    (l.level ≤ S.depth)
    × ((l ≡ link_of (ground l.here.state))
    ⊎ ((f : Entry) × (f among S.entries) × (l ≡ on l.here.state l.here.marker f.link)))

rooted-exact : (S : Session) (l : Link) → Exact (Rooted S l) (rooted S l)
rooted-exact S l =
    and-exact (leb-exact l.level S.depth)
    (or-exact (bottom-exact l) (any-exact S.entries (λ f m. stands-exact f.link l)))

carries-exact : (S : Session) (l : Link) → l.level ≤ S.depth
    → Exact (l.level < S.depth → AllBegin (λ y. (q : ℕ) × (m : ℕ) × Has S (on q m l) y) → ⊥) (carries S l)
carries-exact S l le =
    exact-as (to, λ h. fro h (eq-or-lt_of_le le))
    (or-exact (eqb-exact l.level S.depth) (apart-exact (pieces_on (stands_on l) S.entries) (on-pieces S l)))
  where
    All : Type 0
    All = AllBegin (λ y. (q : ℕ) × (m : ℕ) × Has S (on q m l) y)

    to : (l.level ≡ S.depth) ⊎ (All → ⊥) → l.level < S.depth → All → ⊥
    to (inl e) lt a = absurd (omega arith)
    to (inr f) lt a = f a

    fro : (l.level < S.depth → All → ⊥) → (l.level ≡ S.depth) ⊎ (l.level < S.depth)
        → (l.level ≡ S.depth) ⊎ (All → ⊥)
    fro h (inl e) = inl e
    fro h (inr lt) = inr (h lt)

pub lies-rooted : (S : Session) → Lies S → (l : Link) (x : Word) → Has S l x → Rooted S l
lies-rooted S lies l x h =
    let p = lies-spelled S lies l x h in
    rw p.2 (omega (arith, level-link_of p.0, p.4), go p.0 p.1 p.3)
  where
    go : (s : Trail) (v : Word) → Spells S s v
        → (link_of s ≡ link_of (ground (link_of s).here.state))
        ⊎ ((f : Entry) × (f among S.entries)
        × (link_of s ≡ on (link_of s).here.state (link_of s).here.marker f.link))
    go (ground q) v p = inl refl
    go (over q m s) v p = let t = has-top S s p.0 p.2 in inr (entry (link_of s) t.0, t.1, refl)

module _ (S : Session) (roots : (l : Link) (x : Word) → Has S l x → Rooted S l) where
  -- a link is that of a trail
  abbrev Spelled : Link → Type 0
  Spelled l = (s : Trail) × (v : Word) × (l ≡ link_of s) × Spells S s v

  down : (n : ℕ) (l : Link) (x : Word) → l.level ≡ n → Has S l x → Spelled l
  down zero l x d h = go (roots l x h).1
    where
      go : (l ≡ link_of (ground l.here.state))
          ⊎ ((f : Entry) × (f among S.entries) × (l ≡ on l.here.state l.here.marker f.link)) → Spelled l
      go (inl e) = (ground l.here.state, x, e, as-has S (entry l x) _ h e)
      go (inr f) = let c = ap (λ (k : Link). k.level) f.2 in absurd (omega arith)
  down (suc n) l x d h = go (roots l x h).1 (λ k y e m. down n k y e m)
    where
      go : (l ≡ link_of (ground l.here.state))
          ⊎ ((f : Entry) × (f among S.entries) × (l ≡ on l.here.state l.here.marker f.link))
          → ((k : Link) (y : Word) → k.level ≡ n → Has S k y → Spelled k) → Spelled l
      go (inl e) ih = let c = ap (λ (k : Link). k.level) e in absurd (omega arith)
      go (inr f) ih =
          let b = ap (λ (k : Link). k.level) f.2 in
          let p = ih f.0.link f.0.piece (omega arith) f.1 in
          let e = f.2 ∙ ap (on l.here.state l.here.marker) p.2 in (
            over l.here.state l.here.marker p.0,
            p.1 ++ x,
            e,
            (p.1, x, p.3, as-has S (entry l x) _ h e, refl),
          )

  pub rooted-lies : Apart S → Lies S
  rooted-lies apart l x h =
      let s = down l.level l x refl h in
      let a = ap (λ (k : Link). k.level) s.2 in
      let b = (roots l x h).0 in
      spelled-lies S (stood S apart) l (s.0, s.1, s.2, s.3, omega (arith, level-link_of s.0))

-- "the waiting outputs have no common first byte": the pieces at level 0 have none
pub bottom-lowest : (S : Session) → Apart S
    → (AllBegin (λ y. (q : ℕ) × Has S (link_of (ground q)) y) → ⊥) ↔ (AllBegin (λ w. (t : Trail) × Waits S t w) → ⊥)
bottom-lowest S apart = (λ n a. n (lowest-all a), λ n a. n (waiting-all a))
  where
    lowest-all : AllBegin (λ w. (t : Trail) × Waits S t w) → AllBegin (λ y. (q : ℕ) × Has S (link_of (ground q)) y)
    lowest-all a = (
      a.0,
      λ y h.
          spells-longest S apart (ground h.0) y (a.0 ∷ []) (omega arith) h.1 (λ U w u p. a.1 w (U, p)),
    )

    waiting-all : AllBegin (λ y. (q : ℕ) × Has S (link_of (ground q)) y) → AllBegin (λ w. (t : Trail) × Waits S t w)
    waiting-all a = (
      a.0,
      λ w h.
          let r = from-bottom S h.0 w h.1.spells in
          begins-trans (a.1 r.1 (r.0, r.3)) (begins r.2 (sym r.5)),
    )

-- "no trail's waiting output is longer than the cap": the longest is not
pub short-longest : (S : Session) → RisesByLink S.entries → Apart S → Lies S → 1 ≤ length S.entries → (n : ℕ)
    → (longest S.entries ≤ n) ↔ ((t : Trail) (w : Word) → Waits S t w → length w ≤ n)
short-longest S rise apart lies some n = (
  λ le t w h. omega (arith, waits-longest S rise t w h.spells),
  λ all.
      let w = some-waits S some lies in
      let r =
      longest-waits S rise apart (λ l x h. (lies-rooted S lies l x h).0) w.0 w.1 w.2.spells in
      omega (arith, all r.0 r.1 r.2, r.3),
)

bytes-exact : (w : Word) → Exact (Bytes w) (in_bytes w)
bytes-exact w = every-exact w (λ b m. ltb-exact b 256)

-- the test says exactly whether a session is sound
pub soundly-exact : (T : Table) (S : Session) → Exact (Sound T S) (soundly T S)
soundly-exact T S =
    exact-as (
      λ h.
          let a = h.1.1.1 in
          let roots = a.1.1.0 in
          let apart = a.1.1.1.0 in
          record {
            depth = h.0;
            count = (h.1.0, h.1.1.0);
            ranges = a.0;
            lies = rooted-lies S roots apart;
            short = a.1.1.1.1.1.0;
            bottom = a.1.1.1.1.0;
            rise = a.1.0;
            apart = apart;
            bytes = a.1.1.1.1.1.1;
          },
      λ s. (
        s.depth,
        (
          s.count.0,
          (
            s.count.1,
            (s.ranges, (s.rise, (lies-rooted S s.lies, (s.apart, (s.bottom, (s.short, s.bytes)))))),
          ),
        ),
      ),
    )
    (then-exact (leb-exact S.depth T.depth_cap)
    (λ d.
    then-exact (leb-exact 1 (length S.entries))
    (λ some.
    then-exact (leb-exact (length S.entries) links_cap)
    (λ few.
    then-exact (has-exact S (λ e. in_ranges T e.link) (λ l x h. ranges-exact T l))
    (λ ranges.
    then-exact (rising-exact S.entries)
    (λ rise.
    then-exact (has-exact S (λ e. rooted S e.link) (λ l x h. rooted-exact S l))
    (λ roots.
    then-exact (has-exact S (λ e. carries S e.link) (λ l x h. carries-exact S l (roots l x h).0))
    (λ apart.
    let lies = rooted-lies S roots apart in
    let waiting = leb-exact (longest S.entries) T.waiting_cap in
    and-exact (exact-as (bottom-lowest S apart) (apart-exact (pieces_on on_bottom S.entries) (bottom-pieces S)))
    (and-exact (exact-as (short-longest S rise apart lies some T.waiting_cap) waiting)
    (has-exact S (λ e. in_bytes e.piece) (λ l x h. bytes-exact x)))))))))))
