-- Soundness of bytes, rule by rule as the code looks at them: by links' numbers and first bytes. Assumes nothing.
use mathlib.Core.Path.{◌≡◌, refl, sym, ◌∙◌, ap, subst}
use mathlib.Core.Logic.{◌⊎◌, ◌↔◌, inl, inr}
use mathlib.Core.Bool.{false}
use mathlib.Core.List.Memᴰ
use mathlib.Core.List.{List, [], ◌∷◌}
use Prim.Native.Nat.{ℕ, zero, suc, ◌+◌, ◌<◌, ◌≤◌}
use native.Mathlib.Nat.{eq-or-lt_of_le, eq-zero-or-pos, add-zero}
use native.Mathlib.Omega.{arith}
use lib.ListN.{length, get_or, get_or-eq_default}
use Rattle.words.specs.Lists.{◌among◌, up_to, Exact}
use Rattle.words.specs.Words.{Word, Bytes, Begins}
use Rattle.words.proofs.Lists.{up_to-in, up_to-out, below_or, get_or-byte, byte-get_or}
use Rattle.words.proofs.Exact.{no-exact}
use Rattle.words.proofs.Common.{begins, begins-head, begins-not}
use Rattle.words.proofs.Ordered.{rises-in, rises-out}
use Rattle.words.specs.LittleEndian.{byte}
use Rattle.meaning.specs.Table.{Table}
use Rattle.meaning.specs.Trails.{ground, Link, on, link_of, link_key}
use Rattle.meaning.specs.Answers.{links_cap}
use Rattle.session_meaning.specs.Sessions.{Entry, entry, Session, Has, AllBegin, Ranges, Lies, Apart, RisesByLink}
use Rattle.session_meaning.specs.Sessions.{Sound}
use Rattle.session_meaning.specs.Soundly.{longest}
use Rattle.session_meaning.specs.Bytes.{piece_start, size, link_count, length_at, link_at, piece_at, entry_at}
use Rattle.session_meaning.specs.Bytes.{session_of}
use Rattle.session_meaning.specs.Bytes.{Unused}
use Rattle.session_meaning.specs.Bytes.{Kept, SoundBytes}
use Rattle.session_meaning.specs.Numbers.{Lent, seat_at, foot_at, key_at, head_at, LinkFits, Links, RootedAt, Common}
use Rattle.session_meaning.specs.Numbers.{CarriesAt, Grouped}
use Rattle.session_meaning.proofs.Tests.{all-as}
use Rattle.session_meaning.proofs.Soundly.{Rooted, lies-rooted, rooted-lies, bottom-lowest, short-longest}
use Rattle.session_meaning.proofs.Bytes.{counted, long, in-piece}
use Rattle.session_meaning.proofs.Passed.{head-empty, head_first}
use Rattle.session_meaning.proofs.Feet.{foot-bottom, foot-stands}
use Rattle.session_meaning.proofs.Keys.{key-rises}

-- what the code looks at
pub record ByPlace (T : Table) (bytes : List ℕ) : Type 0 where
  pub depth : byte bytes 0 ≤ T.depth_cap
  pub count : (1 ≤ link_count bytes) × (link_count bytes ≤ links_cap)
  pub links : Links T bytes
  pub groups : Grouped bytes
  pub waiting : longest (session_of bytes).entries ≤ T.waiting_cap
  pub unused : Unused bytes

-- the entries of a session are those at its places
module _ (bytes : List ℕ) where
  abbrev S : Session
  S = session_of bytes

  pub has-at : (i : ℕ) → i < link_count bytes → Has S (link_at bytes i) (piece_at bytes i)
  has-at i l = Memᴰ.map (entry_at bytes) (up_to-in (link_count bytes) i l)

  pub at_has : (l : Link) (x : Word) → Has S l x → (i : ℕ) × (i < link_count bytes) × (entry_at bytes i ≡ entry l x)
  at_has l x h =
      let o = Memᴰ.of_map (entry_at bytes) (up_to (link_count bytes)) h in
      (o.0, up_to-out (link_count bytes) o.0 o.1, o.2)

  -- a rule for all links with their pieces is one for all places
  places-all : (P : Entry → Type 0)
      → ((l : Link) (x : Word) → Has S l x → P (entry l x)) ↔ ((i : ℕ) → i < link_count bytes → P (entry_at bytes i))
  places-all P = (
    λ h i l. h (link_at bytes i) (piece_at bytes i) (has-at i l),
    λ h l x m. let o = at_has l x m in subst P o.2 (h o.0 o.1),
  )

-- a word begins with a byte
begins-first : (b : ℕ) (w : Word) → Begins (b ∷ []) w ↔ ((0 < length w) × (get_or w 0 0 ≡ b))
begins-first b [] = (λ h. absurd (begins-not h), λ h. absurd (omega (arith, h.0)))
begins-first b (c ∷ w) =
    (λ h. (omega arith, sym (begins-head h)), λ h. begins w (ap (λ (z : ℕ). z ∷ w) (sym h.1)))

module _ (T : Table) (bytes : List ℕ) (whole : length bytes ≡ size) (small : Bytes bytes)
    (few : link_count bytes ≤ links_cap) (links : Links T bytes) where
  -- the first byte of a piece
  head-begins : (b j : ℕ) → j < link_count bytes
      → ((head_at bytes j ≡ b) × (b < 256)) ↔ Begins (b ∷ []) (piece_at bytes j)
  head-begins b j l = go (eq-zero-or-pos (length_at bytes j))
    where
      n : length (piece_at bytes j) ≡ length_at bytes j
      n = long bytes whole few j l (links.fit j l).short

      first : 0 < length_at bytes j → get_or (piece_at bytes j) 0 0 ≡ byte bytes (piece_start j)
      first p = in-piece bytes j 0 p ∙ ap (byte bytes) (add-zero (piece_start j))

      go : (length_at bytes j ≡ 0) ⊎ (0 < length_at bytes j)
          → ((head_at bytes j ≡ b) × (b < 256)) ↔ Begins (b ∷ []) (piece_at bytes j)
      go (inl e) = (
        λ h. absurd (omega (arith, h.0, h.1, head-empty bytes j e)),
        λ h. absurd (omega (arith, n, ((begins-first b (piece_at bytes j)).0 h).0)),
      )
      go (inr p) =
          let f = head_first bytes j (λ e. omega arith) in (
            λ h. (begins-first b (piece_at bytes j)).1 (omega (arith, n), first p ∙ sym f ∙ h.0),
            λ h.
                let g = ((begins-first b (piece_at bytes j)).0 h).1 in
                let e = f ∙ sym (first p) ∙ g in
                (e, omega (arith, f, get_or-byte bytes small (piece_start j))),
          )

  -- the pieces on the links with one foot
  abbrev On : ℕ → Word → Type 0
  On foot y = (j : ℕ) × (j < link_count bytes) × (foot_at bytes j ≡ foot) × (piece_at bytes j ≡ y)

  common-all : (foot : ℕ) → Common bytes foot ↔ AllBegin (On foot)
  common-all foot = (
    λ c. (
      c.0,
      λ y o.
          subst (Begins (c.0 ∷ [])) o.3 ((head-begins c.0 o.0 o.1).0 (c.1 o.0 o.1 o.2)),
    ),
    λ a. (a.0, λ j l e. (head-begins a.0 j l).1 (a.1 (piece_at bytes j) (j, l, e, refl))),
  )

  -- a link at a place with another's piece
  as_at : (j : ℕ) (k : Link) (y : Word) → j < link_count bytes → link_at bytes j ≡ k → piece_at bytes j ≡ y
      → Has (S bytes) k y
  as_at j k y l e f = Memᴰ.cast (λ i. entry (sym e i) (sym f i)) (has-at bytes j l)

  on-seat : (i : ℕ) (y : Word) → ((q : ℕ) × (m : ℕ) × Has (S bytes) (on q m (link_at bytes i)) y) ↔ On (seat_at bytes i) y
  on-seat i y = (
    λ h.
        let o = at_has bytes (on h.0 h.1 (link_at bytes i)) y h.2 in
        let e = ap (λ (e : Entry). e.link) o.2 in
        let f = e ∙ sym (ap (λ (l : Link). on l.here.state l.here.marker (link_at bytes i)) e) in
        (o.0, o.1, (foot-stands bytes small i o.0).1 f, ap (λ (e : Entry). e.piece) o.2),
    λ o.
        let e = (foot-stands bytes small i o.0).0 o.2 in
        ((link_at bytes o.0).here.state, (link_at bytes o.0).here.marker, as_at o.0 _ y o.1 e o.3),
  )

  foot-lowest : (i : ℕ) → i < link_count bytes
      → (foot_at bytes i ≡ 0) ↔ (link_at bytes i ≡ link_of (ground (link_at bytes i).here.state))
  foot-lowest i l = foot-bottom bytes i (links.fit i l).ranges.zero.1 (links.fit i l).below

  on-ground : (y : Word) → ((q : ℕ) × Has (S bytes) (link_of (ground q)) y) ↔ On 0 y
  on-ground y = (
    λ h.
        let o = at_has bytes (link_of (ground h.0)) y h.1 in
        let e = ap (λ (e : Entry). e.link) o.2 in
        let f = e ∙ sym (ap (λ (l : Link). link_of (ground l.here.state)) e) in
        (o.0, o.1, (foot-lowest o.0 o.1).1 f, ap (λ (e : Entry). e.piece) o.2),
    λ o.
        let e = (foot-lowest o.0 o.1).0 o.2 in
        ((link_at bytes o.0).here.state, as_at o.0 _ y o.1 e o.3),
  )

  -- "no common first byte", of links on a pair and at level 0
  apart-seat : (i : ℕ)
      → (Common bytes (seat_at bytes i) → ⊥)
      ↔ (AllBegin (λ y. (q : ℕ) × (m : ℕ) × Has (S bytes) (on q m (link_at bytes i)) y) → ⊥)
  apart-seat i = (
    λ n a. n ((common-all (seat_at bytes i)).1 (all-as (λ y o. (on-seat i y).1 o) a)),
    λ n c. n (all-as (λ y h. (on-seat i y).0 h) ((common-all (seat_at bytes i)).0 c)),
  )

  apart-ground : (Common bytes 0 → ⊥) ↔ (AllBegin (λ y. (q : ℕ) × Has (S bytes) (link_of (ground q)) y) → ⊥)
  apart-ground = (
    λ n a. n ((common-all 0).1 (all-as (λ y o. (on-ground y).1 o) a)),
    λ n c. n (all-as (λ y h. (on-ground y).0 h) ((common-all 0).0 c)),
  )

  -- a link is at level 0 or stands on one that is there
  rooted-at : (i : ℕ) → i < link_count bytes → RootedAt bytes i ↔ Rooted (S bytes) (link_at bytes i)
  rooted-at i l = (λ r. ((links.fit i l).level, to r), λ r. fro r.1)
    where
      k : Link
      k = link_at bytes i

      to : RootedAt bytes i
          → (k ≡ link_of (ground k.here.state))
          ⊎ ((f : Entry) × (f among (S bytes).entries) × (k ≡ on k.here.state k.here.marker f.link))
      to (inl e) = inl ((foot-lowest i l).0 e)
      to (inr f) =
          inr (entry_at bytes f.0, has-at bytes f.0 f.1, (foot-stands bytes small f.0 i).0 (sym f.2))

      fro : (k ≡ link_of (ground k.here.state))
          ⊎ ((f : Entry) × (f among (S bytes).entries) × (k ≡ on k.here.state k.here.marker f.link))
          → RootedAt bytes i
      fro (inl e) = inl ((foot-lowest i l).1 e)
      fro (inr f) =
          let o = at_has bytes f.0.link f.0.piece f.1 in
          let e = f.2 ∙ ap (λ (e : Entry). on k.here.state k.here.marker e.link) (sym o.2) in
          inr (o.0, o.1, sym ((foot-stands bytes small o.0 i).1 e))

-- numbers that rise from each to the next rise
pub all-rise : (K : ℕ → ℕ) (n : ℕ) → ((i : ℕ) → i + 1 < n → K i < K (i + 1)) → (i j : ℕ) → i < j → j < n → K i < K j
all-rise K n h i zero l k = absurd (omega arith)
all-rise K n h i (suc j) l k =
    let e : j + 1 ≡ suc j = omega arith in
    go (eq-or-lt_of_le (omega arith)) (λ m. all-rise K n h i j m (omega arith))
    (subst (λ (m : ℕ). K j < K m) e (h j (omega arith)))
  where
    go : (i ≡ j) ⊎ (i < j) → (i < j → K i < K j) → K j < K (suc j) → K i < K (suc j)
    go (inl e) ih s = rw e s
    go (inr m) ih s = let t = ih m in omega arith

module _ (T : Table) (bytes : List ℕ) (whole : length bytes ≡ size) (small : Bytes bytes) where
  -- the code's rules hold of sound bytes
  module _ (s : SoundBytes T bytes) where
    abbrev kept : Kept bytes
    kept = s.kept

    abbrev sound : Sound T (S bytes)
    sound = s.sound

    root-at : (i : ℕ) → i < link_count bytes → Rooted (S bytes) (link_at bytes i)
    root-at i l = lies-rooted (S bytes) sound.lies (link_at bytes i) (piece_at bytes i) (has-at bytes i l)

    links-of : Links T bytes
    links-of =
        record {
          fit = λ i l.
              record {
                level = (root-at i l).0;
                ranges = sound.ranges (link_at bytes i) (piece_at bytes i) (has-at bytes i l);
                below = kept.below i l;
                short = kept.short i l;
              };
          rise = λ i l.
              (key-rises bytes small i (i + 1) (kept.below i (omega arith)) (kept.below (i + 1) l)).1
              (rises-out (λ e. link_key e.link) (entry_at bytes) (link_count bytes) sound.rise i (i + 1)
              (omega arith) l);
        }

    carries-of : (i : ℕ) → i < link_count bytes → CarriesAt bytes i
    carries-of i l = go (eq-or-lt_of_le (root-at i l).0)
      where
        go : ((link_at bytes i).level ≡ byte bytes 0) ⊎ ((link_at bytes i).level < byte bytes 0) → CarriesAt bytes i
        go (inl e) = inl e
        go (inr h) =
            inr ((apart-seat T bytes whole small kept.count links-of i).1
            (sound.apart (link_at bytes i) (piece_at bytes i) (has-at bytes i l) h))

    some_of : 1 ≤ length (S bytes).entries
    some_of = sound.count.0

    sound-places : ByPlace T bytes
    sound-places =
        record {
          depth = sound.depth;
          count = (omega (arith, some_of, counted bytes), kept.count);
          links = links-of;
          groups = record {
            bottom =
                (apart-ground T bytes whole small kept.count links-of).1
                ((bottom-lowest (S bytes) sound.apart).1 sound.bottom);
            rooted = λ i l. (rooted-at T bytes whole small kept.count links-of i l).1 (root-at i l);
            carries = carries-of;
          };
          waiting =
              (short-longest (S bytes) sound.rise sound.apart sound.lies some_of T.waiting_cap).1
              sound.short;
          unused = kept.unused;
        }

  -- bytes for which the code's rules hold are sound
  module _ (p : ByPlace T bytes) where
    few-of : link_count bytes ≤ links_cap
    few-of = p.count.1

    fits : (i : ℕ) → i < link_count bytes → LinkFits T bytes i
    fits i l = p.links.fit i l

    roots : (l : Link) (x : Word) → Has (S bytes) l x → Rooted (S bytes) l
    roots =
        (places-all bytes (λ e. Rooted (S bytes) e.link)).1
        (λ i l. (rooted-at T bytes whole small few-of p.links i l).0 (p.groups.rooted i l))

    apart_of : Apart (S bytes)
    apart_of =
        (places-all bytes
        (λ e.
        e.link.level < byte bytes 0 → AllBegin (λ y. (q : ℕ) × (m : ℕ) × Has (S bytes) (on q m e.link) y) → ⊥)
        ).1 (λ i l h. go i (p.groups.carries i l) h)
      where
        go : (i : ℕ) → CarriesAt bytes i → (link_at bytes i).level < byte bytes 0
            → AllBegin (λ y. (q : ℕ) × (m : ℕ) × Has (S bytes) (on q m (link_at bytes i)) y) → ⊥
        go i (inl e) h a = omega arith
        go i (inr n) h a = (apart-seat T bytes whole small few-of p.links i).0 n a

    lies-of : Lies (S bytes)
    lies-of = rooted-lies (S bytes) roots apart_of

    rise-of : RisesByLink (S bytes).entries
    rise-of =
        rises-in (λ e. link_key e.link) (entry_at bytes) (link_count bytes)
        (λ i j l k.
        (key-rises bytes small i j (fits i (omega arith)).below (fits j k).below).0
        (all-rise (key_at bytes) (link_count bytes) p.links.rise i j l k))

    bytes-of : (i : ℕ) → i < link_count bytes → Bytes (piece_at bytes i)
    bytes-of i l = byte-get_or (piece_at bytes i) (λ k. go k (below_or k (length_at bytes i)))
      where
        go : (k : ℕ) → (k < length_at bytes i) ⊎ (length_at bytes i ≤ k) → get_or (piece_at bytes i) k 0 < 256
        go k (inl h) = rw (in-piece bytes i k h) (get_or-byte bytes small (piece_start i + k))
        go k (inr h) =
            let n = long bytes whole few-of i l (fits i l).short in
            let m : length (piece_at bytes i) ≤ k = omega arith in
            rw (get_or-eq_default (piece_at bytes i) 0 m) (omega arith)

    some_at : 1 ≤ length (S bytes).entries
    some_at = omega (arith, p.count.0, counted bytes)

    places-sound : SoundBytes T bytes
    places-sound =
        record {
          kept = record {
            whole = whole;
            small = small;
            count = few-of;
            below = λ i l. (fits i l).below;
            short = λ i l. (fits i l).short;
            unused = p.unused;
          };
          sound = record {
            depth = p.depth;
            count = (some_at, omega (arith, few-of, counted bytes));
            ranges = (places-all bytes (λ e. Ranges T e.link)).1 (λ i l. (fits i l).ranges);
            lies = lies-of;
            short = (short-longest (S bytes) rise-of apart_of lies-of some_at T.waiting_cap).0 p.waiting;
            bottom =
                (bottom-lowest (S bytes) apart_of).0
                ((apart-ground T bytes whole small few-of p.links).0 p.groups.bottom);
            rise = rise-of;
            apart = apart_of;
            bytes = (places-all bytes (λ e. Bytes e.piece)).1 bytes-of;
          };
        }

-- the code's rules are soundness
pub by_place : {T : Table} {bytes : List ℕ} → Lent bytes → ByPlace T bytes ↔ SoundBytes T bytes
by_place {T} {bytes} b = (places-sound T bytes b.whole b.small, sound-places T bytes b.whole b.small)

-- where one is broken, the answer is no
pub not_sound : {T : Table} {bytes : List ℕ} → Lent bytes → (ByPlace T bytes → ⊥) → Exact (SoundBytes T bytes) false
not_sound b n = no-exact (λ s. n ((by_place b).1 s))
