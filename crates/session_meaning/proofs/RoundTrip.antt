-- The round trip both ways, of sound sessions and of their bytes. Assumes nothing.
use mathlib.Core.Path.{◌≡◌, sym, ◌∙◌, ap, subst}
use mathlib.Core.Logic.{◌⊎◌, inl, inr, ◌↔◌}
use mathlib.Core.Option.{Option, none}
use mathlib.Core.List.{List}
use Prim.Native.Nat.{ℕ, ◌<◌, ◌≤◌}
use native.Mathlib.Omega.{arith}
use lib.ListN.{length, length-append}
use Rattle.words.specs.Lists.{◌among◌}
use Rattle.words.specs.Words.{Bytes}
use Rattle.words.proofs.Lists.{bytes-nil, bytes-cons}
use Rattle.meaning.specs.Table.{Table, GoodTable, edition1}
use Rattle.meaning.specs.Trails.{ground, Pair, Link, on, link_of}
use Rattle.session_meaning.specs.Sessions.{Entry, Session, Ranges, Sound, trails}
use Rattle.session_meaning.specs.Bytes.{piece_room, session_of, below_bytes, link_bytes, bytes_of, SoundBytes}
use Rattle.session_meaning.proofs.Bytes.{none-some, bytes_same}
use Rattle.session_meaning.proofs.Soundly.{Rooted, lies-rooted}
use Rattle.session_meaning.proofs.Spells.{links-under, spells-under, piece-within}
use Rattle.session_meaning.proofs.Tests.{as-has}
use Rattle.session_meaning.proofs.Listed.{trails-same}
use Rattle.meaning.specs.Living.{Place}
use Rattle.session_meaning.proofs.Encoded.{Fits, small-zeros, session-back, kept_of}

-- a session that is sound for a good table fits
module _ (T : Table) (good : GoodTable edition1 T) (S : Session) (ok : Sound T S) where
  root : (e : Entry) → e among S.entries → Rooted S e.link
  root e m = lies-rooted S ok.lies e.link e.piece m

  range : (e : Entry) → e among S.entries → Ranges T e.link
  range e m = ok.ranges e.link e.piece m

  here-small : (e : Entry) → e among S.entries → (e.link.here.state < 256) × (e.link.here.marker < 256)
  here-small e m =
      let r = range e m in
      (omega (arith, r.state, good.states.1), omega (arith, r.marker, good.markers))

  pub piece-short : (e : Entry) → e among S.entries → length e.piece ≤ piece_room
  piece-short e m =
      let r = ok.lies e.link e.piece m in
      let u = links-under e.link r.0 r.3 in
      let p = spells-under S u.0 r.0 r.1 u.1 r.2.spells in
      let h = as-has S e (link_of u.0) m u.2 in
      let a = piece-within S ok.rise u.0 p.0 e.piece p.1 h in
      let b = ap length p.2.joins in
      omega (arith, length-append p.0 p.2.rest, ok.short r.0 r.1 r.2, good.waiting_cap)

  below_none : (e : Entry) → e among S.entries → (e.link.level ≡ 0) ↔ (e.link.below ≡ none)
  below_none e m = go (root e m).1
    where
      go : (e.link ≡ link_of (ground e.link.here.state))
          ⊎ ((f : Entry) × (f among S.entries)
          × (e.link ≡ on e.link.here.state e.link.here.marker f.link))
          → (e.link.level ≡ 0) ↔ (e.link.below ≡ none)
      go (inl h) = (λ z. ap (λ (l : Link). l.below) h, λ z. ap (λ (l : Link). l.level) h)
      go (inr f) =
          let a = ap (λ (l : Link). l.level) f.2 in
          let b = ap (λ (l : Link). l.below) f.2 in
          (λ z. absurd (omega arith), λ z. absurd (none-some (sym z ∙ b)))

  link-small : (e : Entry) → e among S.entries → Bytes (link_bytes e.link)
  link-small e m =
      let h = here-small e m in
      let level : e.link.level < 256 = omega (arith, (root e m).0, ok.depth, good.depth_cap.1) in
      bytes-cons level (bytes-cons h.0 (bytes-cons h.1 (go (root e m).1)))
    where
      go : (e.link ≡ link_of (ground e.link.here.state))
          ⊎ ((f : Entry) × (f among S.entries)
          × (e.link ≡ on e.link.here.state e.link.here.marker f.link))
          → Bytes (below_bytes e.link.below)
      go (inl h) =
          subst (λ (o : Option Pair). Bytes (below_bytes o)) (sym (ap (λ (l : Link). l.below) h)) (small-zeros 2)
      go (inr f) =
          let k = here-small f.0 f.1 in
          subst (λ (o : Option Pair). Bytes (below_bytes o)) (sym (ap (λ (l : Link). l.below) f.2))
          (bytes-cons k.0 (bytes-cons k.1 bytes-nil))

  sound-fits : Fits S
  sound-fits =
      record {
        depth = omega (arith, ok.depth, good.depth_cap.1);
        count = ok.count.1;
        bytes = link-small;
        below = below_none;
        short = piece-short;
        piece = λ e m. ok.bytes e.link e.piece m;
      }

  -- the round trip from a sound session
  pub decoded : session_of (bytes_of S) ≡ S
  decoded = session-back S sound-fits

  pub encoded-sound : SoundBytes T (bytes_of S)
  encoded-sound = record { kept = kept_of S sound-fits; sound = rw decoded ok }

-- the round trip from sound bytes
pub encoded : (T : Table) → GoodTable edition1 T → (bytes : List ℕ) → SoundBytes T bytes → bytes_of (session_of bytes) ≡ bytes
encoded T good bytes ok =
    let S = session_of bytes in
    bytes_same (bytes_of S) bytes (encoded-sound T good S ok.sound).kept ok.kept (decoded T good S ok.sound)

-- sound bytes are known by the trails and waiting outputs that they stand for
pub bytes_one : (T : Table) (B C : List ℕ) → SoundBytes T B → SoundBytes T C
    → ((p : Place) → (p among trails (session_of B)) ↔ (p among trails (session_of C))) → B ≡ C
bytes_one T B C b c iff =
    bytes_same B C b.kept c.kept (trails-same T (session_of B) (session_of C) b.sound c.sound iff)
