-- A step that is taken leaves a sound session, which stands for what follows, and sends what must be sent.
-- Assumes nothing.
use mathlib.Core.Path.{◌≡◌, refl, sym, ◌∙◌}
use mathlib.Core.Bool.{false}
use mathlib.Core.Logic.{◌⊎◌, inl, inr, ◌↔◌}
use mathlib.Core.List.Memᴰ
use mathlib.Core.List.{[], ◌∷◌}
use Prim.Native.Nat.{ℕ, ◌≤◌}
use native.Mathlib.Omega.{arith}
use lib.ListN.{length}
use borrow.Author.Tests.{ltb-false}
use Rattle.words.specs.Lists.{◌among◌}
use Rattle.words.specs.Words.{Word, Bytes}
use Rattle.words.proofs.Lists.{first_of, fewer}
use Rattle.meaning.specs.Table.{Table, edition1, GoodTable}
use Rattle.meaning.specs.Trails.{Link}
use Rattle.meaning.specs.Living.{Place, moved}
use Rattle.meaning.specs.Answers.{links_cap, sends, follows}
use Rattle.meaning.proofs.Tests.{Fails, fails}
use Rattle.session_meaning.specs.Sessions.{entry, Session, Has, Waits, Ranges, Sound, trails, stands}
use Rattle.session_meaning.specs.Soundly.{longest}
use Rattle.session_meaning.proofs.Spells.{has-top}
use Rattle.session_meaning.proofs.Listed.{trails-exact}
use Rattle.step_meaning.specs.Stepping.{grow, conflict, kept, shaken, stepped, sent, link_tests, link_number}
use Rattle.step_meaning.proofs.Shake.{shaken-rises, shaken-lies}
use Rattle.step_meaning.proofs.Settle.{settled-length, settled-links, settled-bytes, settled-rises, settled-lies}
use Rattle.step_meaning.proofs.Settle.{settled-apart, settled-bottom, settled-longest}
use Rattle.step_meaning.proofs.Number.{none-same, left, sent-same, waits-same}
use Rattle.step_meaning.proofs.Bounds.{deeper-within, grow-ranges, grow-bytes, shaken-cases}

-- the depth is the one that follows
pub stepped-depth : (T : Table) (S : Session) (a : ℕ) → (stepped T S a).depth ≡ (follows T (stands S) a).depth
stepped-depth T S a = refl

module _ (T : Table) (S : Session) (a : ℕ) (ok : Sound T S) (room : ℕ) (taken : link_number T room S a ≡ 0) where
  abbrev H : Session
  H = shaken (kept T S a)

  -- no test passed
  none : Fails (link_tests T room S a)
  none = fails (link_tests T room S a) refl taken

  agree : conflict [] (grow T S a) ≡ false
  agree = none.1.1.1.1.1.0

  some : (p : Place) × (p among moved T (trails S) a)
  some = first_of (moved T (trails S) a) (sym (none-same T S a ok) ∙ none.1.1.1.0)

  -- the places that wait are those that follow, and what is sent must be
  pub stepped-exact : (p : Place) → (p among trails (stepped T S a)) ↔ (p among (follows T (stands S) a).waiting)
  stepped-exact p =
      let t = trails-exact (stepped T S a) p.trail p.output in
      let w = waits-same T S a ok agree some.0 some.1 p.trail p.output in
      (λ m. w.1 (t.0 m), λ m. t.1 (w.0 m))

  pub sent-exact : sent T S a ≡ sends T (stands S) a
  sent-exact = sent-same T S a ok agree some.0 some.1

  -- what moved waits, so that there is an entry
  waiting : Waits H some.0.trail some.0.output
  waiting = (left T S a ok agree some.0.trail some.0.output).0 some.1

  one : 1 ≤ length H.entries
  one =
      let x = has-top H some.0.trail some.0.output waiting.spells in
      fewer (entry _ x.0 ∷ []) H.entries (λ m. elim m [ ], tt)
      (λ z m. Memᴰ.cast (Memᴰ.eq_of_singleton m) x.1)

  -- what is left is sound
  module _ (good : GoodTable edition1 T) where
    ranges : (l : Link) (x : Word) → Has H l x → Ranges T l
    ranges l x h = go (shaken-cases T S a (entry l x) h)
      where
        go : (entry l x among S.entries) ⊎ (entry l x among grow T S a) → Ranges T l
        go (inl m) = ok.ranges l x m
        go (inr m) = grow-ranges T good S ok a (entry l x) m

    bytes : (l : Link) (x : Word) → Has H l x → Bytes x
    bytes l x h = go (shaken-cases T S a (entry l x) h)
      where
        go : (entry l x among S.entries) ⊎ (entry l x among grow T S a) → Bytes x
        go (inl m) = ok.bytes l x m
        go (inr m) = grow-bytes T good S ok a (entry l x) m

    pub stepped-sound : Sound T (stepped T S a)
    stepped-sound =
        let rise = shaken-rises T S a ok in
        let lies = shaken-lies T S a ok in
        let sparse = ltb-false links_cap (length H.entries) none.1.1.1.1.0 in
        let within = ltb-false T.waiting_cap (longest (stepped T S a).entries) none.1.1.1.1.1.1.0 in
        record {
          depth = deeper-within (T.class a) S.depth T.depth_cap ok.depth none.1.1.0;
          count = (omega (arith, settled-length H, one), omega (arith, settled-length H));
          ranges = settled-links H (Ranges T) ranges;
          lies = settled-lies H rise lies;
          short = (settled-longest H rise lies one T.waiting_cap).0 (omega arith);
          bottom = settled-bottom H rise lies some.0.trail some.0.output waiting;
          rise = settled-rises H rise;
          apart = settled-apart H rise lies;
          bytes = settled-bytes H bytes;
        }
