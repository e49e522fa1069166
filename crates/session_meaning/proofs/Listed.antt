-- The listed trails of a session are its full trails with what they spell. Assumes nothing.
use mathlib.Core.Path.{◌≡◌, refl, ap}
use mathlib.Core.Logic.{◌↔◌}
use Prim.Native.Nat.{ℕ, zero, suc}
use Rattle.words.specs.Lists.{◌among◌, only}
use Rattle.words.specs.Words.{Word}
use Rattle.words.proofs.Lists.{each_in, each-out, only-in, only_out, choices-in, choices-out}
use Rattle.meaning.specs.Table.{Table}
use Rattle.meaning.specs.Trails.{Trail, ground, over, height, link_of}
use Rattle.meaning.specs.Living.{Place, place}
use Rattle.session_meaning.proofs.Same.{session-same}
use Rattle.session_meaning.proofs.Tests.{bottom-exact, stands-exact, as-has}
use Rattle.session_meaning.specs.Sessions.{entry, Session, Spells, Waits, Sound, lowest, raised, on_bottom}
use Rattle.session_meaning.specs.Sessions.{stands_on}
use Rattle.session_meaning.specs.Sessions.{trails_at, trails}

module _ (S : Session) where
  listed : (t : Trail) (w : Word) → Spells S t w → place t w among trails_at S.entries (height t)
  listed (ground q) w s =
      each_in (λ e. only (on_bottom e.link) (lowest e)) S.entries s
      (only-in ((bottom-exact (link_of (ground q))).0 refl))
  listed (over q m t) w s =
      choices-in (λ p e. stands_on (link_of p.trail) e.link) raised (trails_at S.entries (height t)) S.entries
      (record {
        one = place t s.0;
        other = entry (link_of (over q m t)) s.1;
        first = listed t s.0 s.2;
        second = s.3;
        passes = (stands-exact (link_of t) (link_of (over q m t))).0 refl;
        is = ap (place (over q m t)) s.4;
      })

  spelled : (i : ℕ) (p : Place) → p among trails_at S.entries i
      → Spells S p.trail p.output × (height p.trail ≡ i)
  spelled zero p m =
      let x = each-out (λ e. only (on_bottom e.link) (lowest e)) S.entries m in
      let o = only_out (on_bottom x.0.link) x.2 in
      rw o.1 (as-has S x.0 _ x.1 ((bottom-exact x.0.link).1 o.0), refl)
  spelled (suc i) p m =
      let c =
      choices-out (λ p e. stands_on (link_of p.trail) e.link) raised (trails_at S.entries i) S.entries m in
      let r = spelled i c.one c.first in
      let l = (stands-exact (link_of c.one.trail) c.other.link).1 c.passes in
      let h = as-has S c.other _ c.second l in
      rw c.is ((c.one.output, c.other.piece, r.0, h, refl), ap suc r.1)

  pub trails-exact : (t : Trail) (w : Word) → (place t w among trails S) ↔ Waits S t w
  trails-exact t w = (
    λ m. let r = spelled S.depth (place t w) m in record { full = r.1; spells = r.0 },
    λ h. rw h.full at (listed t w h.spells),
  )

-- two sound sessions whose lists have the same trails with the same waiting outputs are the same
pub trails-same : (T : Table) (S S' : Session) → Sound T S → Sound T S'
    → ((p : Place) → (p among trails S) ↔ (p among trails S')) → S ≡ S'
trails-same T S S' ok ok' iff =
    session-same T S S' ok ok'
    (λ t w. (
      λ h. (trails-exact S' t w).0 ((iff (place t w)).0 ((trails-exact S t w).1 h)),
      λ h. (trails-exact S t w).0 ((iff (place t w)).1 ((trails-exact S' t w).1 h)),
    ))
