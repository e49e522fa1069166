-- What a session sends and then holds, against its trails listed: the same word, the same places, the same backlog.
-- Assumes nothing.
use mathlib.Core.Path.{◌≡◌, sym, ◌∙◌, ap, subst}
use mathlib.Core.Logic.{◌↔◌}
use mathlib.Core.List.Memᴰ
use mathlib.Core.List.{List, ◌++◌}
use Prim.Native.Nat.{ℕ, ◌<◌}
use native.Mathlib.Omega.{arith}
use lib.Dec.{ltb}
use lib.ListN.{length}
use Rattle.words.specs.Lists.{◌among◌, any_of}
use Rattle.words.specs.Words.{Word, Begins, common}
use Rattle.words.proofs.Common.{begins, begins-same, common-begins, common-longest}
use Rattle.words.proofs.Exact.{exact-as, exact_same, any-exact, ltb-exact}
use Rattle.meaning.specs.Trails.{Trail}
use Rattle.meaning.specs.Living.{Place, place}
use Rattle.meaning.specs.Answers.{outputs, held}
use Rattle.meaning.proofs.Moment.{held-exact}
use Rattle.session_meaning.specs.Sessions.{Lies, RisesByLink, Session, Waits}
use Rattle.session_meaning.specs.Soundly.{longest}
use Rattle.session_meaning.proofs.Spells.{apart-longest}
use Rattle.session_meaning.proofs.Loads.{waits-longest, longest-waits}
use Rattle.session_meaning.proofs.Soundly.{lies-rooted}
use Rattle.step_meaning.specs.Stepping.{settled, sending_from}
use Rattle.step_meaning.proofs.Settle.{settled-rises, waits-sent, waits-settled, settled-lies, settled-apart}
use Rattle.step_meaning.proofs.Settle.{settled-bottom}

module _ (H : Session) (rise : RisesByLink H.entries) (lies : Lies H) (X : List Place)
    (exact : (t : Trail) (o : Word) → (place t o among X) ↔ Waits H t o) (p : Place) (m : p among X) where
  -- what is sent is the longest common beginning of the outputs
  pub sending-common : sending_from H ≡ common (outputs X)
  sending-common =
      let h = (exact p.trail p.output).0 m in
      let r = waits-sent H rise lies p.trail p.output h in
      begins-same (sending_from H) (common (outputs X))
      (common-longest (outputs X) (Memᴰ.map (λ p. p.output) m) sent)
      (apart-longest (λ w. (t : Trail) × Waits (settled H) t w)
      (settled-bottom H rise lies p.trail p.output h) r.0 (p.trail, r.2) (common (outputs X)) (sending_from H)
      (λ w k. common-begins (outputs X) (Memᴰ.map (λ p. p.output) (listed k.0 w k.1))))
    where
      sent : (w : Word) → w among outputs X → Begins (sending_from H) w
      sent w i =
          let o = Memᴰ.of_map (λ p. p.output) X i in
          let h = (exact o.0.trail o.0.output).0 o.1 in
          let r = waits-sent H rise lies o.0.trail o.0.output h in
          begins r.0 (sym r.1 ∙ o.2)

      listed : (t : Trail) (w : Word) → Waits (settled H) t w → place t (sending_from H ++ w) among X
      listed t w h = (exact t (sending_from H ++ w)).1 ((waits-settled H rise lies t w).0 h)

  -- what is held is what waits in the settled session
  pub held-settled : (t : Trail) (w : Word) → (place t w among held X) ↔ Waits (settled H) t w
  held-settled t w =
      let e = ap (λ (z : Word). place t (z ++ w)) sending-common in
      let h = held-exact X (place t w) in
      let s = waits-settled H rise lies t w in (
        λ i. s.1 ((exact t (sending_from H ++ w)).0 (subst (λ (p : Place). p among X) (sym e) (h.0 i))),
        λ k. h.1 (subst (λ (p : Place). p among X) e ((exact t (sending_from H ++ w)).1 (s.0 k))),
      )

  -- and more than `n` is held of one exactly when more waits
  pub backlog-same : (n : ℕ) → ltb n (longest (settled H).entries) ≡ any_of (λ p. ltb n (length p.output)) (held X)
  backlog-same n =
      exact_same (ltb-exact n (longest (settled H).entries))
      (exact-as (to, fro) (any-exact (held X) (λ p i. ltb-exact n (length p.output))))
    where
      to : (p : Place) × (p among held X) × (n < length p.output) → n < longest (settled H).entries
      to q =
          let h = (held-settled q.0.trail q.0.output).0 q.1 in
          omega (arith, waits-longest (settled H) (settled-rises H rise) q.0.trail q.0.output h.spells, q.2)

      fro : n < longest (settled H).entries → (p : Place) × (p among held X) × (n < length p.output)
      fro lt =
          let r = waits-sent H rise lies p.trail p.output ((exact p.trail p.output).0 m) in
          let o =
          longest-waits (settled H) (settled-rises H rise) (settled-apart H rise lies)
          (λ l x h. (lies-rooted (settled H) (settled-lies H rise lies) l x h).0) p.trail r.0 r.2.spells in
          (place o.0 o.1, (held-settled o.0 o.1).1 o.2, omega (arith, o.3))
