-- The number by links is the number by trails: each test is the same where none before it passed. Assumes nothing.
use mathlib.Core.Path.{◌≡◌, refl, sym, ◌∙◌, ap}
use mathlib.Core.Bool.{Bool, true, false, cond}
use mathlib.Core.Logic.{◌↔◌}
use mathlib.Core.List.{List, [], ◌∷◌}
use Prim.Native.Nat.{ℕ}
use lib.Dec.{ltb}
use lib.ListN.{length, length-map}
use Rattle.words.specs.Lists.{◌among◌, any_of, is_empty}
use Rattle.words.specs.Words.{Word}
use Rattle.words.proofs.Lists.{first_of}
use Rattle.words.proofs.Exact.{exact-as, exact_same, and-exact, not-exact, any-exact, same-exact, empty-exact}
use Rattle.meaning.specs.Table.{Table}
use Rattle.meaning.specs.Trails.{Trail, trail_key}
use Rattle.meaning.specs.Living.{Place, place, moved}
use Rattle.meaning.specs.Answers.{first, links_cap, links_of, clash, sends, held, step_tests, step_number}
use Rattle.meaning.proofs.Trails.{trail_key-one}
use Rattle.session_meaning.specs.Sessions.{Entry, Session, Waits, Sound, trails, stands}
use Rattle.session_meaning.specs.Soundly.{longest}
use Rattle.step_meaning.specs.Stepping.{grow, conflict, kept, shaken, stepped, sent, link_tests, link_number}
use Rattle.step_meaning.proofs.Keep.{conflict-exact}
use Rattle.step_meaning.proofs.Tops.{waits-topped}
use Rattle.step_meaning.proofs.Grow.{moves, grow-level, grow-tops, grow-exact, grow-moved, Apart, clash-exact}
use Rattle.step_meaning.proofs.Shake.{shaken-rises, shaken-lies, shaken-exact, shaken-listed}
use Rattle.step_meaning.proofs.Sent.{sending-common, held-settled, backlog-same}

-- tests side by side: the same numbers, and each test answers as its fellow, if none passed yet
abbrev Alike : List (Bool × ℕ) → List (Bool × ℕ) → Type 0
Alike [] [] = Unit {0}
Alike [] (d ∷ l) = ⊥
Alike (c ∷ k) [] = ⊥
Alike (c ∷ k) (d ∷ l) = (c.1 ≡ d.1) × (c.0 ≡ d.0) × (c.0 ≡ false → Alike k l)

first_alike : (k l : List (Bool × ℕ)) → Alike k l → first k ≡ first l
first_alike [] [] h = refl
first_alike [] (d ∷ l) h = absurd h
first_alike (c ∷ k) [] h = absurd h
first_alike (c ∷ k) (d ∷ l) h =
    go c.0 refl (first_alike k l) ∙ (λ i. cond (h.1 i) (h.0 i) (first l))
  where
    go : (b : Bool) → c.0 ≡ b → (Alike k l → first k ≡ first l) → cond b c.1 (first k) ≡ cond b c.1 (first l)
    go true e ih = refl
    go false e ih = ih (h.2 e)

module _ (T : Table) (S : Session) (a : ℕ) (ok : Sound T S) where
  abbrev X : List Place
  X = moved T (trails S) a

  -- something grows exactly where some trail moves
  pub none-same : is_empty (grow T S a) ≡ is_empty X
  none-same = exact_same (empty-exact (grow T S a)) (exact-as (to, fro) (empty-exact X))
    where
      to : ((p : Place) → p among X → ⊥) → (z : Entry) → z among grow T S a → ⊥
      to f z m =
          let p = grow-tops T S a ok.lies z m in
          f (place p.trail _) ((moves T S a p.trail _).1 (grow-moved T S a z.piece p m))

      fro : ((z : Entry) → z among grow T S a → ⊥) → (p : Place) → p among X → ⊥
      fro f p m =
          let w = (grow-exact T S a p.trail p.output).1 ((moves T S a p.trail p.output).0 m) in
          f _ (waits-topped S _ (grow T S a) (grow-level T S a) p.trail p.output w).new

  -- as many links are left as the moved trails have
  count_same : length (shaken (kept T S a)).entries ≡ length (links_of X)
  count_same =
      sym (length-map (shaken (kept T S a)).entries (λ e. e.link)) ∙ ap length (shaken-listed T S a ok)

  -- one link has two pieces exactly where one trail has two outputs
  conflict-same : conflict [] (grow T S a) ≡ any_of (λ p. any_of (clash p) X) X
  conflict-same =
      exact_same (exact-as (clash-exact T S a ok) (conflict-exact (grow T S a)))
      (exact-as (to, fro)
      (any-exact X
      (λ p i.
      any-exact X
      (λ q j.
      and-exact (same-exact (trail_key p.trail) (trail_key q.trail))
      (not-exact (same-exact p.output q.output))))))
    where
      Clashing : Type 0
      Clashing =
          (p : Place) × (p among X)
          × ((q : Place) × (q among X)
          × ((trail_key p.trail ≡ trail_key q.trail) × (p.output ≡ q.output → ⊥)))

      to : Clashing → Apart T S a
      to x =
          let p = x.0 in
          let q = x.2.0 in
          let e = trail_key-one p.trail q.trail x.2.2.0 in
          record {
            trail = p.trail;
            one = p.output;
            other = q.output;
            first = (moves T S a p.trail p.output).0 x.1;
            second = rw e ((moves T S a q.trail q.output).0 x.2.1);
            apart = x.2.2.1;
          }

      fro : Apart T S a → Clashing
      fro p = (
        place p.trail p.one,
        (moves T S a p.trail p.one).1 p.first,
        (
          place p.trail p.other,
          (moves T S a p.trail p.other).1 p.second,
          (refl, p.apart),
        ),
      )

  -- with no conflict
  module _ (agree : conflict [] (grow T S a) ≡ false) where
    -- the places that moved are what waits before it settles
    pub left : (t : Trail) (o : Word) → (place t o among X) ↔ Waits (shaken (kept T S a)) t o
    left t o =
        let x = moves T S a t o in
        let y = shaken-exact T S a ok agree t o in
        (λ i. y.1 (x.0 i), λ h. x.1 (y.0 h))

    -- where something moves
    module _ (p : Place) (m : p among X) where
      -- what is sent is the same,
      pub sent-same : sent T S a ≡ sends T (stands S) a
      sent-same = sending-common (shaken (kept T S a)) (shaken-rises T S a ok) (shaken-lies T S a ok) X left p m

      -- and so is what then waits,
      pub waits-same : (t : Trail) (w : Word) → (place t w among held X) ↔ Waits (stepped T S a) t w
      waits-same = held-settled (shaken (kept T S a)) (shaken-rises T S a ok) (shaken-lies T S a ok) X left p m

      -- and whether that is too much
      too-much-same : ltb T.waiting_cap (longest (stepped T S a).entries)
          ≡ any_of (λ p. ltb T.waiting_cap (length p.output)) (held X)
      too-much-same =
          backlog-same (shaken (kept T S a)) (shaken-rises T S a ok) (shaken-lies T S a ok) X left p m T.waiting_cap

  -- the number by links is the number by trails
  pub number-exact : (room : ℕ) → link_number T room S a ≡ step_number T room (stands S) a
  number-exact room =
      first_alike (link_tests T room S a) (step_tests T room (stands S) a) (
        refl,
        refl,
        λ known. (
          refl,
          refl,
          λ opened. (
            refl,
            refl,
            λ shallow. (
              refl,
              none-same,
              λ some.
                  let x = first_of X (sym none-same ∙ some) in (
                    refl,
                    ap (ltb links_cap) count_same,
                    λ sparse. (
                      refl,
                      conflict-same,
                      λ agree. (
                        refl,
                        too-much-same agree x.0 x.1,
                        λ within. (
                          refl,
                          ap (λ (z : Word). ltb room (length z)) (sent-same agree x.0 x.1),
                          λ fits. tt,
                        ),
                      ),
                    ),
                  ),
            ),
          ),
        ),
      )
