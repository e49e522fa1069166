-- Step gives the number of the first sentence that holds, and what was sent is the longest common beginning: demand 2.
-- Assumes nothing.
use mathlib.Core.Path.{◌≡◌, refl, sym, ◌∙◌, ap, subst}
use mathlib.Core.Bool.{◌&&◌}
use mathlib.Core.Logic.{◌↔◌}
use mathlib.Core.List.{List, [], ◌∷◌, ◌++◌, append_cancel_left}
use Prim.Native.Nat.{ℕ, ◌<◌}
use lib.Dec.{eqb, ltb}
use lib.ListN.{length}
use borrow.Author.Tests.{ne_eqb}
use Rattle.words.specs.Lists.{◌among◌, Exact}
use Rattle.words.specs.Words.{Word}
use Rattle.words.proofs.Lists.{first_of}
use Rattle.meaning.specs.Table.{Class, unused, call, return, is, Table, Limits, GoodTable}
use Rattle.meaning.specs.Runs.{depth}
use Rattle.meaning.specs.Living.{Place, moved, living}
use Rattle.meaning.specs.Answers.{Moment, sending, sends, follows, step, step_tests, step_number, AllTaken}
use Rattle.meaning.specs.Sentences.{First, Agreed, NoRoom, step_sentences}
use Rattle.words.proofs.Exact.{exact-as, eqb-exact, ltb-exact, and-exact}
use Rattle.meaning.proofs.Tests.{is-exact, Match, first-exact}
use Rattle.meaning.proofs.Moment.{Alike, ahead}
use Rattle.meaning.proofs.Stands.{agreed, agreed-one, none-exact, crowded-exact, conflict-exact, backlog-exact}
use Rattle.meaning.proofs.Holds.{Holds, holds-depth, moved-runs, holds}

-- demand 2: what was sent is the longest common beginning of the outputs of all runs
pub sent-agreed : {L : Limits} {T : Table} → GoodTable L T → {u z : Word} {m : Moment} → AllTaken T u z m → Agreed T u z
sent-agreed g t = (holds g t).agreed

-- a class at a depth
class-exact : (j k : Class) (m n d : ℕ) → m ≡ n → Exact ((j ≡ k) × (n ≡ d)) (is j k && eqb m d)
class-exact j k m n d e =
    exact-as (λ f. (f.0, sym e ∙ f.1), λ f. (f.0, e ∙ f.1)) (and-exact (is-exact j k) (eqb-exact m d))

-- a taken symbol sends and moves, a refused one sends nothing and leaves the session as it was
abbrev Reply : Type 0
Reply = ℕ × Word × Moment

pub step-taken : (T : Table) (room : ℕ) (m : Moment) (a : ℕ) → step_number T room m a ≡ 0
    → ◌≡◌ {A = Reply} (step T room m a) (0, sends T m a, follows T m a)
step-taken T room m a e = rw e

pub step-refused : (T : Table) (room : ℕ) (m : Moment) (a : ℕ) → (step_number T room m a ≡ 0 → ⊥)
    → ◌≡◌ {A = Reply} (step T room m a) (step_number T room m a, [], m)
step-refused T room m a f = rw (ne_eqb (step_number T room m a) 0 f)

module _ {T : Table} {u z : Word} {m : Moment} (h : Holds T u z m) (room a : ℕ) where
  abbrev X : List Place
  X = moved T m.waiting a

  abbrev v : Word
  v = u ++ a ∷ []

  runs : Alike (living T v) (ahead z X)
  runs = moved-runs h a

  -- what must be written does not fit
  room-exact : {p : Place} → p among X → Exact (NoRoom T u v room) (ltb room (length (sending X)))
  room-exact i = exact-as (to, fro) (ltb-exact room (length (sending X)))
    where
      to : room < length (sending X) → NoRoom T u v room
      to l = (z, sending X, h.agreed, agreed T v z X runs i, l)

      fro : NoRoom T u v room → room < length (sending X)
      fro n =
          let d : n.0 ≡ z = agreed-one n.2 h.agreed in
          let e : n.0 ++ n.1 ≡ z ++ sending X = agreed-one n.3 (agreed T v z X runs i) in
          let f = append_cancel_left z n.1 (sending X) (ap (λ (y : Word). y ++ n.1) (sym d) ∙ e) in
          subst (λ (y : Word). room < length y) f n.4

  -- the tests of step and the sentences, side by side
  step-match : Match (step_tests T room m a) (step_sentences T room u a)
  step-match = (
    refl,
    is-exact (T.class a) unused,
    λ known. (
      refl,
      class-exact (T.class a) return m.depth (depth T u) 0 (holds-depth h),
      λ opened. (
        refl,
        class-exact (T.class a) call m.depth (depth T u) T.depth_cap (holds-depth h),
        λ shallow. (
          refl,
          none-exact T v z X runs,
          λ some.
              let i = (first_of X some).1 in (
                refl,
                crowded-exact T v z X runs,
                λ sparse. (
                  refl,
                  conflict-exact T v z X runs,
                  λ agree. (refl, backlog-exact T v z X runs i, λ within. (refl, room-exact i, λ fits. tt)),
                ),
              ),
        ),
      ),
    ),
  )

  -- each number is given exactly when its sentence is the first that holds
  pub step-exact : (n : ℕ) → (step_number T room m a ≡ n) ↔ First (step_sentences T room u a) n
  step-exact n = first-exact (step_tests T room m a) (step_sentences T room u a) refl step-match n
