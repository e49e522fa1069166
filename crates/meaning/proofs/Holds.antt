-- What holds of a moment after a message was taken: its places, in whatever order and however often each is listed, are
-- the runs over the message less what was sent, and that is the longest common beginning. Assumes nothing.
use mathlib.Core.Path.{◌≡◌, refl, sym, ◌∙◌, ap, subst}
use mathlib.Core.List.Memᴰ
use mathlib.Core.List.{List, [], ◌∷◌, ◌++◌, map, map-id}
use Prim.Native.Nat.{ℕ, ◌+◌}
use native.Mathlib.Omega.{arith}
use Rattle.words.specs.Lists.{◌among◌}
use Rattle.words.specs.Words.{Word}
use Rattle.words.proofs.Lists.{first_of}
use Rattle.meaning.specs.Table.{call, return, Table, Limits, GoodTable}
use Rattle.meaning.specs.Runs.{tally, depth}
use Rattle.meaning.specs.Trails.{ground}
use Rattle.meaning.specs.Living.{Place, place, moved, begun, living}
use Rattle.meaning.specs.Answers.{Moment, opened, deeper, sending, held, sends, step_tests, step_number}
use Rattle.meaning.specs.Answers.{AllTaken, none, more}
use Rattle.meaning.specs.Sentences.{Agreed}
use Rattle.meaning.proofs.Tests.{fails}
use Rattle.meaning.proofs.Living.{living-snoc}
use Rattle.meaning.proofs.Depth.{count_next}
use Rattle.meaning.proofs.Moment.{Alike, alike_is, alike_then, moved-alike, ahead, ahead-alike, ahead-ahead}
use Rattle.meaning.proofs.Moment.{moved-ahead, cut, held_in, held_whole}
use Rattle.meaning.proofs.Stands.{agreed}

pub record Holds (T : Table) (u z : Word) (m : Moment) : Type 0 where
  pub count : tally call T u ≡ tally return T u + m.depth
  pub runs : Alike (living T u) (ahead z m.waiting)
  pub agreed : Agreed T u z
  pub some : (p : Place) × (p among m.waiting)

pub holds-depth : {T : Table} {u z : Word} {m : Moment} → Holds T u z m → m.depth ≡ depth T u
holds-depth h = let e = h.count in omega arith

-- a fresh session
pub begun-holds : {L : Limits} {T : Table} → GoodTable L T → Holds T [] [] (opened T)
begun-holds {T = T} g =
    let i = Memᴰ.map (λ q. place (ground q) []) g.some.1 in
    let runs : Alike (living T []) (ahead [] (begun T)) = alike_is (sym (map-id (begun T))) in
    record {
      count = omega arith;
      runs = runs;
      agreed = subst (Agreed T []) (free T.starting) (agreed T [] [] (begun T) runs i);
      some = (place (ground g.some.0) [], i);
    }
  where
    free : (l : List ℕ) → sending (map (λ q. place (ground q) []) l) ≡ []
    free [] = refl
    free (q ∷ []) = refl
    free (q ∷ p ∷ l) = refl

module _ {T : Table} {u z : Word} {m : Moment} (h : Holds T u z m) (a : ℕ) where
  abbrev X : List Place
  X = moved T m.waiting a

  -- the places that a symbol leads to, with what was sent before put ahead, are those of the runs over one symbol more
  pub moved-runs : Alike (living T (u ++ a ∷ [])) (ahead z X)
  moved-runs =
      alike_then (alike_is (living-snoc T u a))
      (alike_then (moved-alike T a h.runs) (alike_is (moved-ahead T z m.waiting a)))

  -- a taken symbol, and any moment as deep and with the same places as the one that follows
  pub follows-holds : (room : ℕ) → step_number T room m a ≡ 0 → {n : Moment}
      → n.depth ≡ deeper (T.class a) m.depth → Alike (held X) n.waiting
      → Holds T (u ++ a ∷ []) (z ++ sends T m a) n
  follows-holds room e {n} d same =
      let f = fails (step_tests T room m a) refl e in
      let p = first_of X f.1.1.1.0 in
      let whole = ap (ahead z) (sym (held_whole X)) ∙ ahead-ahead z (sending X) (held X) in
      record {
        count = rw d (count_next T u a m.depth h.count f.1.0);
        runs = alike_then moved-runs (alike_then (alike_is whole) (ahead-alike (z ++ sending X) same));
        agreed = agreed T (u ++ a ∷ []) z X moved-runs p.1;
        some = (cut X p.0, (same (cut X p.0)).0 (held_in X p.1));
      }

-- a message all taken
pub holds : {L : Limits} {T : Table} → GoodTable L T → {u z : Word} {m : Moment} → AllTaken T u z m → Holds T u z m
holds g none = begun-holds g
holds g (more a room t e) = follows-holds (holds g t) a room e refl (λ p. (λ i. i, λ i. i))
