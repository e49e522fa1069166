-- Demand 3: the joined table allows exactly what the second allows on some output of the first. Assumes nothing.
use mathlib.Core.Path.{◌≡◌, refl, sym, ◌∙◌, ap, subst}
use mathlib.Core.Logic.{◌↔◌}
use mathlib.Core.List.Memᴰ
use mathlib.Core.List.{List, [], ◌∷◌, ◌++◌, map, cons≢nil}
use Prim.Native.Nat.{ℕ, ◌<◌}
use Rattle.words.specs.Lists.{◌among◌}
use Rattle.words.specs.Words.{Word}
use Rattle.meaning.specs.Table.{Row, Table, Limits, GoodTable}
use Rattle.meaning.specs.Runs.{Config, Move, Steps, stop, next, said, fresh, Accepting, Allowed}
use Rattle.meaning.specs.Nesting.{Nests}
use Rattle.meaning.specs.Joining.{pair_number, marks, mark_number, joined, Through}
use Rattle.meaning.proofs.Reading.{run-said, run_join, run-split}
use Rattle.meaning.proofs.Frames.{Closes, run-closes}
use Rattle.meaning.proofs.Joined.{pairs_of-in, pairs_of-out, pairs_of-parts, row_of}
use Rattle.meaning.proofs.Cuts.{markers, lefts, numbers}
use Rattle.meaning.proofs.Stages.{Stage, in_first, in_second, in_joined, Advance, onward, first-moves, joined-moves}
use Rattle.meaning.proofs.Stages.{second_reads, forth, back, move-on}

map-nil : {X Y : Type 0} (f : X → Y) (l : List X) → map f l ≡ [] → l ≡ []
map-nil f [] e = refl
map-nil f (x ∷ l) e = absurd (cons≢nil e)

steps-nil : {T : Table} {c e : Config} {ρ : List Row} → Steps T c [] ρ e → e ≡ c
steps-nil stop = refl

abbrev started : (A B : Table) (p q : ℕ) → q < B.states → Stage A B
started A B p q h =
    record {
      first = p;
      second = q;
      cut = [];
      between = [];
      output = [];
      inside = h;
      within = λ y m. absurd (Memᴰ.not-nil m);
    }

-- runs of the first, of the second over what that writes, and of the joined table, from one stage to another
record Runs {A B : Table} (S : Stage A B) (u : Word) (Z : Stage A B) : Type 0 where
  first_rows : List Row
  second_rows : List Row
  joined_rows : List Row
  first : Steps A (in_first S) u first_rows (in_first Z)
  second : Steps B (in_second S) (said first_rows) second_rows (in_second Z)
  joined : Steps (joined A B) (in_joined S) u joined_rows (in_joined Z)

runs-stop : {A B : Table} (S : Stage A B) → Runs S [] S
runs-stop S = record { first_rows = []; second_rows = []; joined_rows = []; first = stop; second = stop; joined = stop }

module _ {L : Limits} (A B : Table) (good : GoodTable L B) where
  runs-next : (S : Stage A B) (v : Advance S) {Z : Stage A B} {a : ℕ} {u : Word} → v.row.by.symbol ≡ a
      → Runs (onward good S v) u Z → Runs S (a ∷ u) Z
  runs-next S v e x =
      let z = second_reads good S v in
      record {
        first_rows = v.row.by ∷ x.first_rows;
        second_rows = z.0 ++ x.second_rows;
        joined_rows = row_of A B v.row ∷ x.joined_rows;
        first = next (move-on e (first-moves good S v)) x.first;
        second = run_join B z.1 x.second;
        joined = next (move-on e (joined-moves good S v)) x.joined;
      }

  -- a run of the joined table is one of the first, and one of the second over what that writes
  forth-run : {c e : Config} {u : Word} {ρ : List Row} → Steps (joined A B) c u ρ e → (S : Stage A B) → c ≡ in_joined S
      → (Z : Stage A B) × (e ≡ in_joined Z) × Runs S u Z
  forth-run stop S p = (S, p, runs-stop S)
  forth-run (next {a} {r = r} {d = d} m s) S p =
      let v = forth good S (subst (λ (c : Config). Move (joined A B) a r c d) p m) in
      let y = forth-run s (onward good S v.0) v.2 in
      (y.0, y.1, runs-next S v.0 v.1 y.2)

  -- and back, if all that the first has open at the end is closed by some row
  back-run : Nests B.class A → {c e : Config} {u : Word} {ρ : List Row} → Steps A c u ρ e
      → ((m : ℕ) → m among e.stack → Closes A m) → (S : Stage A B) → c ≡ in_first S
      → {σ : List Row} {d b : Config} → Steps B d (said ρ) σ b → d ≡ in_second S
      → (Z : Stage A B) × (e ≡ in_first Z) × (b ≡ in_second Z) × Runs S u Z
  back-run nests stop l S p s q = (S, p, steps-nil s ∙ q, runs-stop S)
  back-run nests (next {a} {r = r} {ρ = ρ} {d = d} m t) l S p s q =
      let h = run-split B r.word (said ρ) s in
      let n = subst (λ (c : Config). Move A a r c d) p m in
      let b = subst (λ (c : Config). Steps B c r.word h.first h.middle) q h.begun in
      let v = back A B nests good S n (run-closes A t l) b in
      let y = back-run nests t l (onward good S v.0) v.2 h.ended v.3 in
      (y.0, y.1, y.2, runs-next S v.0 v.1 y.3)

  -- the joined table accepts where both do
  both-accept : (Z : Stage A B)
      → Accepting (joined A B) (in_joined Z) ↔ (Accepting A (in_first Z) × Accepting B (in_second Z))
  both-accept Z = (to, fro)
    where
      to : Accepting (joined A B) (in_joined Z) → Accepting A (in_first Z) × Accepting B (in_second Z)
      to a =
          let e = map-nil (mark_number (marks A B)) Z.cut a.empty in
          let f =
          pairs_of-parts B.states A.final B.final Z.first Z.second good.final.below Z.inside
          a.final in
          (record { final = f.0; empty = ap markers e }, record { final = f.1; empty = ap lefts e })

      fro : Accepting A (in_first Z) × Accepting B (in_second Z) → Accepting (joined A B) (in_joined Z)
      fro x =
          let e = map-nil (λ y. y.marker) Z.cut x.0.empty in
          record { final = pairs_of-in B.states x.0.final x.1.final; empty = ap (numbers (marks A B)) e }

  joined-sound : (u w : Word) → Allowed (joined A B) u w → Through A B u w
  joined-sound u w c =
      let x = pairs_of-out B.states A.starting B.starting c.run.starts in
      let S = started A B x.0 x.1 (good.starting.below x.1 x.3) in
      let y = forth-run c.run.steps S (ap fresh (sym x.4)) in
      let Z = y.0 in
      let r = y.2 in
      let a = (both-accept Z).0 (subst (Accepting (joined A B)) y.1 c.accepts) in
      record {
        between = said r.first_rows;
        first =
            record {
              run = record { start = x.0; rows = r.first_rows; end = in_first Z; starts = x.2; steps = r.first };
              accepts = a.0;
              gives = run-said A r.first;
            };
        second =
            record {
              run = record { start = x.1; rows = r.second_rows; end = in_second Z; starts = x.3; steps = r.second };
              accepts = a.1;
              gives = ap (λ (c : Config). c.output) (sym y.1) ∙ c.gives;
            };
      }

  joined-complete : Nests B.class A → (u w : Word) → Through A B u w → Allowed (joined A B) u w
  joined-complete nests u w c =
      let f = c.first.run in
      let g = c.second.run in
      let S = started A B f.start g.start (good.starting.below g.start g.starts) in
      let v = sym c.first.gives ∙ run-said A f.steps in
      let s = subst (λ (v : Word). Steps B (fresh g.start) v g.rows g.end) v g.steps in
      let y = back-run nests f.steps (none f.end.stack c.first.accepts.empty) S refl s refl in
      let a = subst (Accepting A) y.1 c.first.accepts in
      let b = subst (Accepting B) y.2 c.second.accepts in
      record {
        run =
            record {
              start = pair_number B.states f.start g.start;
              rows = y.3.joined_rows;
              end = in_joined y.0;
              starts = pairs_of-in B.states f.starts g.starts;
              steps = y.3.joined;
            };
        accepts = (both-accept y.0).1 (a, b);
        gives = ap (λ (c : Config). c.output) (sym y.2) ∙ c.second.gives;
      }
    where
      none : (s : List ℕ) → s ≡ [] → (m : ℕ) → m among s → Closes A m
      none s e m i = absurd (Memᴰ.not-nil (rw e at i))

  -- demand 3; 000, theorem 43
  pub joined-exact : Nests B.class A → (u w : Word) → Allowed (joined A B) u w ↔ Through A B u w
  joined-exact nests u w = (joined-sound u w, joined-complete nests u w)
