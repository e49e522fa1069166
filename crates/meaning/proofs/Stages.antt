-- One row of the joined table is one row of the first, and a reading of its word by the second. Assumes nothing.
use mathlib.Core.Path.{◌≡◌, refl, sym, ◌∙◌, ap, subst, subst₂}
use mathlib.Core.Bool.{true}
use mathlib.Core.Option.{some, some-injective}
use mathlib.Core.List.Memᴰ
use mathlib.Core.List.{List, [], ◌∷◌, ◌++◌, append-nil}
use Prim.Native.Nat.{ℕ, ◌<◌}
use native.Mathlib.Omega.{arith}
use lib.ListN.{length}
use Rattle.words.specs.Lists.{◌among◌, is_empty}
use Rattle.words.specs.Words.{Word}
use Rattle.meaning.specs.Table.{Class, unused, call, return, internal, Row, Table, Limits, GoodTable}
use Rattle.meaning.specs.Runs.{Config, config, Shifts, Takes, Move, Steps}
use Rattle.meaning.specs.Nesting.{Nests, level}
use Rattle.meaning.specs.Joining.{pair_number, Mark, mark, marks, starts_of, leaves, joined}
use Rattle.meaning.proofs.Nesting.{nested-level, pairs-level}
use Rattle.meaning.proofs.Reading.{endings-in, run-level}
use Rattle.meaning.proofs.Frames.{framed, run_framed, run-unframed, Closes}
use Rattle.meaning.proofs.Joined.{steps, end-inside, pair_one, starts-out, marks-out, Joins, row_of, joins-in}
use Rattle.meaning.proofs.Joined.{joins-out, call-start, marks-in}
use Rattle.meaning.proofs.Cuts.{markers, lefts, numbers, Within, Turn, joined-turns, first-turns}

pub move-on : {T : Table} {a b : ℕ} {r : Row} {c d : Config} → a ≡ b → Move T a r c d → Move T b r c d
move-on {T} {r = r} {c = c} {d = d} e m = subst (λ (a : ℕ). Move T a r c d) e m

-- what a move takes, by the class of the row's own symbol
own : {T : Table} {a : ℕ} {r : Row} {c d : Config} → Move T a r c d → Takes (T.class r.symbol) r c d
own m = (move-on (sym m.reads) m).takes

-- one moment of the joined table and of the two, with what the first has written between them
pub record Stage (A B : Table) : Type 0 where
  pub first : ℕ
  pub second : ℕ
  pub cut : List Mark
  pub between : Word
  pub output : Word
  pub inside : second < B.states
  pub within : Within (marks A B) cut

module _ {A B : Table} (S : Stage A B) where
  abbrev pub in_first : Config
  in_first = config S.first (markers S.cut) S.between

  abbrev pub in_second : Config
  in_second = config S.second (lefts S.cut) S.output

  abbrev pub in_joined : Config
  in_joined = config (pair_number B.states S.first S.second) (numbers (marks A B) S.cut) S.output

  -- a joined row that can be taken, and the cut that follows
  pub record Advance : Type 0 where
    pub row : Joins A B
    pub under : List ℕ
    pub cut : List Mark
    pub first : S.first ≡ row.by.from
    pub second : S.second ≡ row.at
    pub turn :
        Turn (marks A B) (A.class row.by.symbol) row.by.marker row.start row.end.stack under S.cut
        cut

module _ {L : Limits} {A B : Table} (good : GoodTable L B) where
  pub onward : (S : Stage A B) → Advance S → Stage A B
  onward S v =
      record {
        first = v.row.by.to;
        second = v.row.end.state;
        cut = v.cut;
        between = S.between ++ v.row.by.word;
        output = S.output ++ v.row.end.output;
        inside = end-inside A B good v.row;
        within = v.turn.within;
      }

  module _ (S : Stage A B) (v : Advance S) where
    pub first-moves : Move A v.row.by.symbol v.row.by (in_first S) (in_first (onward S v))
    unfolding onward
    first-moves =
        record {
          row = v.row.row;
          reads = refl;
          takes = record { from = v.first; to = refl; shifts = v.turn.first; writes = refl };
        }

    pub joined-moves : Move (joined A B) v.row.by.symbol (row_of A B v.row) (in_joined S) (in_joined (onward S v))
    unfolding onward
    joined-moves =
        record {
          row = joins-in A B v.row;
          reads = refl;
          takes =
              record {
                from = λ i. pair_number B.states (v.first i) (v.second i);
                to = refl;
                shifts = v.turn.joined;
                writes = refl;
              };
        }

    pub second_reads : (ρ : List Row) × Steps B (in_second S) v.row.by.word ρ (in_second (onward S v))
    unfolding onward
    second_reads =
        let x = steps A B v.row in (
          x.0,
          subst₂ (λ (c d : Config). Steps B c v.row.by.word x.0 d)
              (λ i. config (sym v.second i) (v.turn.starts i) (append-nil S.output i))
              (λ i. config v.row.end.state (v.turn.ends i) (S.output ++ v.row.end.output))
              (run_framed B v.under S.output x.1),
        )

  -- from the joined table to the two
  pub forth : (S : Stage A B) {a : ℕ} {r : Row} {c : Config} → Move (joined A B) a r (in_joined S) c
      → (v : Advance S) × (v.row.by.symbol ≡ a) × (c ≡ in_joined (onward S v))
  unfolding onward
  forth S {a} {r} {c} m =
      let x = joins-out A B r m.row in
      let j : Joins A B = x.0 in
      let k = A.class j.by.symbol in
      let n : Move (joined A B) a (row_of A B j) (in_joined S) c =
      subst (λ (r : Row). Move (joined A B) a r (in_joined S) c) x.1 m in
      let t = own n in
      let p = pair_one B.states S.first S.second j.by.from j.at S.inside j.inside t.from in
      let y =
      joined-turns (marks A B) k j.by.marker j.start j.end.stack S.cut c.stack S.within
      j.starts j.left (marks-in A B j) t.shifts in (
        record { row = j; under = y.0; cut = y.1; first = p.0; second = p.1; turn = y.3 },
        n.reads,
        λ i. config (t.to i) (y.2 i) (t.writes i),
      )

-- a word is read from `s` to a level at which it may end
record Fits (j : ℕ → Class) (k : Class) (w : Word) (s : List ℕ) : Type 0 where
  height : ℕ
  reaches : level j w (length s) ≡ some height
  left : (t : List ℕ) → length t ≡ height → leaves k t ≡ true

empty_left : (t : List ℕ) → length t ≡ 0 → is_empty t ≡ true
empty_left [] e = refl
empty_left (m ∷ t) e = absurd (omega arith)

module _ (A B : Table) (nests : Nests B.class A) where
  fits : (k : Class) (x : Row) (s : List ℕ) → x among A.rows → A.class x.symbol ≡ k
      → s among starts_of (marks A B) k x.marker → (k ≡ call → Closes A x.marker) → Fits B.class k x.word s
  fits unused x s m f i l = elim i [ ]
  fits call x s m f i l =
      let y = l refl in
      let p = pairs-level nests x y.by m y.row f y.returns y.marker in
      record { height = p.0; reaches = rw (Memᴰ.eq_of_singleton i) p.1; left = λ t e. refl }
  fits return x s m f i l =
      let z = marks-out A B (mark x.marker s) (starts-out (marks A B) x.marker s i) in
      let j : Joins A B = z.0 in
      let h = rw (call-start A B j z.1) at (run-level B (steps A B j).1) in
      let q = pairs-level nests j.by x j.row m z.1 f (sym (ap (λ (y : Mark). y.marker) z.2)) in
      let e = ap (λ (y : Mark). length y.left) z.2 ∙ some-injective _ _ (sym h ∙ q.1) in
      record { height = 0; reaches = rw e q.2; left = empty_left }
  fits internal x s m f i l =
      record {
        height = 0;
        reaches = rw (Memᴰ.eq_of_singleton i) (nested-level B.class (nests.inner x m f) 0);
        left = empty_left;
      }

  -- from the two to the joined table: what the first writes nests, so the second never pops what was there before
  pub back : {L : Limits} (good : GoodTable L B) (S : Stage A B) {a : ℕ} {x : Row} {ρ : List Row} {c b : Config}
      → Move A a x (in_first S) c → ((m : ℕ) → m among c.stack → Closes A m) → Steps B (in_second S) x.word ρ b
      → (v : Advance S) × (v.row.by.symbol ≡ a) × (c ≡ in_first (onward good S v)) × (b ≡ in_second (onward good S v))
  unfolding onward
  back good S {a} {x} {ρ} {c} {b} m l s =
      let k = A.class x.symbol in
      let t = own m in
      let y = first-turns (marks A B) k x.marker S.cut c.stack S.within t.shifts in
      let f = fits k x y.0 m.row refl y.2 (closed k t.shifts) in
      let start : Config = config S.second y.0 [] in
      let same : in_second S ≡ framed y.1 S.output start =
      λ i. config S.second (sym y.3 i) (sym (append-nil S.output) i) in
      let r = run-unframed B y.1 S.output s start same f.height f.reaches in
      let j : Joins A B =
      record {
        by = x;
        at = S.second;
        start = y.0;
        end = r.end;
        row = m.row;
        inside = S.inside;
        starts = y.2;
        reading = endings-in B r.steps;
        left = f.left r.end.stack r.height;
      } in
      let z = y.4 r.end.stack j.left (marks-in A B j) in (
        record { row = j; under = y.1; cut = z.0; first = t.from; second = refl; turn = z.2 },
        m.reads,
        (λ i. config (t.to i) (z.1 i) (t.writes i)),
        ◌∙◌ {c = config r.end.state (lefts z.0) (S.output ++ r.end.output)} r.is
            (λ i. config r.end.state (z.2.ends i) (S.output ++ r.end.output)),
      )
    where
      closed : (k : Class) → Shifts k x.marker (markers S.cut) c.stack → k ≡ call → Closes A x.marker
      closed k e g =
          let p = subst (λ (k : Class). Shifts k x.marker (markers S.cut) c.stack) g e in
          l x.marker (rw p (Memᴰ.head refl))
