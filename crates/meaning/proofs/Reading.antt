-- The endings of a word's readings are those of the runs over it; what runs write and leave. Assumes nothing.
use mathlib.Core.Path.{◌≡◌, refl, sym, ap, subst}
use mathlib.Core.Bool.{Bool, true, false, cond}
use mathlib.Core.Option.{some}
use mathlib.Core.Logic.{◌↔◌}
use mathlib.Core.List.Memᴰ
use mathlib.Core.List.{List, [], ◌∷◌, ◌++◌, map, append_assoc, append-nil}
use lib.ListN.{length}
use Prim.Native.Nat.{ℕ, ◌<◌}
use lib.Dec.{eqb}
use borrow.Author.Tests.{eqb-true, eq-eqb}
use Rattle.words.specs.Lists.{◌among◌, each}
use Rattle.words.specs.Words.{Word}
use Rattle.words.proofs.Lists.{each_in, each-out}
use Rattle.meaning.specs.Table.{Class, unused, call, return, internal, Row, Table, Limits, GoodTable}
use Rattle.meaning.specs.Runs.{Config, config, Shifts, shifted, Takes, Move, Steps, stop, next, said}
use Rattle.meaning.specs.Nesting.{after, level}
use Rattle.meaning.specs.Joining.{after_row, endings}
use Rattle.meaning.proofs.Shift.{shifted_in, shifted-out}

-- a list under a condition
cond-in : {A : Type 0} {b : Bool} {x : A} {l : List A} → b ≡ true → x among l → x among cond b l []
cond-in e m = rw e m

cond-out : {A : Type 0} (b : Bool) {x : A} (l : List A) → x among cond b l [] → (b ≡ true) × (x among l)
cond-out true l m = (refl, m)
cond-out false l m = elim m [ ]

module _ (k : Class) (r : Row) (c : Config) where
  abbrev by : List ℕ → Config
  by s = config r.to s (c.output ++ r.word)

  taken_out : (d : Config) → d among after_row k r c → Takes k r c d
  taken_out d m =
      let x = cond-out (eqb c.state r.from) (map by (shifted k r.marker c.stack)) m in
      let y = Memᴰ.of_map by (shifted k r.marker c.stack) x.1 in
      let e = sym y.2 in
      record {
        from = eqb-true c.state r.from x.0;
        to = ap (λ (d : Config). d.state) e;
        shifts =
            subst (Shifts k r.marker c.stack) (sym (ap (λ (d : Config). d.stack) e))
            (shifted-out k r.marker c.stack y.0 y.1);
        writes = ap (λ (d : Config). d.output) e;
      }

  taken_in : (d : Config) → Takes k r c d → d among after_row k r c
  taken_in d t =
      cond-in (eq-eqb c.state r.from t.from)
      (Memᴰ.cast
      (λ i. config (t.to i) d.stack (t.writes i))
      (Memᴰ.map by (shifted_in k r.marker c.stack d.stack t.shifts)))

module _ (T : Table) where
  abbrev stepped : ℕ → Config → Row → List Config
  stepped a c r = cond (eqb r.symbol a) (after_row (T.class a) r c) []

  pub endings-in : {v : Word} {ρ : List Row} {c e : Config} → Steps T c v ρ e → e among endings T v c
  endings-in stop = Memᴰ.head refl
  endings-in (next {a} {u} {r} {ρ} {c} {d} {e} m s) =
      each_in (λ r. each (endings T u) (stepped a c r)) T.rows m.row
      (each_in (endings T u) (stepped a c r)
      (cond-in (eq-eqb r.symbol a m.reads) (taken_in (T.class a) r c d m.takes))
      (endings-in s))

  pub endings-out : (v : Word) (c e : Config) → e among endings T v c → (ρ : List Row) × Steps T c v ρ e
  endings-out [] c e m = ([], rw (Memᴰ.eq_of_singleton m) stop)
  endings-out (a ∷ v) c e m =
      let x = each-out (λ r. each (endings T v) (stepped a c r)) T.rows m in
      let r : Row = x.0 in
      let y = each-out (endings T v) (stepped a c r) x.2 in
      let z = cond-out (eqb r.symbol a) (after_row (T.class a) r c) y.1 in
      let m : Move T a r c y.0 =
      record {
        row = x.1;
        reads = eqb-true r.symbol a z.0;
        takes = taken_out (T.class a) r c y.0 z.1;
      } in
      let s = endings-out v y.0 e y.2 in
      (r ∷ s.0, next m s.1)

  -- "the second table reads the word …, branching": all its runs over the word, and no other endings
  pub endings-exact : (v : Word) (c e : Config) → (e among endings T v c) ↔ ((ρ : List Row) × Steps T c v ρ e)
  endings-exact v c e = (endings-out v c e, λ x. endings-in x.1)

  -- what runs write; runs over two words; the rows and the states of a run

  pub run-said : {c e : Config} {u : Word} {ρ : List Row} → Steps T c u ρ e → e.output ≡ c.output ++ said ρ
  run-said {c} stop = sym (append-nil c.output)
  run-said (next {r = r} {ρ = ρ} {c = c} m s) =
      cc (run-said s, m.takes.writes, append_assoc c.output r.word (said ρ))

  pub run_join : {c d e : Config} {v w : Word} {ρ σ : List Row} → Steps T c v ρ d → Steps T d w σ e
      → Steps T c (v ++ w) (ρ ++ σ) e
  run_join stop t = t
  run_join (next m s) t = next m (run_join s t)

  pub record Halves (c : Config) (v w : Word) (e : Config) : Type 0 where
    pub middle : Config
    pub first : List Row
    pub second : List Row
    pub begun : Steps T c v first middle
    pub ended : Steps T middle w second e

  pub run-split : (v w : Word) {c e : Config} {ρ : List Row} → Steps T c (v ++ w) ρ e → Halves c v w e
  run-split [] w {c} {e} {ρ} s = record { middle = c; first = []; second = ρ; begun = stop; ended = s }
  run-split (a ∷ v) w (next {r = r} m s) =
      let h = run-split v w s in
      record {
        middle = h.middle;
        first = r ∷ h.first;
        second = h.second;
        begun = next m h.begun;
        ended = h.ended;
      }

  pub run-rows : {c e : Config} {u : Word} {ρ : List Row} → Steps T c u ρ e → (r : Row) → r among ρ → r among T.rows
  run-rows stop r i = elim i [ ]
  run-rows (next m s) r (Memᴰ.head e) = rw e m.row
  run-rows (next m s) r (Memᴰ.tail i) = run-rows s r i

  pub run_inside : {L : Limits} → GoodTable L T → {c e : Config} {u : Word} {ρ : List Row} → Steps T c u ρ e
      → c.state < T.states → e.state < T.states
  run_inside g stop h = h
  run_inside g (next {r = r} m s) h = run_inside g s (rw m.takes.to (g.row r m.row).to)

  -- a run keeps count of the open calls

  pub run-level : {c e : Config} {v : Word} {ρ : List Row} → Steps T c v ρ e
      → level T.class v (length c.stack) ≡ some (length e.stack)
  run-level stop = refl
  run-level (next {a} {u} {r} {ρ} {c} {d} m s) =
      rw (shifts-level (T.class a) r.marker c.stack d.stack m.takes.shifts) (run-level s)
    where
      shifts-level : (k : Class) (m : ℕ) (s t : List ℕ) → Shifts k m s t → after k (length s) ≡ some (length t)
      shifts-level unused m s t e = absurd e
      shifts-level call m s t e = rw e
      shifts-level return m s t e = rw e
      shifts-level internal m s t e = rw e
