-- What is listed as living is exactly what the runs have, one place for each run, and one symbol more moves it.
-- Assumes nothing.
use mathlib.Core.Path.{◌≡◌, refl, sym, ◌∙◌, ap, subst}
use mathlib.Core.Bool.{Bool, true, false, ◌&&◌, not, false≢true}
use mathlib.Core.Logic.{◌↔◌}
use mathlib.Core.List.{map, map-map, append_assoc, append-nil, nil≢cons, head-eq_of_cons-eq, tail-eq_of_cons-eq, List}
use mathlib.Core.List.Memᴰ
use mathlib.Core.List.{[], ◌∷◌, ◌++◌, foldl, foldl-append}
use Prim.Native.Nat.{ℕ}
use lib.Dec.{eqb}
use borrow.Author.Tests.{eqb-true, eq-eqb}
use lib.ListN.{length, length-map}
use Rattle.words.specs.Lists.{◌among◌, only, is_empty, choices, Distinct}
use Rattle.words.specs.Words.{Word}
use Rattle.words.proofs.Lists.{both, split, each_append, choices-in, choices-out, choices-map, distinct-map}
use Rattle.words.proofs.Lists.{distinct-choices}
use Rattle.words.proofs.Ordered.{rises-distinct}
use Rattle.meaning.specs.Table.{Class, unused, call, return, internal, Row, Table, row_key, Limits, GoodTable}
use Rattle.meaning.specs.Runs.{Config, config, shifted, Takes, Move, Steps, stop, next, said, fresh, Run}
use Rattle.meaning.specs.Trails.{Trail, ground, over, top, stack_of, with_top, carry, trail_from, trail}
use Rattle.meaning.specs.Living.{Place, place, fits, can, goes, moved, begun, living}
use Rattle.meaning.specs.Answers.{starting_states}
use Rattle.meaning.proofs.Reading.{run-said}
use Rattle.meaning.proofs.Shift.{shifted_in, shifted-out}
use Rattle.meaning.proofs.Trails.{At, stack_of-seat, top-seat, takes_at, fresh_at, trail-next}

pub trail-append : (T : Table) (t : Trail) (ρ σ : List Row) → trail_from T t (ρ ++ σ) ≡ trail_from T (trail_from T t ρ) σ
trail-append T t [] σ = refl
trail-append T t (r ∷ ρ) σ = trail-append T (carry (T.class r.symbol) r t) ρ σ

-- the configuration that a place stands for
abbrev config_of : Trail → Word → Config
config_of t o = config (top t).state (stack_of t) o

config_of-at : (t : Trail) (o : Word) → At (config_of t o) t
config_of-at t o = record { state = refl; stack = refl }

-- a row that takes a configuration fits its trail
some-follows : {l : List (List ℕ)} {s : List ℕ} → s among l → not (is_empty l) ≡ true
some-follows (Memᴰ.head e) = refl
some-follows (Memᴰ.tail m) = refl

takes-fits : (k : Class) (r : Row) (c d : Config) (t : Trail) → At c t → Takes k r c d → fits k r t ≡ true
takes-fits k r c d t h m =
    both
    (eq-eqb (top t).state r.from (sym h.state ∙ m.from))
    (some-follows (rw h.stack at (shifted_in k r.marker c.stack d.stack m.shifts)))

-- and a row that fits takes a configuration to the top of the trail as it is carried
carry-top : (k : Class) (r : Row) (t : Trail) → not (is_empty (shifted k r.marker (stack_of t))) ≡ true
    → ((top (carry k r t)).state ≡ r.to) × (stack_of (carry k r t) among shifted k r.marker (stack_of t))
carry-top unused r t e = absurd (false≢true e)
carry-top call r t e = (refl, Memᴰ.head refl)
carry-top return r (ground q) e = absurd (false≢true e)
carry-top return r (over q m t) e = (top-seat r.to t, go (eqb m r.marker) e)
  where
    go : (b : Bool) → not (is_empty (only b (stack_of t))) ≡ true → stack_of (with_top r.to t) among only b (stack_of t)
    go true f = Memᴰ.head (stack_of-seat r.to t)
    go false f = absurd (false≢true f)
carry-top internal r t e = (top-seat r.to t, Memᴰ.head (stack_of-seat r.to t))

fits-takes : (k : Class) (r : Row) (c : Config) (t : Trail) → At c t → fits k r t ≡ true
    → Takes k r c (config_of (carry k r t) (c.output ++ r.word))
fits-takes k r c t h f =
    let e = split (eqb (top t).state r.from) (not (is_empty (shifted k r.marker (stack_of t)))) f in
    let g = carry-top k r t e.1 in
    record {
      from = h.state ∙ eqb-true (top t).state r.from e.0;
      to = g.0;
      shifts = rw h.stack (shifted-out k r.marker (stack_of t) (stack_of (carry k r t)) g.1);
      writes = refl;
    }

-- The runs themselves, listed in the same order: R-2, "A run is its starting state and its rows"

pub record Trace : Type 0 where
  pub start : ℕ
  pub rows : List Row

abbrev pub trace : ℕ → List Row → Trace
trace q ρ = record { start = q; rows = ρ }

abbrev pub trail_of : Table → Trace → Trail
trail_of T t = trail_from T (ground t.start) t.rows

abbrev extends : Table → ℕ → Trace → Row → Bool
extends T a t r = eqb r.symbol a && fits (T.class a) r (trail_of T t)

abbrev extended : Trace → Row → Trace
extended t r = trace t.start (t.rows ++ r ∷ [])

abbrev grown : Table → List Trace → ℕ → List Trace
grown T X a = choices (extends T a) extended X T.rows

abbrev sprung : Table → List Trace
sprung T = map (λ q. trace q []) T.starting

abbrev pub traces : Table → Word → List Trace
traces T u = foldl (grown T) (sprung T) u

trail-extended : (T : Table) (t : Trace) (r : Row) {a : ℕ} → r.symbol ≡ a
    → trail_of T (extended t r) ≡ carry (T.class a) r (trail_of T t)
trail-extended T t r e =
    trail-append T (ground t.start) t.rows (r ∷ []) ∙ trail-next T (trail_of T t) r [] e

-- a run on from a trace that is listed is listed
steps-trace : (T : Table) {c e : Config} {u : Word} {ρ : List Row} → Steps T c u ρ e → (t : Trace) (X : List Trace)
    → At c (trail_of T t) → t among X → trace t.start (t.rows ++ ρ) among foldl (grown T) X u
steps-trace T stop t X h m = Memᴰ.cast (ap (trace t.start) (append-nil t.rows)) m
steps-trace T (next {a} {u} {r} {ρ} {c} {d} {e} v s) t X h m =
    let k = T.class a in
    let n : extended t r among grown T X a =
    choices-in (extends T a) extended X T.rows
    (record {
      one = t;
      other = r;
      first = m;
      second = v.row;
      passes = both (eq-eqb r.symbol a v.reads) (takes-fits k r c d (trail_of T t) h v.takes);
      is = refl;
    }) in
    let g = subst (At d) (sym (trail-extended T t r v.reads)) (takes_at k r c d (trail_of T t) h v.takes) in
    Memᴰ.cast
    (ap (trace t.start) (sym (append_assoc t.rows (r ∷ []) ρ)))
    (steps-trace T s (extended t r) (grown T X a) g n)

-- and what is listed is a run on from a trace that was listed
record Back (T : Table) (u : Word) (X : List Trace) (t : Trace) : Type 0 where
  was : Trace
  listed : was among X
  rows : List Row
  is : t ≡ trace was.start (was.rows ++ rows)
  steps : (c : Config) → At c (trail_of T was) → (e : Config) × Steps T c u rows e

back : (T : Table) (u : Word) (X : List Trace) (t : Trace) → t among foldl (grown T) X u → Back T u X t
back T [] X t m =
    record {
      was = t;
      listed = m;
      rows = [];
      is = ap (trace t.start) (sym (append-nil t.rows));
      steps = λ c h. (c, stop);
    }
back T (a ∷ u) X t m = go (back T u (grown T X a) t m)
  where
    go : Back T u (grown T X a) t → Back T (a ∷ u) X t
    go b =
        let k = choices-out (extends T a) extended X T.rows b.listed in
        let s = k.one in
        let r = k.other in
        let p = split (eqb r.symbol a) (fits (T.class a) r (trail_of T s)) k.passes in
        let reads = eqb-true r.symbol a p.0 in
        record {
          was = s;
          listed = k.first;
          rows = r ∷ b.rows;
          is =
              b.is
              ∙ ap (λ (w : Trace). trace w.start (w.rows ++ b.rows)) k.is
              ∙ ap (trace s.start) (append_assoc s.rows (r ∷ []) b.rows);
          steps = λ c h.
              let t' = carry (T.class a) r (trail_of T s) in
              let d = config_of t' (c.output ++ r.word) in
              let e : trail_of T b.was ≡ t' = ap (trail_of T) k.is ∙ trail-extended T s r reads in
              let g = b.steps d (subst (At d) (sym e) (config_of-at t' (c.output ++ r.word))) in
              let v : Move T a r c d =
              record { row = k.second; reads = reads; takes = fits-takes (T.class a) r c (trail_of T s) h p.1 } in
              (g.0, next {e = g.0} v g.1);
        }

-- a trace is listed exactly when it is a run
pub run-trace : {T : Table} {u : Word} (r : Run T u) → trace r.start r.rows among traces T u
run-trace {T} r =
    steps-trace T r.steps (trace r.start []) (sprung T) (fresh_at r.start)
    (Memᴰ.map (λ q. trace q []) r.starts)

pub trace-run : (T : Table) (u : Word) (t : Trace) → t among traces T u
    → (r : Run T u) × (t ≡ trace r.start r.rows)
trace-run T u t m = go (back T u (sprung T) t m)
  where
    go : Back T u (sprung T) t → (r : Run T u) × (t ≡ trace r.start r.rows)
    go b =
        let s = Memᴰ.of_map (λ q. trace q []) T.starting b.listed in
        let e = sym s.2 in
        let h = subst (λ (w : Trace). At (fresh s.0) (trail_of T w)) s.2 (fresh_at s.0) in
        let g = b.steps (fresh s.0) h in (
          record { start = s.0; rows = b.rows; end = g.0; starts = s.1; steps = g.1 },
          b.is ∙ ap (λ (w : Trace). trace w.start (w.rows ++ b.rows)) e,
        )

-- each run once, in a good table
snoc-one : (ρ σ : List Row) (r s : Row) → ρ ++ r ∷ [] ≡ σ ++ s ∷ [] → (ρ ≡ σ) × (r ≡ s)
snoc-one [] [] r s e = (refl, head-eq_of_cons-eq e)
snoc-one [] (x ∷ []) r s e = absurd (nil≢cons (tail-eq_of_cons-eq e))
snoc-one [] (x ∷ y ∷ σ) r s e = absurd (nil≢cons (tail-eq_of_cons-eq e))
snoc-one (x ∷ []) [] r s e = absurd (nil≢cons (sym (tail-eq_of_cons-eq e)))
snoc-one (x ∷ y ∷ ρ) [] r s e = absurd (nil≢cons (sym (tail-eq_of_cons-eq e)))
snoc-one (x ∷ ρ) (y ∷ σ) r s e =
    let h = head-eq_of_cons-eq e in
    let t = snoc-one ρ σ r s (tail-eq_of_cons-eq e) in
    (cc t.0, t.1)

traces-from : (T : Table) → Distinct T.rows → (X : List Trace) (u : Word) → Distinct X
    → Distinct (foldl (grown T) X u)
traces-from T d X [] e = e
traces-from T d X (a ∷ u) e =
    traces-from T d (grown T X a) u
    (distinct-choices (extends T a) extended X T.rows e d
    (λ x v r s f.
    let g = snoc-one x.rows v.rows r s (ap (λ (t : Trace). t.rows) f) in
    (λ i. trace (f i).start (g.0 i), g.1)))

pub traces-distinct : {L : Limits} {T : Table} → GoodTable L T → (u : Word) → Distinct (traces T u)
traces-distinct {T = T} g u =
    traces-from T (rises-distinct row_key T.rows g.rise) (sprung T) u
    (distinct-map (λ q. trace q []) T.starting (rises-distinct (λ q. q ∷ []) T.starting g.starting.rise)
    (λ p q e. ap (λ (t : Trace). t.start) e))

-- the living places are those of the traces, one for each
abbrev pub place_of : Table → Trace → Place
place_of T t = place (trail_of T t) (said t.rows)

traced : (T : Table) (X : List Trace) (u : Word)
    → foldl (moved T) (map (place_of T) X) u ≡ map (place_of T) (foldl (grown T) X u)
traced T X [] = refl
traced T X (a ∷ u) = ap (λ (Y : List Place). foldl (moved T) Y u) one ∙ traced T (grown T X a) u
  where
    make : (t : Trace) (r : Row) → extends T a t r ≡ true → goes T a (place_of T t) r ≡ place_of T (extended t r)
    make t r e =
        let s = split (eqb r.symbol a) (fits (T.class a) r (trail_of T t)) e in
        let f = trail-extended T t r (eqb-true r.symbol a s.0) in
        let g : said (t.rows ++ r ∷ []) ≡ said t.rows ++ r.word =
        each_append (λ r. r.word) t.rows (r ∷ []) ∙ ap (λ (w : Word). said t.rows ++ w) (append-nil r.word) in
        λ i. place (sym f i) (sym g i)

    one : moved T (map (place_of T) X) a ≡ map (place_of T) (grown T X a)
    one = choices-map (place_of T) (place_of T) (extends T a) (can T a) extended (goes T a) (λ t r. refl) make X T.rows

pub living-traces : (T : Table) (u : Word) → living T u ≡ map (place_of T) (traces T u)
living-traces T u =
    ap (λ (X : List Place). foldl (moved T) X u) (sym (map-map (place_of T) (λ q. trace q []) T.starting))
    ∙ traced T (sprung T) u

-- one symbol more moves what is living
pub living-snoc : (T : Table) (u : Word) (a : ℕ) → living T (u ++ a ∷ []) ≡ moved T (living T u) a
living-snoc T u a = foldl-append (moved T) (begun T) u (a ∷ [])

-- a run over `u` has the trail `t` and the output `o`
pub record Reaches (T : Table) (u : Word) (t : Trail) (o : Word) : Type 0 where
  pub run : Run T u
  pub trail : trail run ≡ t
  pub output : run.end.output ≡ o

-- a place is listed exactly when a run over the message has that trail and output
pub run-living : {T : Table} {u : Word} (r : Run T u) → place (trail r) r.end.output among living T u
run-living {T} {u} r =
    subst (λ (X : List Place). place (trail r) r.end.output among X) (sym (living-traces T u))
    (Memᴰ.cast (ap (place (trail r)) (run-said T r.steps)) (Memᴰ.map (place_of T) (run-trace r)))

pub living-run : (T : Table) (u : Word) (t : Trail) (o : Word) → place t o among living T u → Reaches T u t o
living-run T u t o m =
    let l = subst (λ (X : List Place). place t o among X) (living-traces T u) m in
    let x = Memᴰ.of_map (place_of T) (traces T u) l in
    let y = trace-run T u x.0 x.1 in
    let e : place_of T (trace y.0.start y.0.rows) ≡ place t o = ap (place_of T) (sym y.1) ∙ x.2 in
    record {
      run = y.0;
      trail = ap (λ (p : Place). p.trail) e;
      output = run-said T y.0.steps ∙ ap (λ (p : Place). p.output) e;
    }

pub living-exact : (T : Table) (u : Word) (t : Trail) (o : Word) → (place t o among living T u) ↔ Reaches T u t o
living-exact T u t o = (
  living-run T u t o,
  λ r. Memᴰ.cast (λ i. place (sym r.trail i) (sym r.output i)) (run-living r.run),
)

-- begin reports one starting state for each run over the empty message
pub begun-count : (T : Table) → starting_states T ≡ length (living T [])
begun-count T = sym (length-map T.starting (λ q. place (ground q) []))
