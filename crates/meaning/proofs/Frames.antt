-- Runs on a stack with more under it: what a run does not pop may as well not be there. Assumes nothing.
use mathlib.Core.Path.{◌≡◌, refl, sym, ◌∙◌, ap}
use mathlib.Core.Option.{some, none-ne-some}
use mathlib.Core.Logic.{◌⊎◌, inl, inr}
use mathlib.Core.List.Memᴰ
use mathlib.Core.List.{List, [], ◌∷◌, ◌++◌, append_assoc, head-eq_of_cons-eq}
use mathlib.Core.List.{tail-eq_of_cons-eq}
use lib.ListN.{length}
use Prim.Native.Nat.{ℕ}
use Rattle.words.specs.Lists.{◌among◌}
use Rattle.words.specs.Words.{Word}
use Rattle.meaning.specs.Table.{Class, unused, call, return, internal, Row, Table}
use Rattle.meaning.specs.Runs.{Config, config, Shifts, Takes, Steps, stop, next}
use Rattle.meaning.specs.Nesting.{after, level}
use Rattle.meaning.proofs.Nesting.{and_then-some}

-- the same configuration with more under its stack, and more written before
abbrev pub framed : List ℕ → Word → Config → Config
framed s o c = config c.state (c.stack ++ s) (o ++ c.output)

shifts-framed : (k : Class) (m : ℕ) (s t u : List ℕ) → Shifts k m s t → Shifts k m (s ++ u) (t ++ u)
shifts-framed unused m s t u e = e
shifts-framed call m s t u e = rw e
shifts-framed return m s t u e = rw e
shifts-framed internal m s t u e = rw e

-- and back, where a class closes no more than what stands above
shifts-unframed : (k : Class) (m : ℕ) (s u t : List ℕ) (n : ℕ) → Shifts k m (s ++ u) t → after k (length s) ≡ some n
    → (v : List ℕ) × Shifts k m s v × (t ≡ v ++ u) × (length v ≡ n)
shifts-unframed unused m s u t n e h = absurd e
shifts-unframed call m s u t n e h = (m ∷ s, refl, e, cc)
shifts-unframed return m [] u t n e h = absurd (none-ne-some n h)
shifts-unframed return m (x ∷ s) u t n e h = (s, rw (head-eq_of_cons-eq e), sym (tail-eq_of_cons-eq e), cc)
shifts-unframed internal m s u t n e h = (s, refl, e, cc)

module _ (T : Table) (s : List ℕ) (o : Word) where
  pub run_framed : {c e : Config} {v : Word} {ρ : List Row} → Steps T c v ρ e
      → Steps T (framed s o c) v ρ (framed s o e)
  run_framed stop = stop
  run_framed (next {a} {u} {r} {ρ} {c} {d} {e} m run) =
      let t = m.takes in
      let w : o ++ d.output ≡ (o ++ c.output) ++ r.word = cc (t.writes, append_assoc o c.output r.word) in
      let f = shifts-framed (T.class a) r.marker c.stack d.stack s t.shifts in
      next
      (record { row = m.row; reads = m.reads; takes = record { from = t.from; to = t.to; shifts = f; writes = w } })
      (run_framed run)

  -- the same run without what is under, and how high its stack then is
  pub record Unframed (c : Config) (v : Word) (ρ : List Row) (e : Config) (n : ℕ) : Type 0 where
    pub end : Config
    pub steps : Steps T c v ρ end
    pub is : e ≡ framed s o end
    pub height : length end.stack ≡ n

  pub run-unframed : {b e : Config} {v : Word} {ρ : List Row} → Steps T b v ρ e → (c : Config) → b ≡ framed s o c
      → (n : ℕ) → level T.class v (length c.stack) ≡ some n → Unframed c v ρ e n
  run-unframed stop c p n h = record { end = c; steps = stop; is = p; height = cc }
  run-unframed (next {a} {u} {r} {d = d} m run) c p n h =
      let x = and_then-some (after (T.class a) (length c.stack)) (level T.class u) h in
      let t = rw p at m.takes in
      let y = shifts-unframed (T.class a) r.marker c.stack s d.stack x.0 t.shifts x.1 in
      let b : Config = config r.to y.0 (c.output ++ r.word) in
      let q = t.writes ∙ append_assoc o c.output r.word in
      let f : d ≡ framed s o b = λ i. config (t.to i) (y.2 i) (q i) in
      let l = run-unframed run b f n (rw y.3 x.2) in
      let w : Takes (T.class a) r c b = record { from = t.from; to = refl; shifts = y.1; writes = refl } in
      record {
        end = l.end;
        steps = next {e = l.end} (record { row = m.row; reads = m.reads; takes = w }) l.steps;
        is = l.is;
        height = l.height;
      }

-- a return row has the marker
pub record Closes (T : Table) (m : ℕ) : Type 0 where
  pub by : Row
  pub row : by among T.rows
  pub returns : T.class by.symbol ≡ return
  pub marker : m ≡ by.marker

-- what stands on a stack is popped by a row of the run, or is there at its end
pub run-closes : (T : Table) {c e : Config} {u : Word} {ρ : List Row} → Steps T c u ρ e
    → ((m : ℕ) → m among e.stack → Closes T m) → (m : ℕ) → m among c.stack → Closes T m
run-closes T stop h = h
run-closes T (next {a} {r = r} {c = c} {d = d} v run) h =
    shifts-closes (T.class a) c.stack d.stack (ap T.class v.reads) v.takes.shifts (run-closes T run h)
  where
    shifts-closes : (k : Class) (s t : List ℕ) → T.class r.symbol ≡ k → Shifts k r.marker s t
        → ((m : ℕ) → m among t → Closes T m) → (m : ℕ) → m among s → Closes T m
    shifts-closes unused s t e f h m i = absurd f
    shifts-closes call s t e f h m i = h m (rw f (Memᴰ.tail i))
    shifts-closes return s t e f h m i = go (Memᴰ.cases_cons (rw f at i))
      where
        go : (m ≡ r.marker) ⊎ (m among t) → Closes T m
        go (inl g) = record { by = r; row = v.row; returns = e; marker = g }
        go (inr l) = h m l
    shifts-closes internal s t e f h m i = h m (rw f i)
