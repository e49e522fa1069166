-- The trail of a run is what document 01 says: at each level the pair of the last configuration there.
-- Assumes nothing.
use mathlib.Core.Path.{◌≡◌, refl, sym, ◌∙◌, ap}
use mathlib.Core.Logic.{◌⊎◌, inl, inr}
use mathlib.Core.List.Memᴰ
use mathlib.Core.List.{List, [], ◌∷◌, ◌++◌, append_assoc, nil≢cons}
use mathlib.Core.List.{head-eq_of_cons-eq, tail-eq_of_cons-eq}
use Prim.Native.Nat.{ℕ, ◌<◌, ◌≤◌}
use native.Mathlib.Omega.{arith}
use lib.ListN.{length}
use Rattle.words.specs.Lists.{◌among◌}
use Rattle.words.specs.Words.{Word}
use Rattle.meaning.specs.Table.{Class, unused, call, return, internal, Row, Table}
use Rattle.meaning.specs.Runs.{Config, Takes, Steps, stop, next, fresh, Run}
use Rattle.meaning.specs.Trails.{Trail, ground, over, Pair, top, height, stack_of, with_top, carry, trail_from}
use Rattle.meaning.specs.Trails.{trail_key, trail}

-- a configuration stands at the top of a trail
pub record At (c : Config) (t : Trail) : Type 0 where
  pub state : c.state ≡ (top t).state
  pub stack : c.stack ≡ stack_of t

pub stack_of-seat : (q : ℕ) (t : Trail) → stack_of (with_top q t) ≡ stack_of t
stack_of-seat q (ground p) = refl
stack_of-seat q (over p m t) = refl

pub top-seat : (q : ℕ) (t : Trail) → (top (with_top q t)).state ≡ q
top-seat q (ground p) = refl
top-seat q (over p m t) = refl

-- a move of a configuration moves its trail
pub takes_at : (k : Class) (r : Row) (c d : Config) (t : Trail) → At c t → Takes k r c d → At d (carry k r t)
takes_at unused r c d t h m = absurd m.shifts
takes_at call r c d t h m = record { state = m.to; stack = cc (m.shifts, h.stack) }
takes_at return r c d (ground q) h m = absurd (nil≢cons (sym h.stack ∙ m.shifts))
takes_at return r c d (over q n t) h m =
    record { state = cc (m.to, top-seat r.to t); stack = cc (m.shifts, h.stack, stack_of-seat r.to t) }
takes_at internal r c d t h m =
    record { state = cc (m.to, top-seat r.to t); stack = cc (m.shifts, h.stack, stack_of-seat r.to t) }

pub fresh_at : (q : ℕ) → At (fresh q) (ground q)
fresh_at q = record { state = refl; stack = refl }

-- the row's symbol is the one that is read
pub trail-next : (T : Table) (t : Trail) (r : Row) (ρ : List Row) {a : ℕ} → r.symbol ≡ a
    → trail_from T t (r ∷ ρ) ≡ trail_from T (carry (T.class a) r t) ρ
trail-next T t r ρ e = ap (λ (n : ℕ). trail_from T (carry (T.class n) r t) ρ) e

-- at its end a run stands at the top of its trail
pub steps-at : (T : Table) {c e : Config} {u : Word} {ρ : List Row} → Steps T c u ρ e → (t : Trail) → At c t
    → At e (trail_from T t ρ)
steps-at T stop t h = h
steps-at T (next {a} {u} {r} {ρ} {c} {d} {e} v s) t h =
    let k = T.class a in
    rw (trail-next T t r ρ v.reads) (steps-at T s (carry k r t) (takes_at k r c d t h v.takes))

pub run_at : {T : Table} {u : Word} (r : Run T u) → At r.end (trail r)
run_at {T} r = steps-at T r.steps (ground r.start) (fresh_at r.start)

-- trails with one key are the same
pub trail_key-one : (t s : Trail) → trail_key t ≡ trail_key s → t ≡ s
trail_key-one (ground q) (ground p) e = ap ground (head-eq_of_cons-eq e)
trail_key-one (ground q) (over p n (ground r)) e = absurd (nil≢cons (tail-eq_of_cons-eq (tail-eq_of_cons-eq e)))
trail_key-one (ground q) (over p n (over r m s)) e = absurd (nil≢cons (tail-eq_of_cons-eq (tail-eq_of_cons-eq e)))
trail_key-one (over q m (ground r)) (ground p) e = absurd (nil≢cons (sym (tail-eq_of_cons-eq (tail-eq_of_cons-eq e))))
trail_key-one (over q m (over r n t)) (ground p) e = absurd (nil≢cons (sym (tail-eq_of_cons-eq (tail-eq_of_cons-eq e))))
trail_key-one (over q m t) (over p n s) e =
    let a = head-eq_of_cons-eq e in
    let b = head-eq_of_cons-eq (tail-eq_of_cons-eq e) in
    let c = trail_key-one t s (tail-eq_of_cons-eq (tail-eq_of_cons-eq e)) in
    cc

-- "The pair at level i below d is that just before the still open call that led to level i+1. The pair at level d is
-- the present one": of the configurations of a run, the last at depth `i` has the pair `p`, and all after it are deeper
abbrev pub visited : {T : Table} {c e : Config} {u : Word} {ρ : List Row} → Steps T c u ρ e → List Config
visited (stop {c}) = c ∷ []
visited (next {c = c} v s) = c ∷ visited s

abbrev pub top_marker : List ℕ → ℕ
top_marker [] = 0
top_marker (m ∷ ms) = m

pub record LastAt (i : ℕ) (p : Pair) (H : List Config) : Type 0 where
  pub before : List Config
  pub at : Config
  pub after : List Config
  pub parts : H ≡ before ++ at ∷ after
  pub level : length at.stack ≡ i
  pub state : at.state ≡ p.state
  pub marker : top_marker at.stack ≡ p.marker
  pub deeper : (c : Config) → c among after → i < length c.stack

-- a trail is the lower part of another
pub data Under (t : Trail) : Trail → Type 0 where
  same : Under t t
  more : {q m : ℕ} {s : Trail} → Under t s → Under t (over q m s)

pub under-height : (t s : Trail) → Under t s → height t ≤ height s
under-height t s same = omega arith
under-height t (over q m s) (more u) = omega (arith, under-height t s u)

-- the trail `t` is right about the configurations `H`: at each of its levels it has the pair that the document says
abbrev pub Right : List Config → Trail → Type 0
Right H t = (s : Trail) → Under s t → LastAt (height s) (top s) H

marker-stack_of : (t : Trail) → top_marker (stack_of t) ≡ (top t).marker
marker-stack_of (ground q) = refl
marker-stack_of (over q m t) = refl

present : (H : List Config) (d : Config) (t : Trail) → At d t → LastAt (height t) (top t) (H ++ d ∷ [])
present H d t h =
    record {
      before = H;
      at = d;
      after = [];
      parts = refl;
      level = ap length h.stack;
      state = h.state;
      marker = ap top_marker h.stack ∙ marker-stack_of t;
      deeper = λ c m. elim m [ ];
    }

stays : (i : ℕ) (p : Pair) (H : List Config) (d : Config) → LastAt i p H → i < length d.stack
    → LastAt i p (H ++ d ∷ [])
stays i p H d l lt =
    record {
      before = l.before;
      at = l.at;
      after = l.after ++ d ∷ [];
      parts = ap (λ (k : List Config). k ++ d ∷ []) l.parts ∙ append_assoc l.before (l.at ∷ l.after) (d ∷ []);
      level = l.level;
      state = l.state;
      marker = l.marker;
      deeper = λ c m. go c (Memᴰ.append_cases l.after m);
    }
  where
    go : (c : Config) → (c among l.after) ⊎ (c among d ∷ []) → i < length c.stack
    go c (inl m) = l.deeper c m
    go c (inr m) = rw (Memᴰ.eq_of_singleton m) lt

-- what lies under the trail after a move is the trail itself, or lay under the trail before and is less deep
carried : (k : Class) (r : Row) (t s : Trail) → Under s (carry k r t)
    → (s ≡ carry k r t) ⊎ (Under s t × (height s < height (carry k r t)))
carried unused r t s same = inl refl
carried unused r (over q m t) s (more u) = inr (more u, omega (arith, under-height s t u))
carried call r t s same = inl refl
carried call r t s (more u) = inr (u, omega (arith, under-height s t u))
carried return r (ground q) s same = inl refl
carried return r (over q m (ground p)) s same = inl refl
carried return r (over q m (over p n t)) s same = inl refl
carried return r (over q m (over p n t)) s (more u) = inr (more (more u), omega (arith, under-height s t u))
carried internal r (ground q) s same = inl refl
carried internal r (over q m t) s same = inl refl
carried internal r (over q m t) s (more u) = inr (more u, omega (arith, under-height s t u))

right-move : (k : Class) (r : Row) (c d : Config) (t : Trail) (H : List Config) → At c t → Takes k r c d → Right H t
    → Right (H ++ d ∷ []) (carry k r t)
right-move k r c d t H h m right s u = go (carried k r t s u)
  where
    there : At d (carry k r t)
    there = takes_at k r c d t h m

    go : (s ≡ carry k r t) ⊎ (Under s t × (height s < height (carry k r t))) → LastAt (height s) (top s) (H ++ d ∷ [])
    go (inl e) = rw e (present H d (carry k r t) there)
    go (inr l) = stays (height s) (top s) H d (right s l.0) (rw there.stack l.1)

right-steps : (T : Table) {c e : Config} {u : Word} {ρ : List Row} (s : Steps T c u ρ e) (t : Trail) (H : List Config)
    → At c t → Right (H ++ c ∷ []) t → Right (H ++ visited s) (trail_from T t ρ)
right-steps T stop t H h right = right
right-steps T (next {a} {u} {r} {ρ} {c} {d} {e} v s) t H h right =
    let k = T.class a in
    let ih =
    right-steps T s (carry k r t) (H ++ c ∷ []) (takes_at k r c d t h v.takes)
    (right-move k r c d t (H ++ c ∷ []) h v.takes right) in
    λ s u. rw append_assoc at (ih s (rw (trail-next T t r ρ v.reads) at u))

-- of every run, the trail is what the document says
pub trail-right : {T : Table} {u : Word} (r : Run T u) → Right (visited r.steps) (trail r)
trail-right {T} r = right-steps T r.steps (ground r.start) [] (fresh_at r.start) base
  where
    base : Right (fresh r.start ∷ []) (ground r.start)
    base s same = present [] (fresh r.start) (ground r.start) (fresh_at r.start)
