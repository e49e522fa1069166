-- The joined table of two good tables is good, if it is not too large. Assumes nothing.
use mathlib.Core.Path.{◌≡◌, refl, sym, ◌∙◌, subst}
use mathlib.Core.Bool.{false, true≢false}
use mathlib.Core.Logic.{inl, inr}
use mathlib.Core.List.Memᴰ
use mathlib.Core.List.{List, [], ◌∷◌, map}
use Prim.Native.Nat.{ℕ, ◌<◌, ◌≤◌, ◌*◌}
use native.Mathlib.Nat.{mul-le-mul_right, mul-pos}
use native.Mathlib.Omega.{arith}
use lib.ListN.{length}
use borrow.Author.Tests.{not-false}
use Rattle.words.specs.Lists.{◌among◌}
use Rattle.words.specs.Order.{Less, Rises}
use Rattle.words.proofs.Lists.{each-out}
use Rattle.words.proofs.Ordered.{first-less, rises-map, rises-append}
use Rattle.words.proofs.Arranged.{rank_below}
use Rattle.meaning.specs.Table.{Class, unused, call, return, internal, Row, Table, Limits, MarkFits, GoodSet}
use Rattle.meaning.specs.Table.{GoodRow, GoodTable}
use Rattle.meaning.specs.Nesting.{Nests}
use Rattle.meaning.specs.Joining.{pair_number, pairs_of, Mark, mark, mark_key, marks, mark_number, starts_of, marker_of}
use Rattle.meaning.specs.Joining.{joined}
use Rattle.meaning.specs.Joining.{large, join_tests, join_number}
use Rattle.meaning.proofs.Nesting.{nests-exact}
use Rattle.meaning.proofs.Reading.{run-said, run-rows}
use Rattle.meaning.proofs.Joined.{pairs_of-in, pairs_of-out, starts-out, Joins, row_of, joins-out, steps}
use Rattle.meaning.proofs.Joined.{end-inside, marks-in, joined-rises}
use Rattle.meaning.proofs.JoinNumber.{large-exact}
use Rattle.meaning.specs.Sentences.{TooLarge}
use Rattle.meaning.proofs.Tests.{fails}

-- sets of pairs

pair-below : (m n p q : ℕ) → p < m → q < n → pair_number n p q < m * n
pair-below m n p q h k = let l = mul-le-mul_right n h in omega arith

abbrev Rising : List ℕ → Type 0
Rising l = Rises (λ q. q ∷ []) l

pairs-rise : (n : ℕ) (ps qs : List ℕ) → Rising ps → Rising qs → ((q : ℕ) → q among qs → q < n)
    → Rising (pairs_of n ps qs)
pairs-rise n [] qs r s h = tt
pairs-rise n (p ∷ ps) qs r s h =
    rises-append (λ q. q ∷ []) (map (pair_number n p) qs) (pairs_of n ps qs)
    (rises-map (λ q. q ∷ []) (λ q. q ∷ []) (pair_number n p) (λ a b l. inl (omega (arith, first-less l))) qs s)
    (pairs-rise n ps qs r.1 s h) (λ x y i k. go x y (Memᴰ.of_map (pair_number n p) qs i) (pairs_of-out n ps qs k))
  where
    go : (x y : ℕ) → (q : ℕ) × (q among qs) × (pair_number n p q ≡ x)
        → (a : ℕ) × (b : ℕ) × (a among ps) × (b among qs) × (pair_number n a b ≡ y) → Less (x ∷ []) (y ∷ [])
    go x y q a =
        let l = mul-le-mul_right n (first-less (r.0 a.0 a.2)) in
        let k = h q.0 q.1 in
        let e = q.2 in
        let f = a.4 in
        inl (omega arith)

good-pairs : (m n : ℕ) (ps qs : List ℕ) → GoodSet m ps → GoodSet n qs → GoodSet (m * n) (pairs_of n ps qs)
good-pairs m n ps qs f g = record { rise = pairs-rise n ps qs f.rise g.rise g.below; below = below }
  where
    below : (s : ℕ) → s among pairs_of n ps qs → s < m * n
    below s i =
        let x = pairs_of-out n ps qs i in
        rw (← x.4) (pair-below m n x.0 x.1 (f.below x.0 x.2) (g.below x.1 x.3))

not-less : {m n : ℕ} → (n < m → ⊥) → m ≤ n
not-less f = omega arith

module _ {L : Limits} (A B : Table) (good_a : GoodTable L A) (good_b : GoodTable L B) where
  number_fits : (x : Mark) → x among marks A B
      → (1 ≤ mark_number (marks A B) x) × (mark_number (marks A B) x ≤ length (marks A B))
  number_fits x m = let h = rank_below mark_key (marks A B) x m in (omega arith, omega arith)

  marker-fits : (k : Class) (m : ℕ) (s t : List ℕ) → s among starts_of (marks A B) k m
      → (k ≡ call → mark m t among marks A B) → MarkFits k (length (marks A B)) (marker_of (marks A B) k m s t)
  marker-fits unused m s t i p = elim i [ ]
  marker-fits call m s t i p = number_fits (mark m t) (p refl)
  marker-fits return m s t i p = number_fits (mark m s) (starts-out (marks A B) m s i)
  marker-fits internal m s t i p = refl

  -- a joined row writes what rows of the second write
  row-bytes : (j : Joins A B) (b : ℕ) → b among j.end.output → b < 256
  row-bytes j b i =
      let x = steps A B j in
      let y = each-out (λ r. r.word) x.0 (rw (run-said B x.1) at i) in
      (good_b.row y.0 (run-rows B x.1 y.0 y.1)).bytes b y.2

  good-row : (r : Row) → r among (joined A B).rows → length r.word ≤ L.word → GoodRow L (joined A B) r
  good-row r m l =
      let x = joins-out A B r m in
      let j : Joins A B = x.0 in
      let g = good_a.row j.by j.row in
      let row : GoodRow L (joined A B) (row_of A B j) =
      record {
        from = pair-below A.states B.states j.by.from j.at g.from j.inside;
        to = pair-below A.states B.states j.by.to j.end.state g.to (end-inside A B good_b j);
        marker =
            marker-fits (A.class j.by.symbol) j.by.marker j.start j.end.stack j.starts
            (marks-in A B j);
        bytes = row-bytes j;
        short = subst (λ (r : Row). length r.word ≤ L.word) x.1 l;
      } in
      subst (GoodRow L (joined A B)) (sym x.1) row

  -- what the joiner writes keeps all the rules of a rule file
  pub joined-good : large L A (joined A B) ≡ false → GoodTable L (joined A B)
  joined-good e =
      record {
        states = (mul-pos good_a.states.0 good_b.states.0, not-less (λ h. fits (inr (inl h))));
        markers = not-less (λ h. fits (inr (inr (inl h))));
        depth_cap = let a = good_a.depth_cap in let b = good_b.depth_cap in omega arith;
        waiting_cap = let a = good_a.waiting_cap in let b = good_b.waiting_cap in omega arith;
        symbols = good_a.symbols;
        starting = good-pairs A.states B.states A.starting B.starting good_a.starting good_b.starting;
        some = (
          pair_number B.states good_a.some.0 good_b.some.0,
          pairs_of-in B.states good_a.some.1 good_b.some.1,
        );
        final = good-pairs A.states B.states A.final B.final good_a.final good_b.final;
        count = not-less (λ h. fits (inr (inr (inr (inl h)))));
        row = λ r m. good-row r m (not-less (λ h. fits (inr (inr (inr (inr (inl (r, m, h))))))));
        rise = joined-rises A B;
      }
    where
      fits : TooLarge L A B → ⊥
      fits x = true≢false (sym ((large-exact L A B).0 x) ∙ e)

  -- where joining is taken, the joined table is good, and demand 3 holds of it
  pub join-good : (room : ℕ) → join_number L room A B ≡ 0 → GoodTable L (joined A B) × Nests B.class A
  join-good room e =
      let f = fails (join_tests L room A B) refl e in
      (joined-good f.1.0, (nests-exact B.class A).1 (not-false _ f.0))
