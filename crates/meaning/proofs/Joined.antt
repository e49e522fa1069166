-- The parts of a joined table: its pairs of states, its markers and its rows. Assumes nothing.
use mathlib.Core.Path.{◌≡◌, refl, sym, ap, subst}
use mathlib.Core.Bool.{true}
use mathlib.Core.List.Memᴰ
use mathlib.Core.List.{List, [], map, reverse, reverse-reverse}
use mathlib.Core.List.{head-eq_of_cons-eq, tail-eq_of_cons-eq}
use Prim.Native.Nat.{ℕ, ◌<◌, ◌+◌, ◌*◌, ◌/◌}
use native.Mathlib.Nat.{mod-eq_of_lt, mul-add-mod_self_right, mul-add-div_right, div-eq_of_lt}
use native.Mathlib.Omega.{arith}
use lib.Dec.{eqb}
use borrow.Author.Tests.{eqb-true, eq-eqb}
use Rattle.words.specs.Lists.{◌among◌, each, only, up_to}
use Rattle.words.specs.Order.{Rises}
use Rattle.words.proofs.Lists.{each_in, each-out, only-in, only_out, up_to-in, up_to-out}
use Rattle.words.proofs.Arranged.{arranged-in, arranged-out, arranged-rises, rank-one}
use Rattle.meaning.specs.Table.{Class, call, return, is, Row, Table, row_key, Limits, GoodTable}
use Rattle.meaning.specs.Runs.{Config, config, Steps}
use Rattle.meaning.specs.Joining.{readings, pair_number, pairs_of, Mark, mark, mark_key, pushed, marks, mark_number}
use Rattle.meaning.specs.Joining.{starts_of}
use Rattle.meaning.specs.Joining.{leaves, joined_row, rows_from, rows_of, joined}
use Rattle.meaning.proofs.Shift.{is-in, is-out}
use Rattle.meaning.proofs.Reading.{endings-out, run_inside}

-- pairs of states

pub pair_one : (n p q r s : ℕ) → q < n → s < n → pair_number n p q ≡ pair_number n r s → (p ≡ r) × (q ≡ s)
pair_one n p q r s h k e =
    let a : q ≡ s = cc (mul-add-mod_self_right p n q, mul-add-mod_self_right r n s, mod-eq_of_lt h, mod-eq_of_lt k) in
    let z : 0 < n = omega arith in
    let f : (p * n + q) / n ≡ (r * n + s) / n = ap (λ (x : ℕ). x / n) e in
    (omega (arith, mul-add-div_right z p q, mul-add-div_right z r s, div-eq_of_lt h, div-eq_of_lt k), a)

pub pairs_of-in : (n : ℕ) {ps qs : List ℕ} {p q : ℕ} → p among ps → q among qs → pair_number n p q among pairs_of n ps qs
pairs_of-in n {ps} {qs} {p} m k = each_in (λ p. map (pair_number n p) qs) ps m (Memᴰ.map (pair_number n p) k)

pub pairs_of-out : (n : ℕ) (ps qs : List ℕ) {x : ℕ} → x among pairs_of n ps qs
    → (p : ℕ) × (q : ℕ) × (p among ps) × (q among qs) × (pair_number n p q ≡ x)
pairs_of-out n ps qs m =
    let x = each-out (λ p. map (pair_number n p) qs) ps m in
    let y = Memᴰ.of_map (pair_number n x.0) qs x.2 in
    (x.0, y.0, x.1, y.1, y.2)

pub pairs_of-parts : (n : ℕ) (ps qs : List ℕ) (p q : ℕ) → ((s : ℕ) → s among qs → s < n) → q < n
    → pair_number n p q among pairs_of n ps qs → (p among ps) × (q among qs)
pairs_of-parts n ps qs p q below h m =
    let x = pairs_of-out n ps qs m in
    let e = pair_one n x.0 x.1 p q (below x.1 x.3) h x.4 in
    (rw e.0 at x.2, rw e.1 at x.3)

-- what the rows of a table make with each of `n` states
module _ {A : Type 0} (f : Row → ℕ → List A) (n : ℕ) (l : List Row) where
  abbrev made : List A
  made = each (λ x. each (f x) (up_to n)) l

  made_in : {x : Row} {q : ℕ} {y : A} → x among l → q < n → y among f x q → y among made
  made_in {x} {q} m h i = each_in (λ x. each (f x) (up_to n)) l m (each_in (f x) (up_to n) (up_to-in n q h) i)

  made-out : {y : A} → y among made → (x : Row) × (q : ℕ) × (x among l) × (q < n) × (y among f x q)
  made-out m =
      let a = each-out (λ x. each (f x) (up_to n)) l m in
      let b = each-out (f a.0) (up_to n) a.2 in
      (a.0, b.0, a.1, up_to-out n b.0 b.1, b.2)

-- marks and their numbers

mark_key-one : (x y : Mark) → mark_key x ≡ mark_key y → x ≡ y
mark_key-one x y e =
    let f : x.marker ≡ y.marker = head-eq_of_cons-eq e in
    let h = ap reverse (tail-eq_of_cons-eq e) in
    let g : x.left ≡ y.left = cc (reverse-reverse x.left, reverse-reverse y.left) in
    λ i. mark (f i) (g i)

row_key-one : (r s : Row) → row_key r ≡ row_key s → r ≡ s
row_key-one r s e =
    let a : r.symbol ≡ s.symbol = cc in
    let b : r.from ≡ s.from = cc in
    let c : r.marker ≡ s.marker = cc in
    let d : r.to ≡ s.to = cc in
    let f : r.word ≡ s.word = cc in
    λ i. record { symbol = a i; from = b i; to = d i; marker = c i; word = f i }

module _ (L : List Mark) where
  pub number-one : (x y : Mark) → x among L → y among L → mark_number L x ≡ mark_number L y → x ≡ y
  number-one x y m n e = rank-one mark_key mark_key-one L x y m n (omega arith)

  -- a return row's word is read from the lists of the marks that have its marker
  pub starts-out : (m : ℕ) (s : List ℕ) → s among starts_of L return m → mark m s among L
  starts-out m s i =
      let x = each-out (λ y. only (eqb y.marker m) y.left) L i in
      let z = only_out (eqb x.0.marker m) x.2 in
      let f = eqb-true x.0.marker m z.0 in
      Memᴰ.cast (λ i. mark (sym f i) (z.1 i)) x.1

  pub starts-in : (m : ℕ) (y : Mark) → y among L → y.marker ≡ m → y.left among starts_of L return m
  starts-in m y i f = each_in (λ y. only (eqb y.marker m) y.left) L i (only-in (eq-eqb y.marker m f))

module _ (A B : Table) where
  -- what a joined row comes of: a row of the first, and how the second reads its word
  pub record Joins : Type 0 where
    pub by : Row
    pub at : ℕ
    pub start : List ℕ
    pub end : Config
    pub row : by among A.rows
    pub inside : at < B.states
    pub starts : start among starts_of (marks A B) (A.class by.symbol) by.marker
    pub reading : end among readings B by at start
    pub left : leaves (A.class by.symbol) end.stack ≡ true

  abbrev pub row_of : Joins → Row
  row_of j = joined_row B (marks A B) (A.class j.by.symbol) j.by j.at j.start j.end

  pub joins-in : (j : Joins) → row_of j among (joined A B).rows
  joins-in j =
      let k = A.class j.by.symbol in
      arranged-in row_key row_key-one (row_of j) (made (rows_of A B (marks A B)) B.states A.rows)
      (made_in (rows_of A B (marks A B)) B.states A.rows j.row j.inside
      (each_in (rows_from B (marks A B) k j.by j.at) (starts_of (marks A B) k j.by.marker) j.starts
      (each_in _ (readings B j.by j.at j.start) j.reading (only-in j.left))))

  pub joins-out : (r : Row) → r among (joined A B).rows → (j : Joins) × (r ≡ row_of j)
  joins-out r m =
      let b = made-out (rows_of A B (marks A B)) B.states A.rows (arranged-out row_key r _ m) in
      let k = A.class b.0.symbol in
      let d = each-out (rows_from B (marks A B) k b.0 b.1) (starts_of (marks A B) k b.0.marker) b.4 in
      let e = each-out _ (readings B b.0 b.1 d.0) d.2 in
      let f = only_out (leaves k e.0.stack) e.2 in
      let j : Joins =
      record {
        by = b.0;
        at = b.1;
        start = d.0;
        end = e.0;
        row = b.2;
        inside = b.3;
        starts = d.1;
        reading = e.1;
        left = f.0;
      } in
      (j, f.1)

  pub joined-rises : Rises row_key (joined A B).rows
  joined-rises = arranged-rises row_key (made (rows_of A B (marks A B)) B.states A.rows)

  -- the second's run of which it comes
  pub steps : (j : Joins) → (ρ : List Row) × Steps B (config j.at j.start []) j.by.word ρ j.end
  steps j = endings-out B j.by.word (config j.at j.start []) j.end j.reading

  pub end-inside : {L : Limits} → GoodTable L B → (j : Joins) → j.end.state < B.states
  end-inside good j = run_inside B good (steps j).1 j.inside

  -- the joined markers are those that a joined call row pushes

  abbrev pub Calls : Joins → Type 0
  Calls j = A.class j.by.symbol ≡ call

  abbrev pub pushes : Joins → Mark
  pushes j = mark j.by.marker j.end.stack

  pub call-start : (j : Joins) → Calls j → j.start ≡ []
  call-start j c =
      Memᴰ.eq_of_singleton
      (subst (λ (k : Class). j.start among starts_of (marks A B) k j.by.marker) c j.starts)

  pub marks-in : (j : Joins) → Calls j → pushes j among marks A B
  marks-in j c =
      arranged-in mark_key mark_key-one (pushes j) (made (pushed A B) B.states A.rows)
      (made_in (pushed A B) B.states A.rows j.row j.inside
      (each_in _ (readings B j.by j.at []) (rw (call-start j c) at j.reading) (only-in (is-in c))))

  pub marks-out : (y : Mark) → y among marks A B → (j : Joins) × Calls j × (y ≡ pushes j)
  marks-out y m =
      let b = made-out (pushed A B) B.states A.rows (arranged-out mark_key y _ m) in
      let k = A.class b.0.symbol in
      let d = each-out _ (readings B b.0 b.1 []) b.4 in
      let f = only_out (is k call) d.2 in
      let c : k ≡ call = is-out k call f.0 in
      let j : Joins =
      record {
        by = b.0;
        at = b.1;
        start = [];
        end = d.0;
        row = b.2;
        inside = b.3;
        starts = rw c (Memᴰ.head refl);
        reading = d.1;
        left = ap (λ (k : Class). leaves k d.0.stack) c;
      } in
      (j, c, f.1)
