-- What a return row gives, mark after mark: the marks by their keys on a shelf, and the number of each. Assumes
-- nothing.
use mathlib.Core.Path.{◌≡◌, refl, sym, ◌∙◌, ap}
use mathlib.Core.Bool.{Bool}
use mathlib.Core.List.Memᴰ
use mathlib.Core.List.{List, [], ◌∷◌, map, reverse, reverse-reverse, append-nil}
use Prim.Native.Nat.{ℕ, suc, ◌+◌, ◌-◌, ◌<◌, ◌≤◌}
use native.Mathlib.Nat.{zero-add}
use native.Mathlib.Numerals.{add-one}
use native.Mathlib.Omega.{arith}
use borrow.Author.Tests.{eq-eqb, ne_eqb}
use lib.ListN.{length, get_or, take, drop, length-reverse}
use lib.Seq.{take_all, take-length, paste, take-paste}
use Rattle.words.specs.Lists.{◌among◌, each, only, up_to}
use Rattle.words.specs.Words.{Word}
use Rattle.words.specs.Order.{rank}
use Rattle.words.proofs.Lists.{each_map, up_to-in}
use Rattle.words.proofs.Each.{each-each, map_each}
use Rattle.words.proofs.Ordered.{less-self, rises-out}
use Rattle.meaning.specs.Table.{Class, return, Row, row_key}
use Rattle.meaning.specs.Joining.{Mark, mark, mark_key, marks, mark_number, starts_of, rows_from}
use Rattle.meaning.proofs.Reading.{run-level}
use Rattle.meaning.proofs.Joined.{marks-out, steps, call-start}
use Rattle.table.specs.File.{row_at, table_of}
use Rattle.join_shelf.specs.Shelved.{word_at, Held}
use Rattle.join_shelf.proofs.Lists.{rank-at}
use Rattle.join_shelf.proofs.Keys.{keys_kept, keys-rank}
use Rattle.join_nesting.proofs.Levels.{level-small}
use Rattle.join.specs.Gathering.{Small, AllMarks, Marked, close_goal, found_by, mark_of, given_from, given_at}
use Rattle.join.specs.Gathering.{all_marks, pushed_keys}
use Rattle.join.specs.declared.reading.Goal.{Goal}
use Rattle.join.specs.declared.gathering.Wanted.{Wanted}
use Rattle.join.specs.declared.gathering.Wanted.TheVariants.{Rows}
use Rattle.join.proofs.Given.{rows-one, close-keys}

-- all marks stand on the shelf that they were put on, where they are not too many
pub marked_all : {a b keys : List ℕ} {count used : ℕ} → Held (pushed_keys (table_of a) (table_of b)) keys count used
    → count ≤ 64 → AllMarks a b keys count
marked_all {a} {b} h l =
    record {
      numbered = record { standing = h.standing; most = l };
      are = h.are ∙ sym (keys_kept mark_key (all_marks (table_of a) (table_of b)));
    }

pub marked-rows : {wanted : Wanted} {a b keys : List ℕ} {count : ℕ} → wanted ≡ Rows count → Marked wanted a b keys
    → AllMarks a b keys count
marked-rows e m = rw e at m

-- a mark is known by its key
mark-back : (y : Mark) → mark_of (mark_key y) ≡ y
mark-back y = λ i. mark y.marker (reverse-reverse y.left i)

-- what is left of a call row's word is short
pub left-short : {a b : List ℕ} → Small a b → (y : Mark) → y among marks (table_of a) (table_of b) → length y.left ≤ 16
left-short {a} {b} s y m =
    let o = marks-out (table_of a) (table_of b) y m in
    let j = o.0 in
    let from-none = ap length (call-start (table_of a) (table_of b) j o.1) in
    let high = level-small (table_of b).class j.by.word (length j.start)
    (run-level (table_of b) (steps (table_of a) (table_of b) j).1) in
    let is = ap (λ (y : Mark). length y.left) o.2 in
    omega (arith, s.words j.by j.row)

-- a mark that has another marker than the row
pub return-other : (a b : List ℕ) (x q : ℕ) (y : Mark) → (y.marker ≡ (row_at a x).marker → ⊥)
    → [] ≡ given_from a b x q y
unfolding given_from
return-other a b x q y f = rw (ne_eqb y.marker (row_at a x).marker f)

module _ {a b keys : List ℕ} {count : ℕ} (k : AllMarks a b keys count) where
  abbrev L : List Mark
  L = marks (table_of a) (table_of b)

  abbrev key : ℕ → Word
  key = word_at keys

  -- the marks, by their places
  by_place : {T : Type 0} (g : Mark → List T) → each (λ i. g (mark_of (key i))) (up_to count) ≡ each g L
  by_place g =
      sym
      (sym (λ i. each (λ y. g (mark-back y i)) L)
      ∙ sym (each_map (λ w. g (mark_of w)) mark_key L)
      ∙ ap (each (λ w. g (mark_of w))) (sym k.are)
      ∙ each_map (λ w. g (mark_of w)) key (up_to count))

  -- one of them, by its key
  record MarkAt (i : ℕ) : Type 0 where
    pub member : mark_of (key i) among L
    pub is : mark_key (mark_of (key i)) ≡ key i

  mark-at : {i : ℕ} → i < count → MarkAt i
  mark-at {i} l =
      let x = Memᴰ.of_map mark_key L (rw k.are at (Memᴰ.map key (up_to-in count i l))) in
      let same : mark_of (key i) ≡ x.0 = ap mark_of (sym x.2) ∙ mark-back x.0 in
      record { member = Memᴰ.cast same x.1; is = ap mark_key same ∙ x.2 }

  pub key-long : Small a b → {i : ℕ} → i < count → (0 < length (key i)) × (length (key i) ≤ 17)
  key-long s {i} l =
      let m = mark-at l in
      let long = ap length m.is in
      let back = length-reverse (mark_of (key i)).left in
      (omega arith, omega (arith, left-short s (mark_of (key i)) m.member))

  -- its number is its place, from 1
  number_at : {i : ℕ} → i < count → i + 1 ≡ mark_number L (mark_of (key i))
  number_at {i} l =
      sym
      (ap suc
      (keys-rank mark_key L (mark_of (key i))
      ∙ ap (rank (λ (w : Word). w) (map mark_key L)) (mark-at l).is
      ∙ ap (λ (m : List Word). rank (λ (w : Word). w) m (key i)) (sym k.are)
      ∙ rank-at (key i) key count i l refl (λ j m e. apart j m e))
      ∙ sym (add-one i))
    where
      apart : (j : ℕ) → j < i → key i ≡ key j → ⊥
      apart j m e =
          less-self (key i) (rw (← e) at (rises-out (λ (w : Word). w) key count k.numbered.standing.rise j i m l))

  module _ (x q : ℕ) where
    -- all marks
    pub returns-all : (table_of a).class (row_at a x).symbol ≡ return
        → each (λ i. given_from a b x q (mark_of (key i))) (up_to count) ≡ given_at (Rows count) a b x q
    unfolding given_from given_at
    returns-all c =
        let rows : Class → List ℕ → List Row = λ k. rows_from (table_of b) L k (row_at a x) q in
        by_place (given_from a b x q)
        ∙ sym
        (ap (λ (k : Class). map row_key (each (rows k) (starts_of L k (row_at a x).marker))) c
        ∙ ap (map row_key) (each-each (rows return) _ L)
        ∙ map_each row_key _ L)

    -- one that has the row's marker
    pub return-same : {i : ℕ} → i < count → get_or (key i) 0 0 ≡ (row_at a x).marker → {goal : Goal} {s : List ℕ}
        → goal ≡ close_goal a b x q (i + 1) → s ≡ (mark_of (key i)).left → (M : List Word)
        → found_by a b M goal x q s ≡ given_from a b x q (mark_of (key i))
    unfolding given_from
    return-same {i} l e goal-is stack_is M =
        let y = mark_of (key i) in
        let rows = rows_from (table_of b) L return (row_at a x) q in
        (λ j. found_by a b M (goal-is j) x q (stack_is j))
        ∙ rows-one a b x q M return y.left (close_goal a b x q (i + 1))
        (λ d. close-keys a b x q M return y.left d refl (number_at l ∙ ap (mark_number L) (λ i. mark (e i) y.left)))
        ∙ ap (map row_key) (sym (append-nil (rows y.left)))
        ∙ ap (λ (c : Bool). map row_key (each rows (only c y.left))) (sym (eq-eqb y.marker (row_at a x).marker e))

-- the list of a mark stands on the tape from its bottom, where the rest of its key was copied
pub laid : (w tape : Word) {left tape' : Word} → left ≡ take (length w - 1) (drop 1 w)
    → tape' ≡ paste tape 0 left (length left) → reverse (take (length left) tape') ≡ reverse (drop 1 w)
laid w tape {left} e p =
    ap reverse
    (ap (take (length left)) p
    ∙ ap (λ (n : ℕ). take n (paste tape 0 left (length left))) (sym (zero-add (length left)))
    ∙ take-paste tape 0 left (length left) (omega arith) (omega arith)
    ∙ take-length left
    ∙ e
    ∙ rest w)
  where
    rest : (w : Word) → take (length w - 1) (drop 1 w) ≡ drop 1 w
    rest [] = refl
    rest (x ∷ w) = take_all (suc (length w) - 1) w (omega arith)
