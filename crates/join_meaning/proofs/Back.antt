-- The rule file of a good table stands for that table. Assumes nothing.
use mathlib.Core.Path.{◌≡◌, refl, sym, ◌∙◌, ap}
use mathlib.Core.Logic.{◌⊎◌, inl, inr}
use mathlib.Core.List.{List, map}
use Prim.Native.Nat.{ℕ, suc, ◌+◌, ◌*◌, ◌/◌, ◌%◌, ◌^◌, ◌<◌, ◌≤◌}
use native.Mathlib.Nat.{lt_of_lt_of_le}
use native.Mathlib.Omega.{arith}
use lib.Pow.{pow_mono}
use lib.ListN.{length, get_or, drop, length-map, length-append}
use lib.Seq.{ext_get_or, take_at}
use borrow.Author.Tests.{le-ltb}
use Rattle.words.specs.Lists.{up_to}
use Rattle.words.proofs.Lists.{length-up_to, below_or, get_or-map-up_to}
use Rattle.words.specs.LittleEndian.{byte, two, eight}
use Rattle.meaning.specs.Parts.{rows_entry, words_entry, class_count, row_size, starting_start, final_start, rows_start}
use Rattle.meaning.specs.Table.{code, Table, Limits, edition1}
use Rattle.meaning.specs.Table.{GoodSet, GoodTable}
use Rattle.meaning.specs.Runs.{said}
use Rattle.meaning.specs.Joining.{file_size}
use Rattle.meaning.proofs.Shift.{class-code}
use Rattle.sets.specs.Sets.{members}
use Rattle.table.specs.File.{row_count, row_start, words_length, word_of, row_at, class_at}
use Rattle.table.specs.File.{table_of}
use Rattle.table.proofs.Marks.{class-at}
use Rattle.join_meaning.specs.Laid.{set_of, file_of}
use Rattle.join_meaning.proofs.Digits.{set_below, set-members}
use Rattle.join_meaning.proofs.Laid.{byte-from, eight-from, parts, class-byte, at-starting, at-final, at_row}
use Rattle.join_meaning.proofs.Laid.{from_rows, from_final, no_row, row_of, word_start, from_row, split-words, at-word}

-- limits within which each number of a table has room in a rule file
pub record Room (L : Limits) : Type 0 where
  pub states : L.states ≤ 64
  pub markers : L.markers ≤ 255
  pub depth : L.depth ≤ 255
  pub waiting : L.waiting ≤ 65535
  pub word : L.word ≤ 255
  pub whole : rows_start + row_size * L.rows + L.words ≤ 65535

pub room1 : Room edition1
room1 = record {
  states = omega arith;
  markers = omega arith;
  depth = omega arith;
  waiting = omega arith;
  word = omega arith;
  whole = omega arith;
}

two_is : (n : ℕ) → n ≤ 65535 → n % 256 + 256 * (n / 256 % 256) ≡ n
two_is n h = omega arith

-- a good table whose words together have room too
pub record Fits (L : Limits) (T : Table) : Type 0 where
  pub room : Room L
  pub good : GoodTable L T
  pub words : length (said T.rows) ≤ L.words

module _ {L : Limits} {T : Table} (fits : Fits L T) where
  abbrev F : List ℕ
  F = file_of T

  small : file_size T ≤ 65535
  small = omega arith

  pub few : T.states ≤ 64
  few = omega arith

  -- the numbers of the head and the contents

  pub states-of : byte F 1 ≡ T.states
  states-of = ap (λ (l : List ℕ). byte l 1) (parts T)

  waiting-of : two F 4 ≡ T.waiting_cap
  waiting-of = ap (λ (l : List ℕ). two l 4) (parts T) ∙ two_is T.waiting_cap (omega arith)

  pub whole_of : two F 6 ≡ file_size T
  whole_of = ap (λ (l : List ℕ). two l 6) (parts T) ∙ two_is (file_size T) small

  pub rows-of : two F (rows_entry + 2) ≡ row_size * length T.rows
  rows-of =
      ap (λ (l : List ℕ). two l (rows_entry + 2)) (parts T) ∙ two_is (row_size * length T.rows) (omega (arith, small))

  pub count_of : row_count F ≡ length T.rows
  count_of = omega (arith, rows-of)

  pub words-from : two F words_entry ≡ rows_start + row_size * length T.rows
  words-from =
      ap (λ (l : List ℕ). two l words_entry) (parts T)
      ∙ two_is (rows_start + row_size * length T.rows) (omega (arith, small))

  pub words-of : two F (words_entry + 2) ≡ length (said T.rows)
  words-of =
      ap (λ (l : List ℕ). two l (words_entry + 2)) (parts T) ∙ two_is (length (said T.rows)) (omega (arith, small))

  -- classes, sets

  class-of : (a : ℕ) → class_at F a ≡ T.class a
  class-of a = go (below_or a class_count)
    where
      go : (a < class_count) ⊎ (class_count ≤ a) → class_at F a ≡ T.class a
      go (inl h) = class-at F a (code (T.class a)) h (sym (class-byte T a h)) ∙ class-code (T.class a)
      go (inr h) = rw (le-ltb a class_count h) (sym (fits.good.symbols a h))

  narrow : {l : List ℕ} → GoodSet T.states l → set_of l < 2 ^ 64
  narrow g = lt_of_lt_of_le (set_below g) (pow_mono few)

  pub starting-of : eight F starting_start ≡ set_of T.starting
  starting-of =
      eight-from F (from_final T) starting_start (set_of T.starting) (at-starting T) (narrow fits.good.starting)

  pub final-of : eight F final_start ≡ set_of T.final
  final-of = eight-from F (from_rows T) final_start (set_of T.final) (at-final T) (narrow fits.good.final)

  -- a row
  module _ (i : ℕ) (lt : i < length T.rows) where
    abbrev k : ℕ
    k = row_start i

    row-byte : (m j : ℕ) → m ≡ k + j → byte F m ≡ get_or (from_row T i) j 0
    row-byte m j e = byte-from F (from_row T i) k j m (at_row T i lt) e

    within : word_start T i + length (row_of T i).word ≤ length (said T.rows)
    within = rw (split-words T i lt) (simp length-append (omega arith))

    start-of : two F (k + 4) ≡ word_start T i
    start-of =
        let n = two_is (word_start T i) (omega (arith, within)) in
        omega (arith, row-byte (k + 4) 4 refl, row-byte (k + 4 + 1) 5 (omega arith))

    length-of : byte F (k + 6) ≡ length (row_of T i).word
    length-of = row-byte (k + 6) 6 refl

    pub zero_of : byte F (k + 7) ≡ 0
    zero_of = row-byte (k + 7) 7 refl

    pub word-within : two F (k + 4) + byte F (k + 6) ≤ words_length F
    word-within = omega (arith, start-of, length-of, within, words-of)

    word-of : word_of F i ≡ (row_of T i).word
    word-of =
        rw (start-of, length-of, count_of, at-word T i lt)
        (take_at (row_of T i).word (said (drop (suc i) T.rows)) (length (row_of T i).word) refl)

    row-of : row_at F i ≡ row_of T i
    row-of =
        let a = row-byte k 0 (omega arith) in
        let b = row-byte (k + 1) 1 refl in
        let c = row-byte (k + 2) 2 refl in
        let d = row-byte (k + 3) 3 refl in
        let e = word-of in
        λ x. record { symbol = a x; from = b x; to = c x; marker = d x; word = e x }

  rows_back : map (row_at F) (up_to (row_count F)) ≡ T.rows
  rows_back =
      let long = length-map (up_to (row_count F)) (row_at F) ∙ length-up_to (row_count F) ∙ count_of in
      ext_get_or no_row (map (row_at F) (up_to (row_count F))) T.rows long
      (λ i lt.
      get_or-map-up_to (row_at F) (row_count F) i no_row (omega (arith, long, count_of)) ∙ row-of i (omega (arith, long)))

  -- the table that the file stands for is the table
  pub table-of : table_of F ≡ T
  unfolding table_of
  table-of =
      let a = states-of in
      let b = ap (λ (l : List ℕ). byte l 2) (parts T) in
      let c = ap (λ (l : List ℕ). byte l 3) (parts T) in
      let d = waiting-of in
      let e = class-of in
      let f = ap members starting-of ∙ set-members fits.good.starting few in
      let g = ap members final-of ∙ set-members fits.good.final few in
      let h = rows_back in
      λ i.
      record {
        states = a i;
        markers = b i;
        depth_cap = c i;
        waiting_cap = d i;
        class = λ x. e x i;
        starting = f i;
        final = g i;
        rows = h i;
      }
