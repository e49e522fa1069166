-- Where the joined rows of two tables stand on a shelf by their keys, what is written is the joined table's file.
-- Assumes nothing.
use mathlib.Core.Path.{◌≡◌, refl, sym, ◌∙◌, ap, subst}
use mathlib.Core.Logic.{◌⊎◌, inl, inr}
use mathlib.Core.List.Memᴰ
use mathlib.Core.List.{List, [], ◌∷◌, map}
use Prim.Native.Nat.{ℕ, ◌+◌, ◌*◌, ◌<◌, ◌≤◌}
use native.Mathlib.Omega.{arith}
use lib.ListN.{length, length-append, length-map}
use Rattle.words.specs.Lists.{◌among◌}
use Rattle.words.specs.Words.{Word}
use Rattle.words.specs.Order.{arranged}
use Rattle.words.proofs.Lists.{up_to-in, below_or}
use Rattle.meaning.specs.Table.{Row, Table, row_key}
use Rattle.meaning.specs.Runs.{said}
use Rattle.meaning.specs.Joining.{marks, joined, file_size}
use Rattle.table.specs.File.{table_of}
use Rattle.join_meaning.specs.Laid.{file_of}
use Rattle.join_meaning.specs.Promises.{joined_file}
use Rattle.join_shelf.specs.Shelved.{word_at, words_of, kept, total, Standing, Held}
use Rattle.join_shelf.proofs.Lists.{words_count}
use Rattle.join_shelf.proofs.Laws.{Outgrown}
use Rattle.join_shelf.proofs.Keys.{keys_kept}
use Rattle.join_file.specs.Written.{key_row, rows_in, paired, paired_file, TwoTables, Key, Laying}
use Rattle.join_file.specs.declared.Sizes.{Sizes}
use Rattle.join_file.proofs.Rows.{key-row}

-- as many rows as keys stand
module _ (R : List Row) (rows : List ℕ) (n : ℕ) (are : words_of rows n ≡ map row_key R) where
  pub count-is : n ≡ length R
  count-is =
      sym (words_count rows n) ∙ ap length are ∙ length-map R row_key

  rows_are : rows_in rows n ≡ R
  rows_are = ap (map key_row) are ∙ key-row R

  keys-are : ((r : Row) → r among R → length r.word ≤ 255) → (i : ℕ) → i < n → Key (word_at rows i)
  keys-are short i lt =
      of_row
      (Memᴰ.of_map row_key R
      (subst (λ (l : List Word). word_at rows i among l) are
      (Memᴰ.map (word_at rows) (up_to-in n i lt))))
    where
      of_row : (x : (r : Row) × (r among R) × (row_key r ≡ word_at rows i))
          → Key (word_at rows i)
      of_row x =
          let h = short x.0 x.1 in
          subst Key x.2 (record { whole = omega arith; short = omega arith })

-- the bytes of rows' keys
pub total-rows : (R : List Row) → total (map row_key R) ≡ 4 * length R + length (said R)
total-rows [] = refl
total-rows (r ∷ R) =
    let e = total-rows R in
    let l = length-append r.word (said R) in
    omega arith

-- "rows over 256 … or the words together over 4,096", where rows outgrow a shelf
pub outgrown-rows : (R : List Row) → Outgrown (map row_key R) → let J = arranged row_key R in
    (256 < length J) ⊎ (4096 < length (said J))
outgrown-rows R o = go o (below_or 256 (length J))
  where
    J : List Row
    J = arranged row_key R

    many : length (kept (map row_key R)) ≡ length J
    many = ap length (sym (keys_kept row_key R)) ∙ length-map J row_key

    bytes : total (kept (map row_key R)) ≡ 4 * length J + length (said J)
    bytes = ap total (sym (keys_kept row_key R)) ∙ total-rows J

    go : Outgrown (map row_key R) → (256 < length J) ⊎ (length J ≤ 256) → (256 < length J) ⊎ (4096 < length (said J))
    go (inl h) m = inl (omega (arith, many))
    go (inr h) (inl m) = inl m
    go (inr h) (inr m) = inr (omega (arith, bytes))

-- after the keys of rows were put, the rows stand once each in order, and their words have what is left of the bytes
module _ (R : List Row) {rows : List ℕ} {count used : ℕ}
    (s : Held (map row_key R) rows count used) where
  pub stood-keys : words_of rows count ≡ map row_key (arranged row_key R)
  stood-keys = s.are ∙ sym (keys_kept row_key R)

  pub stood-words : used ≡ 4 * count + length (said (arranged row_key R))
  stood-words =
      let J = arranged row_key R in
      let n = count-is J rows count stood-keys in
      omega (arith, s.filled, ap total (keys_kept row_key R), total-rows J)

-- the rooms lay out the joined table of two files, and there is room for its file
pub record Lays (one two : List ℕ) (sizes : Sizes) (rows out : List ℕ) : Type 0 where
  pub tables : TwoTables one two
  pub standing : Standing rows sizes.rows
  pub are : words_of rows sizes.rows ≡ map row_key (joined (table_of one) (table_of two)).rows
  pub short : (r : Row) → r among (joined (table_of one) (table_of two)).rows → length r.word ≤ 255
  pub markers : sizes.markers ≡ length (marks (table_of one) (table_of two))
  pub few : sizes.markers ≤ 64
  pub words : sizes.words ≡ length (said (joined (table_of one) (table_of two)).rows)
  pub room : file_size (joined (table_of one) (table_of two)) ≤ length out

module _ {one two : List ℕ} {sizes : Sizes} {rows out : List ℕ}
    (l : Lays one two sizes rows out) where
  abbrev J : Table
  J = joined (table_of one) (table_of two)

  same-rows : rows_in rows sizes.rows ≡ J.rows
  same-rows = rows_are J.rows rows sizes.rows l.are

  pub lays-asked : Laying one two sizes rows out
  lays-asked =
      let n = count-is J.rows rows sizes.rows l.are in
      record {
        tables = l.tables;
        markers = omega (arith, l.few);
        keys = record {
          standing = l.standing;
          each = keys-are J.rows rows sizes.rows l.are l.short;
        };
        words = rw same-rows l.words;
        room = omega (arith, l.words, l.room);
      }

  pub lays-file : paired_file one two sizes rows ≡ joined_file one two
  lays-file =
      let m = l.markers in
      let r = same-rows in
      λ i. file_of (paired (table_of one) (table_of two) (m i) (r i))
