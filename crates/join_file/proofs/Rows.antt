-- Rows and their words written one after the other, by the keys that stand on a shelf. Assumes nothing.
use mathlib.Core.Path.{◌≡◌, refl, sym, ◌∙◌, ap, ap₂, subst}
use mathlib.Core.Logic.{◌⊎◌, inl, inr}
use mathlib.Core.List.{List, [], ◌∷◌, ◌++◌, map, map-append, append-nil}
use Prim.Native.Nat.{ℕ, zero, suc, ◌+◌, ◌-◌, ◌*◌, ◌/◌, ◌%◌, ◌<◌, ◌≤◌}
use native.Mathlib.Nat.{zero-add, eq-or-lt_of_le}
use native.Mathlib.Numerals.{add-one}
use native.Mathlib.Omega.{arith}
use lib.ListN.{length, get_or, take, drop, length-append, length-drop, length-map}
use lib.Seq.{take_all}
use Rattle.words.specs.Lists.{up_to}
use Rattle.words.specs.Words.{Word}
use Rattle.words.specs.Calls.{Room, Appended}
use Rattle.words.proofs.Lists.{each_append}
use Rattle.words.proofs.Puts.{appended-whole, appended-next}
use Rattle.meaning.specs.Table.{Row, row_key}
use Rattle.meaning.specs.Runs.{said}
use Rattle.join_meaning.specs.Laid.{little_endian, entry_bytes, row_bytes, rows_bytes}
use Rattle.join_meaning.proofs.Laid.{rows-length, rows_append}
use Rattle.join_shelf.specs.Shelved.{word_at, words_of}
use Rattle.join_shelf.proofs.Lists.{words_count}
use Rattle.join_file.specs.Written.{key_row, rows_in, Key, Keys}

-- the row of a row's key
pub key-row : (l : List Row) → map key_row (map row_key l) ≡ l
key-row [] = refl
key-row (r ∷ l) = ap (λ (m : List Row). r ∷ m) (key-row l)

-- a row by the bytes of its key: a length below 256 is two bytes
pub key-put : (start : ℕ) (w : Word) → Key w → {out : List ℕ} {at next : ℕ} {out' : List ℕ}
    → let bytes = get_or w 0 0 ∷ get_or w 1 0 ∷ get_or w 3 0 ∷ get_or w 2 0 ∷ entry_bytes start (length w - 4) in
    Appended out at bytes next out' → Appended out at (row_bytes start (key_row w)) next out'
key-put start w k {out} {at} {next} {out'} =
    let long = length-drop 4 w in
    let e : (length w - 4) % 256 ≡ length (drop 4 w) = omega (arith, k.whole, k.short) in
    let f : (length w - 4) / 256 % 256 ≡ 0 = omega (arith, k.short) in
    subst (λ (b : List ℕ). Appended out at b next out')
    (ap₂ (λ (x y : ℕ). get_or w 0 0 ∷ get_or w 1 0 ∷ get_or w 3 0 ∷ get_or w 2 0 ∷ little_endian 2 start ++ x ∷ y ∷ []) e f)

module _ (shelf : List ℕ) where
  abbrev word : ℕ → Word
  word i = word_at shelf i

  abbrev rows : ℕ → List Row
  rows n = rows_in shelf n

  pub rows-count : (n : ℕ) → length (rows n) ≡ n
  rows-count n = length-map (words_of shelf n) key_row ∙ words_count shelf n

  -- one more
  rows_more : (i : ℕ) → rows (suc i) ≡ rows i ++ key_row (word i) ∷ []
  rows_more i =
      ap (map key_row) (map-append word (up_to i) (i ∷ []))
      ∙ map-append key_row (words_of shelf i) (word i ∷ [])

  bytes-more : (i : ℕ)
      → rows_bytes 0 (rows (suc i)) ≡ rows_bytes 0 (rows i) ++ row_bytes (length (said (rows i))) (key_row (word i))
  bytes-more i =
      ap (rows_bytes 0) (rows_more i)
      ∙ rw zero-add at (rows_append 0 (rows i) (key_row (word i) ∷ []))

  said_more : (i : ℕ) → said (rows (suc i)) ≡ said (rows i) ++ drop 4 (word i)
  said_more i =
      ap said (rows_more i)
      ∙ each_append (λ r. r.word) (rows i) (key_row (word i) ∷ [])
      ∙ ap (λ (w : Word). said (rows i) ++ w) (append-nil (drop 4 (word i)))

  said-below : (n i : ℕ) → i < n → length (said (rows i)) + length (drop 4 (word i)) ≤ length (said (rows n))
  said-below zero i lt = absurd (omega arith)
  said-below (suc n) i lt = go (eq-or-lt_of_le lt) (said-below n i)
    where
      more : length (said (rows (suc n))) ≡ length (said (rows n)) + length (drop 4 (word n))
      more = ap length (said_more n) ∙ length-append (said (rows n)) (drop 4 (word n))

      go : (suc i ≡ suc n) ⊎ (suc i < suc n)
          → (i < n → length (said (rows i)) + length (drop 4 (word i)) ≤ length (said (rows n)))
          → length (said (rows i)) + length (drop 4 (word i)) ≤ length (said (rows (suc n)))
      go (inl e) ih =
          let f : i ≡ n = omega arith in
          rw f (omega (arith, more))
      go (inr h) ih = omega (arith, more, ih (omega arith))

  -- what stands on a shelf of keys is a key
  pub key-of : {count i : ℕ} {key : Word} → Keys shelf count → key ≡ word i → i < count → Key key
  key-of {count} {i} keys e lt = subst Key (sym e) (keys.each i lt)

  -- the first `i` rows were put, and their words have `used` bytes
  pub record RowsPut (out : List ℕ) (at i : ℕ) (out' : List ℕ) (end used : ℕ) : Type 0 where
    pub put : Appended out at (rows_bytes 0 (rows i)) end out'
    pub is : used ≡ length (said (rows i))
    pub small : used ≤ 255 * i

  -- the next row, by its key
  module _ {out : List ℕ} {at i : ℕ} {out' : List ℕ} {end used : ℕ} (p : RowsPut out at i out' end used)
      (key : Word) where
    pub row_room : (count start : ℕ) → Room out at (rows_bytes 0 (rows count)) → i < count
        → Room out' end (row_bytes start (key_row key))
    row_room count start room lt =
        record {
          fits =
              omega (
                arith,
                room.fits,
                p.put.next,
                appended-whole p.put,
                rows-length 0 (rows i),
                rows-count i,
                rows-length 0 (rows count),
                rows-count count,
              );
        }

    pub row_put : {out'' : List ℕ} {next : ℕ} → key ≡ word i → Key key
        → Appended out' end (row_bytes used (key_row key)) next out''
        → RowsPut out at (i + 1) out'' next (used + (length key - 4))
    row_put e k a =
        let l : length (said (rows (suc i))) ≡ length (said (rows i)) + length (drop 4 (word i)) =
        ap length (said_more i) ∙ length-append (said (rows i)) (drop 4 (word i)) in
        let d = length-drop 4 (word i) in
        let f = ap length e in
        record {
          put = rw (add-one, bytes-more, ← p.is, ← e) (appended-next p.put a);
          is = rw add-one (omega (arith, p.is));
          small = omega (arith, k.short, p.small);
        }

  -- the next word, as the part of its key behind the first four bytes
  module _ (key : Word) (i : ℕ) (e : key ≡ word i) where
    part-is : take (length key - 4) (drop 4 key) ≡ drop 4 (word i)
    part-is =
        take_all (length key - 4) (drop 4 key) (omega (arith, length-drop 4 key)) ∙ ap (drop 4) e

    module _ {out : List ℕ} {at : ℕ} {out' : List ℕ} {end : ℕ} (p : Appended out at (said (rows i)) end out') where
      pub word_room : (count : ℕ) → Room out at (said (rows count)) → i < count
          → Room out' end (take (length key - 4) (drop 4 key))
      word_room count room lt =
          record {
            fits =
                omega (arith, room.fits, p.next, appended-whole p, ap length part-is, said-below count i lt);
          }

      pub word-put : {out'' : List ℕ} {next : ℕ} → Appended out' end (take (length key - 4) (drop 4 key)) next out''
          → Appended out at (said (rows (i + 1))) next out''
      word-put a = rw (add-one, said_more, ← part-is) (appended-next p a)
