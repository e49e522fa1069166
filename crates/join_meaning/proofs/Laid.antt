-- What stands in the rule file of a table from each part on. Assumes nothing.
use mathlib.Core.Path.{◌≡◌, refl, sym, ◌∙◌, ap}
use mathlib.Core.List.{List, [], ◌∷◌, ◌++◌, append_assoc}
use Prim.Native.Nat.{ℕ, suc, ◌+◌, ◌*◌, ◌^◌, ◌<◌}
use native.Mathlib.Nat.{zero-add}
use native.Mathlib.Omega.{arith}
use lib.ListN.{length, get_or, take, drop, length-append, length-map, get_or-append}
use lib.Seq.{get_or-drop, drop-drop, drop_at, split_at, length-take-le}
use Rattle.words.specs.Lists.{up_to}
use Rattle.words.proofs.Lists.{length-up_to, each_append, get_or-map-up_to}
use Rattle.words.specs.LittleEndian.{byte, eight}
use Rattle.meaning.specs.Parts.{class_count, set_size, row_size, classes_start, starting_start, final_start, rows_start}
use Rattle.meaning.specs.Table.{code, Row, Table}
use Rattle.meaning.specs.Runs.{said}
use Rattle.meaning.specs.Joining.{file_size}
use Rattle.join_meaning.specs.Laid.{little_endian, head_bytes, content_bytes, class_bytes, set_bytes, row_bytes}
use Rattle.join_meaning.specs.Laid.{rows_bytes}
use Rattle.join_meaning.specs.Laid.{file_of}
use Rattle.join_meaning.proofs.Digits.{little-value}

-- a byte, and eight of them, by what stands from a place on

pub byte-from : (file l : List ℕ) (k j i : ℕ) → drop k file ≡ l → i ≡ k + j → byte file i ≡ get_or l j 0
byte-from file l k j i e f = rw f (sym (get_or-drop k file j 0) ∙ ap (λ (l : List ℕ). get_or l j 0) e)

pub eight-from : (file rest : List ℕ) (k n : ℕ) → drop k file ≡ little_endian 8 n ++ rest → n < 2 ^ 64 → eight file k ≡ n
unfolding eight
eight-from file rest k n e h =
    let l = little_endian 8 n ++ rest in
    omega (
      arith,
      little-value 8 n h,
      byte-from file l k 0 k e (omega arith),
      byte-from file l k 1 (k + 1) e refl,
      byte-from file l k 2 (k + 2) e refl,
      byte-from file l k 3 (k + 2 + 1) e (omega arith),
      byte-from file l k 4 (k + 4) e refl,
      byte-from file l k 5 (k + 4 + 1) e (omega arith),
      byte-from file l k 6 (k + 6) e refl,
      byte-from file l k 7 (k + 6 + 1) e (omega arith),
    )

-- rows

-- each word starts where the word of the row before ends
pub rows_append : (s : ℕ) (l m : List Row) → rows_bytes s (l ++ m) ≡ rows_bytes s l ++ rows_bytes (s + length (said l)) m
rows_append s [] m = ap (λ (s : ℕ). rows_bytes s m) (omega arith)
rows_append s (r ∷ l) m =
    let e : s + length r.word + length (said l) ≡ s + length (said (r ∷ l)) =
    omega (arith, length-append r.word (said l)) in
    ap (λ (x : List ℕ). row_bytes s r ++ x)
    (rw e at (rows_append (s + length r.word) l m))

pub rows-length : (s : ℕ) (l : List Row) → length (rows_bytes s l) ≡ row_size * length l
rows-length s [] = refl
rows-length s (r ∷ l) = omega (arith, rows-length (s + length r.word) l)

-- what stands past the last row of a table
abbrev pub no_row : Row
no_row = record { symbol = 0; from = 0; to = 0; marker = 0; word = [] }

module _ (T : Table) where
  -- the file from its rows on, from each of its sets on, and from its classes on
  abbrev pub from_rows : List ℕ
  from_rows = rows_bytes 0 T.rows ++ said T.rows

  abbrev pub from_final : List ℕ
  from_final = set_bytes T.final ++ from_rows

  abbrev pub from_starting : List ℕ
  from_starting = set_bytes T.starting ++ from_final

  abbrev pub from_classes : List ℕ
  from_classes = class_bytes T ++ from_starting

  pub parts : file_of T ≡ head_bytes T ++ content_bytes T ++ from_classes
  unfolding file_of
  parts = simp append_assoc

  classes-length : length (class_bytes T) ≡ class_count
  unfolding class_bytes
  classes-length = length-map (up_to class_count) (λ a. code (T.class a)) ∙ length-up_to class_count

  pub at-classes : drop classes_start (file_of T) ≡ from_classes
  at-classes = ap (λ (l : List ℕ). drop classes_start l) parts

  pub class-byte : (a : ℕ) → a < class_count → byte (file_of T) (classes_start + a) ≡ code (T.class a)
  unfolding class_bytes
  class-byte a lt =
      byte-from (file_of T) from_classes classes_start a (classes_start + a) at-classes refl
      ∙ get_or-append (class_bytes T) from_starting 0 a (omega (arith, classes-length))
      ∙ get_or-map-up_to (λ a. code (T.class a)) class_count a 0 lt

  pub at-starting : drop starting_start (file_of T) ≡ from_starting
  at-starting =
      sym (drop-drop class_count classes_start (file_of T)) ∙ ap (λ (l : List ℕ). drop class_count l) at-classes
      ∙ drop_at (class_bytes T) from_starting class_count classes-length

  pub at-final : drop final_start (file_of T) ≡ from_final
  at-final = sym (drop-drop set_size starting_start (file_of T)) ∙ ap (λ (l : List ℕ). drop set_size l) at-starting

  pub at_rows : drop rows_start (file_of T) ≡ from_rows
  at_rows = sym (drop-drop set_size final_start (file_of T)) ∙ ap (λ (l : List ℕ). drop set_size l) at-final

  pub at_words : drop (rows_start + row_size * length T.rows) (file_of T) ≡ said T.rows
  at_words =
      sym (drop-drop (row_size * length T.rows) rows_start (file_of T))
      ∙ ap (λ (l : List ℕ). drop (row_size * length T.rows) l) at_rows
      ∙ drop_at (rows_bytes 0 T.rows) (said T.rows) (row_size * length T.rows) (rows-length 0 T.rows)

  pub file-length : length (file_of T) ≡ file_size T
  file-length =
      ap length parts ∙ simp length-append (omega (arith, classes-length, rows-length 0 T.rows))

  -- a row; where its word starts, behind those of the rows before it; and the file from it on
  abbrev pub row_of : ℕ → Row
  row_of i = get_or T.rows i no_row

  abbrev pub word_start : ℕ → ℕ
  word_start i = length (said (take i T.rows))

  abbrev pub from_row : ℕ → List ℕ
  from_row i =
      row_bytes (word_start i) (row_of i)
      ++ (rows_bytes (word_start i + length (row_of i).word) (drop (suc i) T.rows) ++ said T.rows)

  module _ (i : ℕ) (lt : i < length T.rows) where
    split : T.rows ≡ take i T.rows ++ row_of i ∷ drop (suc i) T.rows
    split = split_at T.rows i no_row lt

    before : length (rows_bytes 0 (take i T.rows)) ≡ row_size * i
    before = omega (arith, rows-length 0 (take i T.rows), length-take-le i T.rows (omega arith))

    split_rows : from_rows ≡ rows_bytes 0 (take i T.rows) ++ from_row i
    split_rows =
        let e = rw (← split, zero-add) at (rows_append 0 (take i T.rows) (row_of i ∷ drop (suc i) T.rows)) in
        ap (λ (l : List ℕ). l ++ said T.rows) e
        ∙ append_assoc (rows_bytes 0 (take i T.rows)) _ (said T.rows)

    pub at_row : drop (rows_start + row_size * i) (file_of T) ≡ from_row i
    at_row =
        sym (drop-drop (row_size * i) rows_start (file_of T))
        ∙ ap (λ (l : List ℕ). drop (row_size * i) l) (at_rows ∙ split_rows)
        ∙ drop_at (rows_bytes 0 (take i T.rows)) (from_row i) (row_size * i) before

    pub split-words : said T.rows ≡ said (take i T.rows) ++ said (row_of i ∷ drop (suc i) T.rows)
    split-words = ap said split ∙ each_append (λ r. r.word) (take i T.rows) (row_of i ∷ drop (suc i) T.rows)

    pub at-word : drop (rows_start + row_size * length T.rows + word_start i) (file_of T)
        ≡ said (row_of i ∷ drop (suc i) T.rows)
    at-word =
        sym (drop-drop (word_start i) (rows_start + row_size * length T.rows) (file_of T))
        ∙ ap (λ (l : List ℕ). drop (word_start i) l) (at_words ∙ split-words)
        ∙ drop_at (said (take i T.rows)) (said (row_of i ∷ drop (suc i) T.rows)) (word_start i) refl
