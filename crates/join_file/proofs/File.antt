-- The parts of the joined table's file, put one behind the other, are the file. Assumes nothing.
use mathlib.Core.Path.{◌≡◌, refl, sym, ◌∙◌, ap, subst}
use mathlib.Core.List.{List, ◌++◌, map, append_assoc}
use Prim.Native.Nat.{ℕ, zero, suc, ◌+◌, ◌*◌, ◌<◌, ◌≤◌}
use native.Mathlib.Omega.{arith}
use lib.ListN.{length, get_or, take, drop, length-append, length-take, length-drop, length-map}
use lib.Seq.{ext_get_or, get_or-take, get_or-drop}
use Rattle.words.specs.Lists.{up_to}
use Rattle.words.specs.Calls.{Room, Appended}
use Rattle.words.proofs.Lists.{length-up_to, get_or-map-up_to}
use Rattle.words.proofs.Puts.{appended-whole}
use Rattle.words.specs.LittleEndian.{byte}
use Rattle.meaning.specs.Parts.{class_count, row_size, classes_start, rows_start}
use Rattle.meaning.specs.Table.{Class, code, class_of, Row, Table}
use Rattle.meaning.specs.Runs.{said}
use Rattle.table.specs.File.{table_of}
use Rattle.table.specs.Good.{first_edition as edition, GoodFile}
use Rattle.table.proofs.Marks.{class-at}
use Rattle.join_meaning.specs.Laid.{head_bytes, content_bytes, class_bytes, set_bytes, rows_bytes, file_of}
use Rattle.join_meaning.proofs.Laid.{rows-length}
use Rattle.join_file.specs.Written.{rows_in, paired, paired_file, head_of, entries_bytes, sets_bytes, Laying}
use Rattle.join_file.specs.declared.Sizes.{Sizes}
use Rattle.join_file.proofs.Rows.{rows-count}

-- a list by what stands at each place
listed : (l : List ℕ) (f : ℕ → ℕ) (n : ℕ) → length l ≡ n → ((i : ℕ) → i < n → get_or l i 0 ≡ f i) → l ≡ map f (up_to n)
listed l f n e h =
    ext_get_or 0 l (map f (up_to n)) (e ∙ sym (length-map (up_to n) f ∙ length-up_to n))
    (λ i lt. h i (omega arith) ∙ sym (get_or-map-up_to f n i 0 (omega arith)))

-- the classes of a good file

code-class : (k : ℕ) → k ≤ 3 → code (class_of k) ≡ k
code-class zero h = refl
code-class (suc zero) h = refl
code-class (suc (suc zero)) h = refl
code-class (suc (suc (suc zero))) h = refl
code-class (suc (suc (suc (suc k)))) h = absurd (omega arith)

abbrev class_part : List ℕ → List ℕ
class_part file = take class_count (drop classes_start file)

module _ (file : List ℕ) (g : GoodFile edition file) where
  part-long : length (class_part file) ≡ class_count
  part-long = simp (length-take, length-drop) (omega (arith, g.contents.fill))

  class-here : (a : ℕ) → a < class_count → byte file (classes_start + a) ≡ code ((table_of file).class a)
  unfolding table_of
  class-here a lt =
      let k = byte file (classes_start + a) in
      sym (ap code (class-at file a k lt refl) ∙ code-class k (g.classes.each a lt))

  class-part : (T : Table) → T.class ≡ (table_of file).class → class_part file ≡ class_bytes T
  unfolding class_bytes
  class-part T e =
      listed (class_part file) (λ a. code (T.class a)) class_count part-long
      (λ a lt.
      get_or-take class_count (drop classes_start file) a 0 lt ∙ get_or-drop classes_start file a 0 ∙ class-here a lt
      ∙ ap (λ (k : ℕ → Class). code (k a)) (sym e))

  pub depth_small : (table_of file).depth_cap ≤ 32
  unfolding table_of
  depth_small = g.head.depth_cap.1

module _ {a b : List ℕ} {sizes : Sizes} {shelf out : List ℕ} (l : Laying a b sizes shelf out) where
  abbrev A : Table
  A = table_of a

  abbrev B : Table
  B = table_of b

  abbrev rows : List Row
  rows = rows_in shelf sizes.rows

  abbrev J : Table
  J = paired A B sizes.markers rows

  -- all before the rows
  abbrev pub front : List ℕ
  front =
      head_of A B sizes.markers (rows_start + row_size * sizes.rows + sizes.words)
      ++ entries_bytes (row_size * sizes.rows) sizes.words
      ++ class_part a
      ++ sets_bytes A B

  front_long : length front ≡ rows_start
  front_long = simp length-append (omega (arith, part-long a l.tables.first))

  rows_long : length (rows_bytes 0 rows) ≡ row_size * sizes.rows
  rows_long = omega (arith, rows-length 0 rows, rows-count shelf sizes.rows)

  pub rows_fit : {r : ℕ} {out' : List ℕ} → Appended out 0 front r out' → Room out' r (rows_bytes 0 rows)
  rows_fit p = record { fits = omega (arith, p.next, front_long, rows_long, appended-whole p, l.room) }

  pub words-fit : {r : ℕ} {out' : List ℕ} → Appended out 0 (front ++ rows_bytes 0 rows) r out' → Room out' r (said rows)
  words-fit p =
      record {
        fits =
            omega (
              arith,
              p.next,
              length-append front (rows_bytes 0 rows),
              front_long,
              rows_long,
              appended-whole p,
              l.words,
              l.room,
            );
      }

  file-parts : front ++ rows_bytes 0 rows ++ said rows ≡ file_of J
  unfolding file_of
  file-parts =
      let n = sym (rows-count shelf sizes.rows) in
      let w = l.words in
      let k = class-part a l.tables.first J refl in
      (λ i.
      head_of A B sizes.markers (rows_start + row_size * n i + w i)
      ++ entries_bytes (row_size * n i) (w i)
      ++ k i
      ++ sets_bytes A B
      ++ rows_bytes 0 rows
      ++ said rows)
      ∙ ap (λ (x : List ℕ). x ++ rows_bytes 0 rows ++ said rows)
      (sym
      (append_assoc (head_bytes J ++ content_bytes J ++ class_bytes J) (set_bytes J.starting) (set_bytes J.final)))

  pub all-put : {r : ℕ} {out' : List ℕ} → Appended out 0 (front ++ rows_bytes 0 rows ++ said rows) r out'
      → Appended out 0 (paired_file a b sizes shelf) r out'
  all-put {r} {out'} p = subst (λ (w : List ℕ). Appended out 0 w r out') file-parts p
