-- The rule file of a good table is a good file. Assumes nothing.
use mathlib.Core.Path.{refl, sym, ◌∙◌, ap, subst}
use mathlib.Core.List.Memᴰ
use mathlib.Core.List.{List, ◌++◌}
use Prim.Native.Nat.{ℕ, ◌+◌, ◌<◌, ◌≤◌}
use native.Mathlib.Omega.{arith}
use lib.ListN.{length}
use Rattle.words.proofs.Lists.{up_to-in}
use Rattle.words.proofs.Ordered.{rises-out}
use Rattle.words.specs.LittleEndian.{byte, two}
use Rattle.meaning.specs.Parts.{classes_entry, starting_entry, final_entry, rows_entry, class_count, set_size, classes_start}
use Rattle.meaning.specs.Parts.{starting_start, final_start}
use Rattle.meaning.specs.Table.{Class, unused, call, return, internal, code, Table, Limits, row_key, GoodTable}
use Rattle.table.specs.File.{row_count, row_at, table_of}
use Rattle.table.specs.Good.{Edition, FileEntry, Head, Contents, Sets, RowFits, Rows, GoodFile}
use Rattle.join_meaning.specs.Laid.{head_bytes, content_bytes, file_of}
use Rattle.join_meaning.proofs.Digits.{set_below, set-some}
use Rattle.join_meaning.proofs.Laid.{parts, class-byte, file-length, from_classes}
use Rattle.join_meaning.proofs.Back.{Fits, few, states-of, whole_of, rows-of, count_of, words-from, words-of}
use Rattle.join_meaning.proofs.Back.{starting-of, final-of, zero_of, word-within, table-of}

pub code-small : (k : Class) → code k ≤ 3
code-small unused = omega arith
code-small call = omega arith
code-small return = omega arith
code-small internal = omega arith

module _ {L : Limits} {T : Table} (fits : Fits L T) where
  abbrev F : List ℕ
  F = file_of T

  abbrev E : Edition
  E = record { number = 1; limits = L }

  same : GoodTable L (table_of F)
  same = subst (GoodTable L) (sym (table-of fits)) fits.good

  good-head : Head E F
  unfolding table_of
  good-head =
      record {
        long = omega (arith, file-length T);
        edition = ap (λ (l : List ℕ). byte l 0) (parts T);
        states = same.states;
        markers = same.markers;
        depth_cap = same.depth_cap;
        waiting_cap = same.waiting_cap;
        whole = whole_of fits ∙ sym (file-length T);
      }

  -- an entry of the contents, read where the file stands by its parts
  entry-at : (at start size : ℕ) → FileEntry (head_bytes T ++ content_bytes T ++ from_classes T) at start size
      → FileEntry F at start size
  entry-at at start size e = subst (λ (l : List ℕ). FileEntry l at start size) (sym (parts T)) e

  good-contents : Contents E F
  good-contents =
      let n = count_of fits in
      let w = words-of fits in
      record {
        long = omega (arith, file-length T);
        classes = entry-at classes_entry classes_start class_count (record { starts = refl; lasts = refl });
        starting = entry-at starting_entry starting_start set_size (record { starts = refl; lasts = refl });
        final = entry-at final_entry final_start set_size (record { starts = refl; lasts = refl });
        rows =
            record {
              starts = ap (λ (l : List ℕ). two l rows_entry) (parts T);
              lasts = omega (arith, rows-of fits);
            };
        count = omega arith;
        words = record { starts = omega (arith, words-from fits); lasts = refl };
        bytes = omega arith;
        fill = omega (arith, file-length T);
      }

  good-sets : Sets F
  good-sets =
      let s = starting-of fits in
      record {
        starting = rw (states-of fits, s) (set_below fits.good.starting);
        some = rw s (set-some fits.good.starting (few fits) fits.good.some.1);
        final = rw (states-of fits, final-of fits) (set_below fits.good.final);
      }

  row_fits : (i : ℕ) → i < row_count F → RowFits F i
  unfolding table_of
  row_fits i lt =
      let g = same.row (row_at F i) (Memᴰ.map (row_at F) (up_to-in (row_count F) i lt)) in
      let h : i < length T.rows = omega (arith, count_of fits) in
      record {
        marker = g.marker;
        from = g.from;
        to = g.to;
        word = word-within fits i h;
        zero = zero_of fits i h;
      }

  good-rows : Rows F
  unfolding table_of
  good-rows =
      record {
        fit = row_fits;
        rise = λ i lt.
            record { less = rises-out row_key (row_at F) (row_count F) same.rise i (i + 1) (omega arith) lt };
      }

  -- check takes the file
  pub good-file : GoodFile E F
  good-file =
      record {
        head = good-head;
        contents = good-contents;
        classes = record { each = λ a lt. rw (class-byte T a lt) (code-small (T.class a)) };
        sets = good-sets;
        rows = good-rows;
      }
