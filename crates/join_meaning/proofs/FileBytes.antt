-- Every number in the rule file of a good table is a byte. Assumes nothing.
use mathlib.Core.Path.{refl, sym, subst}
use mathlib.Core.List.Memᴰ
use mathlib.Core.List.{List, [], ◌∷◌, ◌++◌}
use Prim.Native.Nat.{ℕ, ◌+◌, ◌*◌, ◌<◌, ◌≤◌}
use native.Mathlib.Omega.{arith}
use lib.ListN.{length}
use Rattle.words.specs.Lists.{◌among◌, up_to}
use Rattle.words.specs.Words.{Bytes}
use Rattle.words.proofs.Lists.{each-out, bytes-nil, bytes-cons, bytes-append}
use Rattle.meaning.specs.Parts.{class_count, set_size, row_size, classes_start, starting_start, final_start, rows_start}
use Rattle.meaning.specs.Table.{Class, unused, call, return, internal, code, Row, Table, Limits, MarkFits}
use Rattle.meaning.specs.Runs.{said}
use Rattle.meaning.specs.Joining.{file_size}
use Rattle.join_meaning.specs.Laid.{little_endian, head_bytes, content_bytes, class_bytes, set_of, set_bytes, row_bytes}
use Rattle.join_meaning.specs.Laid.{rows_bytes, file_of}
use Rattle.join_meaning.proofs.Digits.{little-bytes}
use Rattle.join_meaning.proofs.Laid.{parts, from_rows, from_final, from_starting, from_classes}
use Rattle.join_meaning.proofs.Back.{Fits}
use Rattle.join_meaning.proofs.GoodFile.{code-small}

mark-small : (k : Class) (n m : ℕ) → MarkFits k n m → m ≤ n
mark-small unused n m h = absurd h
mark-small call n m h = h.1
mark-small return n m h = h.1
mark-small internal n m h = omega arith

-- two numbers of two bytes each, and what follows
then-two : (m n : ℕ) {l : List ℕ} → Bytes l → Bytes (little_endian 2 m ++ little_endian 2 n ++ l)
then-two m n {l} h =
    bytes-append (little_endian 2 m) (little_endian 2 n ++ l) (little-bytes 2 m)
    (bytes-append (little_endian 2 n) l (little-bytes 2 n) h)

module _ {L : Limits} {T : Table} (fits : Fits L T) where
  -- a symbol from class_count on is unused, and no row has it
  symbol-byte : (r : Row) → r among T.rows → r.symbol < class_count
  symbol-byte r m =
      let used : class_count ≤ r.symbol → ⊥
      = λ h. rw (fits.good.symbols r.symbol h) at (fits.good.row r m).marker in
      omega arith

  row-bytes : (start : ℕ) (r : Row) → r among T.rows → Bytes (row_bytes start r)
  row-bytes start r m =
      let g = fits.good.row r m in
      let mark = mark-small (T.class r.symbol) T.markers r.marker g.marker in
      bytes-cons (symbol-byte r m)
      (bytes-cons (omega arith)
      (bytes-cons (omega arith)
      (bytes-cons (omega arith)
      (bytes-append (little_endian 2 start) (length r.word ∷ 0 ∷ []) (little-bytes 2 start)
      (bytes-cons (omega arith) (bytes-cons (omega arith) bytes-nil))))))

  rows-bytes : (start : ℕ) (l : List Row) → ((r : Row) → r among l → r among T.rows) → Bytes (rows_bytes start l)
  rows-bytes start [] h = bytes-nil
  rows-bytes start (r ∷ l) h =
      bytes-append (row_bytes start r) (rows_bytes (start + length r.word) l)
      (row-bytes start r (h r (Memᴰ.head refl)))
      (rows-bytes (start + length r.word) l (λ s m. h s (Memᴰ.tail m)))

  words-bytes : Bytes (said T.rows)
  words-bytes b m = let x = each-out (λ r. r.word) T.rows m in (fits.good.row x.0 x.1).bytes b x.2

  class-bytes : Bytes (class_bytes T)
  unfolding class_bytes
  class-bytes b m =
      let x = Memᴰ.of_map (λ a. code (T.class a)) (up_to class_count) m in
      let h = code-small (T.class x.0) in
      omega (arith, x.2)

  head-bytes : Bytes (head_bytes T ++ content_bytes T)
  head-bytes =
      let n = row_size * length T.rows in
      bytes-cons (omega arith)
      (bytes-cons (omega arith)
      (bytes-cons (omega arith)
      (bytes-cons (omega arith)
      (then-two T.waiting_cap (file_size T)
      (then-two classes_start class_count
      (then-two starting_start set_size
      (then-two final_start set_size
      (then-two rows_start n
      (then-two (rows_start + n) (length (said T.rows)) bytes-nil)))))))))

  pub file-bytes : Bytes (file_of T)
  file-bytes =
      subst Bytes (sym (parts T))
      (bytes-append (head_bytes T ++ content_bytes T) (from_classes T) head-bytes
      (bytes-append (class_bytes T) (from_starting T) class-bytes
      (bytes-append (set_bytes T.starting) (from_final T) (little-bytes set_size (set_of T.starting))
      (bytes-append (set_bytes T.final) (from_rows T) (little-bytes set_size (set_of T.final))
      (bytes-append (rows_bytes 0 T.rows) (said T.rows) (rows-bytes 0 T.rows (λ r m. m)) words-bytes)))))
