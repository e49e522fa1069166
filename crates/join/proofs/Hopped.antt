-- What `join` knows once the joined rows stand on a shelf: whether they are too large, and what is written. Assumes
-- nothing.
use mathlib.Core.Path.{◌≡◌, sym, ◌∙◌, ap, subst}
use mathlib.Core.Logic.{◌⊎◌, inl, inr}
use mathlib.Core.List.Memᴰ
use mathlib.Core.List.{List, ◌++◌, map}
use Prim.Native.Nat.{ℕ, ◌+◌, ◌-◌, ◌*◌, ◌<◌, ◌≤◌}
use native.Mathlib.Nat.{mul-le-mul_left}
use native.Mathlib.Omega.{arith}
use lib.ListN.{length, drop, length-map, length-reverse}
use Rattle.words.specs.Lists.{◌among◌, up_to}
use Rattle.words.specs.Words.{Word}
use Rattle.words.specs.Calls.{Appended}
use Rattle.words.proofs.Lists.{up_to-in, up_to-out, below_or}
use Rattle.meaning.specs.Table.{Row, Table, row_key, edition1}
use Rattle.meaning.specs.Runs.{said}
use Rattle.meaning.specs.Joining.{mark_key, marks, joined, file_size}
use Rattle.meaning.specs.Sentences.{LongWord, TooLarge}
use Rattle.table.specs.File.{table_of}
use Rattle.table.specs.Good.{first_edition as edition}
use Rattle.table.proofs.Stands.{good-table}
use Rattle.join_meaning.specs.Promises.{Joins}
use Rattle.join_meaning.proofs.Laid.{file-length}
use Rattle.join_meaning.proofs.Told.{joins-too-large, joins-no-room, joins-taken}
use Rattle.join_shelf.specs.Shelved.{word_at, words_of, kept, Held}
use Rattle.join_shelf.proofs.Lists.{kept-exact, words_count}
use Rattle.join_shelf.proofs.Laws.{Outgrown}
use Rattle.join_shelf.proofs.Keys.{keys_kept, outgrown-short}
use Rattle.join_nesting.specs.Nesting.{Hops}
use Rattle.join_file.specs.Written.{paired_file, TwoTables, Laying}
use Rattle.join_file.specs.declared.Sizes.{Sizes}
use Rattle.join_file.proofs.Joined.{count-is, outgrown-rows, stood-keys, stood-words, Lays, lays-asked, lays-file}
use Rattle.join.specs.Gathering.{all_marks, all_rows, pushed_keys, joined_keys}
use Rattle.join.specs.Hopping.{Nested, LongKey, Rowed}
use Rattle.join.proofs.FromMarks.{left-short}

-- no word is long
pub not-long : (k : ℕ) (T : Table) → (LongWord k T → ⊥) → (s : Row) → s among T.rows → length s.word ≤ k
not-long k T n s m = go (below_or k (length s.word))
  where
    go : (k < length s.word) ⊎ (length s.word ≤ k) → length s.word ≤ k
    go (inl l) = absurd (n (s, m, l))
    go (inr l) = l

-- what `join_file` asks of two tables
nested-pair : {one two : List ℕ} → Nested one two → TwoTables one two
nested-pair n =
    record { first = n.small.hops.first; second = n.small.hops.second; few = n.small.states }

module _ {one two : List ℕ} {markers : ℕ} {rows : List ℕ} {count used : ℕ}
    (r : Rowed one two markers rows count used) where
  abbrev A : Table
  A = table_of one

  abbrev B : Table
  B = table_of two

  abbrev J : Table
  J = joined A B

  keys : words_of rows count ≡ map row_key J.rows
  keys = stood-keys (all_rows A B) r.held

  many : count ≡ length J.rows
  many = count-is J.rows rows count keys

  bytes : used ≡ 4 * count + length (said J.rows)
  bytes = stood-words (all_rows A B) r.held

  pub hopped-used : 4 * count ≤ used
  hopped-used = omega (arith, bytes)

  -- a long key is the key of a row with a long word, and the other way round
  long-word : LongKey rows count → LongWord 255 J
  long-word k =
      let word = word_at rows in
      let at = Memᴰ.map word (up_to-in count k.at k.within) in
      let x = Memᴰ.of_map row_key J.rows (subst (λ (l : List Word). word k.at among l) keys at) in
      (x.0, x.1, omega (arith, ap length x.2, k.long))

  long-key : LongWord 255 J → LongKey rows count
  long-key w =
      let at = subst (λ (l : List Word). row_key w.0 among l) (sym keys) (Memᴰ.map row_key w.1) in
      let x = Memᴰ.of_map (word_at rows) (up_to count) at in
      record { at = x.0; within = up_to-out count x.0 x.1; long = omega (arith, ap length x.2, w.2) }

  module _ (out : List ℕ) where
    large : TooLarge edition1 A B → Joins one two out 15 0 0 out
    large l =
        let h = r.nested.small.hops in
        joins-too-large one two out h.first h.second r.nested.nest l

    pub hopped-long : LongKey rows count → Joins one two out 15 0 0 out
    hopped-long k = large (inr (inr (inr (inr (inl (long-word k))))))

    pub hopped-words : 4096 < used - 4 * count → Joins one two out 15 0 0 out
    hopped-words l = large (inr (inr (inr (inr (inr (omega (arith, bytes)))))))

    module _ (short : LongKey rows count → ⊥) (few : used - 4 * count ≤ 4096) where
      small : TooLarge edition1 A B → ⊥
      small (inl l) = omega (arith, l.2, r.nested.small.words l.0 l.1)
      small (inr (inl l)) = omega (arith, r.nested.small.states)
      small (inr (inr (inl l))) = omega (arith, r.numbers, r.few)
      small (inr (inr (inr (inl l)))) = omega (arith, many, r.held.standing.few)
      small (inr (inr (inr (inr (inl l))))) = short (long-key l)
      small (inr (inr (inr (inr (inr l))))) = omega (arith, bytes)

      size : file_size J ≡ 300 + 8 * count + (used - 4 * count)
      size = omega (arith, bytes, many)

      pub hopped-no-room : length out < 300 + 8 * count + (used - 4 * count) → Joins one two out 10 0 0 out
      hopped-no-room l =
          let h = r.nested.small.hops in
          joins-no-room one two out h.first h.second r.nested.nest small (omega (arith, size))

      module _ (room : 300 + 8 * count + (used - 4 * count) ≤ length out) (sizes : Sizes)
          (m : sizes.markers ≡ markers) (n : sizes.rows ≡ count) (w : sizes.words ≡ used - 4 * count) where
        lays : Lays one two sizes rows out
        lays =
            record {
              tables = nested-pair r.nested;
              standing = rw n r.held.standing;
              are = rw n keys;
              short = not-long 255 J (λ w. short (long-key w));
              markers = m ∙ r.numbers;
              few = omega (arith, r.few);
              words = omega (arith, bytes);
              room = omega (arith, size);
            }

        pub hopped-laying : Laying one two sizes rows out
        hopped-laying = lays-asked lays

        pub hopped-taken : {c : ℕ} {out' : List ℕ}
            → Appended out 0 (paired_file one two sizes rows) c out' → Joins one two out 0 0 c out'
        hopped-taken {c} {out'} a =
            let h = r.nested.small.hops in
            let f = lays-file lays in
            joins-taken one two out h.first h.second r.nested.nest small (omega (arith, size))
            (omega (arith, a.next, ap length f, file-length J))
            (a.is ∙ ap (λ (v : List ℕ). v ++ drop c out) f)

-- the pairs of states of two good tables are few enough to be counted
pub pairs_small : {one two : List ℕ} → Hops one two → (table_of one).states * (table_of two).states ≤ 4096
pairs_small {one} {two} h =
    let s = (good-table {E = edition} (omega arith) one h.first-bytes h.first).states.1 in
    let t = (good-table {E = edition} (omega arith) two h.second-bytes h.second).states.1 in
    omega (arith, mul-le-mul_left (table_of one).states t)

-- before that: the tests on words and states, then the joined markers on a shelf
module _ {one two : List ℕ} (n : Nested one two) where
  abbrev C : Table
  C = table_of one

  abbrev D : Table
  D = table_of two

  marks-are : map mark_key (marks C D) ≡ kept (pushed_keys C D)
  marks-are = keys_kept mark_key (all_marks C D)

  key-short : (w : Word) → w among pushed_keys C D → length w ≤ 17
  key-short w m =
      let k = subst (λ (l : List Word). w among l) (sym marks-are) ((kept-exact (pushed_keys C D) w).1 m) in
      let y = Memᴰ.of_map mark_key (marks C D) k in
      omega (
        arith,
        ap length y.2,
        length-reverse y.0.left,
        left-short n.small y.0 y.1,
      )

  over : 64 < length (kept (pushed_keys C D)) → 64 < length (marks C D)
  over l = omega (arith, ap length marks-are, length-map (marks C D) mark_key)

  module _ (out : List ℕ) where
    nested-large : TooLarge edition1 C D → Joins one two out 15 0 0 out
    nested-large l = joins-too-large one two out n.small.hops.first n.small.hops.second n.nest l

    pub nested-marks-full : Outgrown (pushed_keys C D) → Joins one two out 15 0 0 out
    nested-marks-full o =
        nested-large
        (inr (inr (inl (over (outgrown-short 17 64 (pushed_keys C D) key-short (omega arith) (omega arith) o)))))

    pub nested-rows-full : Outgrown (joined_keys C D) → Joins one two out 15 0 0 out
    nested-rows-full o = nested-large (inr (inr (inr (go (outgrown-rows (all_rows C D) o)))))
      where
        go : {P Q S : Type 0} → P ⊎ S → P ⊎ (Q ⊎ S)
        go (inl l) = inl l
        go (inr l) = inr (inr l)

    module _ {keys : List ℕ} {count used : ℕ} (h : Held (pushed_keys C D) keys count used) where
      marks-count : count ≡ length (marks C D)
      marks-count =
          sym (words_count keys count)
          ∙ ap length (h.are ∙ sym marks-are)
          ∙ length-map (marks C D) mark_key

      pub nested-marks-over : 64 < count → Joins one two out 15 0 0 out
      nested-marks-over l = nested-large (inr (inr (inl (omega (arith, marks-count)))))

      pub nested-rowed : count ≤ 64 → {rows : List ℕ} {c u : ℕ}
          → Held (joined_keys C D) rows c u → Rowed one two count rows c u
      nested-rowed l j = record { nested = n; numbers = marks-count; few = l; held = j }
