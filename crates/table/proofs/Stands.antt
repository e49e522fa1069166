-- The table that a good file stands for is a good table. Assumes nothing.
use mathlib.Core.Path.{◌≡◌, refl, subst}
use mathlib.Core.List.Memᴰ
use mathlib.Core.List.{List, [], ◌∷◌, map, map-append}
use mathlib.Core.Logic.{◌⊎◌, inl, inr}
use Prim.Native.Nat.{ℕ, zero, suc, ◌+◌, ◌-◌, ◌^◌, ◌<◌, ◌≤◌}
use native.Mathlib.Nat.{eq-zero-or-pos, lt_of_lt_of_le}
use native.Mathlib.Numerals.{add-one}
use native.Mathlib.Omega.{arith}
use lib.Pow.{pow_mono}
use lib.ListN.{length-map, length-take, take, drop}
use borrow.Author.Tests.{le-ltb}
use Rattle.words.specs.Lists.{◌among◌, up_to}
use Rattle.words.specs.Words.{Bytes}
use Rattle.words.specs.Order.{Less, Rises}
use Rattle.words.proofs.Lists.{up_to-out, length-up_to, get_or-byte}
use Rattle.words.proofs.Ordered.{less-trans, rises-append}
use Rattle.words.specs.LittleEndian.{byte, two, eight}
use Rattle.meaning.specs.Parts.{class_count, starting_start, final_start}
use Rattle.meaning.specs.Table.{row_key, Row, GoodSet, GoodRow, GoodTable}
use Rattle.sets.specs.Sets.{members}
use Rattle.table.specs.File.{row_count, row_start, words_start, row_at, table_of}
use Rattle.table.specs.Good.{Edition, first_edition, GoodFile, Rows}
use Rattle.sets.proofs.Members.{members-rise, members-below, members-some}

-- what stands in a part of a list stands in it
take-among : {b : ℕ} (n : ℕ) (l : List ℕ) → b among take n l → b among l
take-among zero l m = elim m [ ]
take-among (suc n) [] m = elim m [ ]
take-among (suc n) (x ∷ l) (Memᴰ.head e) = Memᴰ.head e
take-among (suc n) (x ∷ l) (Memᴰ.tail m) = Memᴰ.tail (take-among n l m)

drop-among : {b : ℕ} (n : ℕ) (l : List ℕ) → b among drop n l → b among l
drop-among zero l m = m
drop-among (suc n) [] m = m
drop-among (suc n) (x ∷ l) m = Memᴰ.tail (drop-among n l m)

-- rows each above the one before rise
module _ (file : List ℕ) (rows : Rows file) where
  above : (n i : ℕ) → i < n → n < row_count file → Less (row_key (row_at file i)) (row_key (row_at file n))
  above zero i h l = absurd (omega arith)
  above (suc n) i h l = go (eq-zero-or-pos (n - i)) (above n i)
    where
      next : Less (row_key (row_at file n)) (row_key (row_at file (suc n)))
      next = rw add-one at (rows.rise n (omega arith)).less

      go : (n - i ≡ 0) ⊎ (0 < n - i)
          → (i < n → n < row_count file → Less (row_key (row_at file i)) (row_key (row_at file n)))
          → Less (row_key (row_at file i)) (row_key (row_at file (suc n)))
      go (inl e) ih = let f : i ≡ n = omega arith in rw f next
      go (inr p) ih =
          less-trans (row_key (row_at file i)) (row_key (row_at file n)) (row_key (row_at file (suc n)))
          (ih (omega arith) (omega arith)) next

  rows-rise : (n : ℕ) → n ≤ row_count file → Rises row_key (map (row_at file) (up_to n))
  rows-rise zero h = tt
  rows-rise (suc n) h =
      rw (map-append (row_at file) (up_to n) (n ∷ []))
      (rises-append row_key (map (row_at file) (up_to n)) (row_at file n ∷ []) (rows-rise n (omega arith))
      (λ y m. elim m [ ], tt) (λ x y i k. go x y (Memᴰ.of_map (row_at file) (up_to n) i) (Memᴰ.eq_of_singleton k)))
    where
      go : (x y : Row) → (j : ℕ) × (j among up_to n) × (row_at file j ≡ x) → y ≡ row_at file n
          → Less (row_key x) (row_key y)
      go x y j e = rw (e, ← j.2) (above n j.0 (up_to-out n j.0 j.1) (omega arith))

eight-below : (file : List ℕ) → Bytes file → (i : ℕ) → eight file i < 2 ^ 64
unfolding eight
eight-below file bytes i =
    let h = get_or-byte file bytes in
    omega (arith, h i, h (i + 1), h (i + 2), h (i + 2 + 1), h (i + 4), h (i + 4 + 1), h (i + 6), h (i + 6 + 1))

good-set : (n s : ℕ) → s < 2 ^ n → GoodSet n (members s)
good-set n s h = record { rise = members-rise s; below = members-below n s h }

-- of an edition whose words may have up to 255 bytes, as many as a row's length byte can say
module _ {E : Edition} (wide : 255 ≤ E.limits.word) (file : List ℕ) (bytes : Bytes file) (g : GoodFile E file) where
  good-row : (i : ℕ) → i < row_count file → GoodRow E.limits (table_of file) (row_at file i)
  unfolding table_of
  good-row i l =
      let f = g.rows.fit i l in
      record {
        from = f.from;
        to = f.to;
        marker = f.marker;
        bytes = λ b m.
            let start = words_start file + two file (row_start i + 4) in
            bytes b (drop-among start file (take-among (byte file (row_start i + 6)) (drop start file) m));
        short = simp length-take (let b = get_or-byte file bytes (row_start i + 6) in omega arith);
      }

  pub good-table : GoodTable E.limits (table_of file)
  unfolding table_of
  good-table =
      record {
        states = g.head.states;
        markers = g.head.markers;
        depth_cap = g.head.depth_cap;
        waiting_cap = g.head.waiting_cap;
        symbols = λ a h. rw (le-ltb a class_count h);
        starting = good-set (byte file 1) (eight file starting_start) g.sets.starting;
        some = members-some (eight file starting_start) g.sets.some (eight-below file bytes starting_start);
        final = good-set (byte file 1) (eight file final_start) g.sets.final;
        count = simp (length-map, length-up_to) g.contents.count;
        row = λ r m.
            let x = Memᴰ.of_map (row_at file) (up_to (row_count file)) m in
            subst (GoodRow E.limits (table_of file)) x.2
            (good-row x.0 (up_to-out (row_count file) x.0 x.1));
        rise = rows-rise file g.rows (row_count file) (omega arith);
      }

-- its rows are the file's, in their order
pub rows-of : (file : List ℕ) → (table_of file).rows ≡ map (row_at file) (up_to (row_count file))
unfolding table_of
rows-of file = refl

-- its starting states: there are at most 64 states, so that nothing is asked of the file's bytes
pub starting-of : (file : List ℕ) → GoodFile first_edition file
    → GoodSet (table_of file).states (table_of file).starting
    × ((q : ℕ) × (q among (table_of file).starting))
    × ((table_of file).states ≤ 64)
unfolding table_of
starting-of file g =
    let s = g.sets in
    let room = g.head.states.1 in (
      good-set (byte file 1) (eight file starting_start) s.starting,
      members-some (eight file starting_start) s.some (lt_of_lt_of_le s.starting (pow_mono room)),
      room,
    )
