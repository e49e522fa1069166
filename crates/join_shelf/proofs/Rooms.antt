-- A word more in the rooms of a shelf: where the others stand after it was laid down and its slot inserted. Assumes
-- nothing.
use mathlib.Core.Path.{◌≡◌, refl, sym, ◌∙◌, ap, ap₂, subst}
use mathlib.Core.Logic.{◌⊎◌, inl, inr}
use mathlib.Core.List.Memᴰ
use mathlib.Core.List.{List, [], ◌∷◌, ◌++◌, append_assoc}
use Prim.Native.Nat.{ℕ, zero, suc, ◌+◌, ◌-◌, ◌*◌, ◌<◌, ◌≤◌}
use native.Mathlib.Nat.{eq-or-lt_of_le, sub-zero}
use native.Mathlib.Numerals.{add-one}
use native.Mathlib.Omega.{arith}
use borrow.Author.Count.{below_more}
use lib.ListN.{length, get_or, take, drop, length-append}
use lib.Seq.{slice, take-take, take-append-le, drop_at, length-take-le, take-length, take-nil}
use lib.Seq.{paste, take-paste}
use Rattle.words.specs.Lists.{◌among◌, up_to}
use Rattle.words.specs.Words.{Word}
use Rattle.words.specs.Calls.{Inserted}
use Rattle.words.specs.Order.{Less, Side, lower, same, upper, side, Rises}
use Rattle.words.proofs.Lists.{up_to-in, up_to-out, below_or}
use Rattle.words.proofs.Ordered.{less-self, side-lower, side_same, side-upper}
use Rattle.words.proofs.Shifted.{inserted-take}
use Rattle.words.proofs.Pasted.{Pasted, pasted}
use Rattle.join_shelf.specs.Shelved.{shelf_cap, shelf_room, order_at, start_of, slot_of, word_in, word_at, words_of}
use Rattle.join_shelf.specs.Shelved.{kept, total, Held, WordPlace, Stored, SameOrder}
use Rattle.join_shelf.proofs.Lists.{add, add-there, add-new, add-between, kept_more, kept-rises, words_count}
use Rattle.join_shelf.proofs.Turns.{words-rise}

-- a part by its two ends, as the code takes it
pub part_slice : (from to : ℕ) (l : Word) → take (to - from) (drop from l) ≡ slice from to l
part_slice zero to l = rw (sub-zero to)
part_slice (suc from) zero l =
    let e : 0 - suc from ≡ 0 = omega arith in
    ap (λ (n : ℕ). take n (drop (suc from) l)) e
part_slice (suc from) (suc to) [] = take-nil (suc to - suc from)
part_slice (suc from) (suc to) (x ∷ l) =
    let e : suc to - suc from ≡ to - from = omega arith in
    ap (λ (n : ℕ). take n (drop from l)) e ∙ part_slice from to l

-- two parts laid one after the other behind what is in use, and then where they start and end, in two bytes each
module _ (room first second third : Word) (count used : ℕ) (head tail : Word) (a b c d : ℕ) where
  abbrev end : ℕ
  end = used + length head + length tail

  abbrev slot : ℕ
  slot = shelf_room + 2 * count

  module _ (p : first ≡ paste room used head (length head))
      (q : second ≡ paste first (used + length head) tail (length tail))
      (r : third ≡ paste second slot (a ∷ b ∷ c ∷ d ∷ []) 4)
      (whole : length room ≡ 5890) (few : count < shelf_cap) (fits : end ≤ shelf_room) where
    one : Pasted room used head first
    one = pasted (omega arith) p

    two : Pasted first (used + length head) tail second
    two = pasted (omega (arith, one.whole)) q

    three : Pasted second slot (a ∷ b ∷ c ∷ d ∷ []) third
    three = pasted (omega (arith, one.whole, two.whole)) r

    others : (i : ℕ) → shelf_room ≤ i → (i < slot) ⊎ (slot + 4 ≤ i) → get_or third i 0 ≡ get_or room i 0
    others i l o = three.others i o ∙ two.others i (inr (omega arith)) ∙ one.others i (inr (omega arith))

    laid-bytes : take end third ≡ take used room ++ (head ++ tail)
    laid-bytes =
        rw r
        (ap (take end) (append_assoc (take slot second) (a ∷ b ∷ c ∷ d ∷ []) _)
        ∙ take-append-le end (take slot second) _
        (omega (arith, length-take-le slot second (omega (arith, one.whole, two.whole))))
        ∙ take-take end slot second (omega arith)
        ∙ ap (take end) q
        ∙ take-paste first (used + length head) tail (length tail) (omega (arith, one.whole)) (omega arith)
        ∙ ap₂ (λ (x y : Word). take (used + length head) x ++ y) p (take-length tail)
        ∙ ap (λ (x : Word). x ++ tail) (take-paste room used head (length head) (omega arith) (omega arith))
        ∙ ap (λ (x : Word). take used room ++ x ++ tail) (take-length head)
        ∙ append_assoc (take used room) head tail)

    pub stored : a + 256 * b ≡ used → c + 256 * d ≡ end
        → Stored room count used (head ++ tail) end third × SameOrder room third
    stored from to =
        let here : (j i : ℕ) → j < 4 → slot + j ≡ i → get_or third i 0 ≡ get_or (a ∷ b ∷ c ∷ d ∷ []) j 0 =
        λ j i l e. ap (λ (k : ℕ). get_or third k 0) (sym e) ∙ three.here j l in
        let w = here 0 slot (omega arith) (omega arith) in
        let x = here 1 (slot + 1) (omega arith) (omega arith) in
        let y = here 2 (shelf_room + 2 * (count + 1)) (omega arith) (omega arith) in
        let z = here 3 (shelf_room + 2 * (count + 1) + 1) (omega arith) (omega arith) in (
          record {
            long = omega (arith, length-append head tail);
            within = omega arith;
            bytes = laid-bytes;
            before = λ k l.
                let e = others (shelf_room + 2 * k) (omega arith) (inl (omega arith)) in
                let f = others (shelf_room + 2 * k + 1) (omega arith) (inl (omega arith)) in
                omega arith;
            from = omega arith;
            to = omega arith;
          },
          λ i. others (order_at + i) (omega arith) (inr (omega arith)),
        )

-- where the others stand, and the new one
module _ {room room' : List ℕ} {count used end : ℕ} {w : Word} (s : Stored room count used w end room') where
  below-used : used ≤ length room
  below-used = omega (arith, s.long, s.within)

  bytes-stay : (to : ℕ) → to ≤ used → take to room' ≡ take to room
  bytes-stay to le =
      sym (take-take to end room' (omega (arith, s.long)))
      ∙ ap (take to) s.bytes
      ∙ take-append-le to (take used room) w (omega (arith, length-take-le used room below-used))
      ∙ take-take to used room le

  new_word : word_in room' count ≡ w
  new_word =
      ap (λ (k : ℕ). slice k (start_of room' (count + 1)) room') s.from
      ∙ ap (λ (k : ℕ). slice used k room') s.to
      ∙ ap (drop used) s.bytes
      ∙ drop_at (take used room) w used (length-take-le used room below-used)

  module _ (last : 0 < count → start_of room count ≡ used) where
    end_stays : (k : ℕ) → k < count → start_of room' (k + 1) ≡ start_of room (k + 1)
    end_stays k l = go (eq-or-lt_of_le (omega arith))
      where
        go : (k + 1 ≡ count) ⊎ (k + 1 < count) → start_of room' (k + 1) ≡ start_of room (k + 1)
        go (inl e) = rw e (s.from ∙ sym (last (omega arith)))
        go (inr h) = s.before (k + 1) h

    word-stays : (k : ℕ) → k < count → start_of room (k + 1) ≤ used → word_in room' k ≡ word_in room k
    word-stays k l le =
        ap (λ (i : ℕ). slice i (start_of room' (k + 1)) room') (s.before k l)
        ∙ ap (λ (i : ℕ). slice (start_of room k) i room') (end_stays k l)
        ∙ ap (drop (start_of room k)) (bytes-stay (start_of room (k + 1)) le)

  -- a slot inserted behind all that changes nothing of it
  module _ {room'' : List ℕ} (at : ℕ) (into : Inserted room' (order_at + count) (order_at + at) count room'')
      (few : count < shelf_cap) (fits : end ≤ shelf_room) where
    start-stays : (k : ℕ) → k ≤ shelf_cap → start_of room'' k ≡ start_of room' k
    start-stays k l =
        let e = into.before (shelf_room + 2 * k) (omega arith) in
        let f = into.before (shelf_room + 2 * k + 1) (omega arith) in
        omega arith

    stored-into : Stored room count used w end room''
    stored-into =
        record {
          long = s.long;
          within = s.within;
          bytes = inserted-take into end (omega arith) ∙ s.bytes;
          before = λ k l. start-stays k (omega arith) ∙ s.before k l;
          from = start-stays count (omega arith) ∙ s.from;
          to = start-stays (count + 1) (omega arith) ∙ s.to;
        }

-- how many words stand
pub held-count : {made : List Word} {room : List ℕ} {count used : ℕ}
    → Held made room count used → count ≡ length (kept made)
held-count {room = room} {count} h = sym (words_count room count) ∙ ap length h.are

module _ {made : List Word} {room : List ℕ} {count used : ℕ}
    (held : Held made room count used) {w : Word} {at : ℕ}
    (place : WordPlace room count w at) where
  abbrev word : ℕ → Word
  word i = word_at room i

  -- the word is there
  module _ (there : at < count) (hit : w ≡ word at) where
    pub held_same : Held (made ++ w ∷ []) room count used
    held_same =
        record {
          standing = held.standing;
          are = held.are ∙ sym as-was;
          filled = held.filled ∙ ap total (sym as-was);
          fits = held.fits;
          behind = held.behind;
          last = held.last;
        }
      where
        is-kept : w among kept made
        is-kept =
            subst (λ (l : List Word). w among l) held.are
            (Memᴰ.cast hit (Memᴰ.map word (up_to-in count at there)))

        as-was : kept (made ++ w ∷ []) ≡ kept made
        as-was = kept_more w made ∙ add-there w (kept made) (kept-rises made) is-kept

  -- it is new
  module _ (new : at < count → w ≡ word at → ⊥) where
    before-next : at < count → Less w (word at)
    before-next l = go (side w (word at)) refl
      where
        go : (s : Side) → side w (word at) ≡ s → Less w (word at)
        go lower e = side-lower w (word at) e
        go same e = absurd (new l (side_same w (word at) e))
        go upper e = absurd (place.onward at (omega arith) l (side-upper w (word at) e))

    not_there : w among kept made → ⊥
    not_there m =
        let i = Memᴰ.of_map word (up_to count) (subst (λ (l : List Word). w among l) (sym held.are) m) in
        go i.0 (up_to-out count i.0 i.1) i.2 (below_or i.0 at)
      where
        later : (i : ℕ) → i < count → word i ≡ w → (at ≡ i) ⊎ (at < i) → ⊥
        later i l e (inl d) = new (omega arith) (sym (ap word d ∙ e))
        later i l e (inr h) =
            place.onward at (omega arith) (omega arith) (rw e at (words-rise held.standing at i h l))

        go : (i : ℕ) → i < count → word i ≡ w → (i < at) ⊎ (at ≤ i) → ⊥
        go i l e (inl h) = less-self w (rw e at (place.before i h))
        go i l e (inr h) = later i l e (eq-or-lt_of_le h)

    pub more-words : length (kept (made ++ w ∷ [])) ≡ count + 1
    more-words =
        let n = held-count held in
        ap length (kept_more w made) ∙ (add-new w (kept made) not_there).0 ∙ omega arith

    pub more_bytes : total (kept (made ++ w ∷ [])) ≡ used + length w
    more_bytes =
        let n = held.filled in
        ap total (kept_more w made) ∙ (add-new w (kept made) not_there).1 ∙ omega arith

    module _ {room' room'' : List ℕ} {end : ℕ} (stored : Stored room count used w end room')
        (same : SameOrder room room')
        (into : Inserted room' (order_at + count) (order_at + at) count room'') (few : count < shelf_cap)
        (fits : end ≤ shelf_room) where
      s : Stored room count used w end room''
      s = stored-into stored at into few fits

      stays : (i : ℕ) → i < count → word_in room'' (slot_of room i) ≡ word i
      stays i l =
          let k = held.standing.slots i l in
          word-stays s held.last (slot_of room i) k (held.behind (slot_of room i) k)

      -- which slot is read: those before the new one, the new one, and those behind it
      slot-before : (i : ℕ) → i < at → slot_of room'' i ≡ slot_of room i
      slot-before i h = into.before (order_at + i) (omega arith) ∙ same i

      slot-after : (i : ℕ) → at ≤ i → i < count → slot_of room'' (suc i) ≡ slot_of room i
      slot-after i h l =
          let e : order_at + suc i ≡ order_at + i + 1 = omega arith in
          ap (λ (k : ℕ). get_or room'' k 0) e ∙ into.after (order_at + i) (omega arith) (omega arith) ∙ same i

      listed : words_of room'' (count + 1) ≡ kept (made ++ w ∷ [])
      listed =
          rw add-one
          (sym
          (add-between w word (word_at room'') count at place.within place.before before-next
          (λ i h. ap (word_in room'') (slot-before i h) ∙ stays i (omega (arith, place.within)))
          (ap (word_in room'') into.here ∙ new_word s)
          (λ i h k. ap (word_in room'') (slot-after i h k) ∙ stays i k))
          ∙ ap (add w) held.are
          ∙ sym (kept_more w made))

      within : (j : ℕ) → j < count + 1 → slot_of room'' j < count + 1
      within j l = go j l (below_or j at) (below_or at j)
        where
          go : (j : ℕ) → j < count + 1 → (j < at) ⊎ (at ≤ j) → (at < j) ⊎ (j ≤ at) → slot_of room'' j < count + 1
          go j l (inl h) o =
              omega (arith, slot-before j h, held.standing.slots j (omega (arith, place.within)))
          go zero l (inr h) (inl k) = absurd (omega arith)
          go (suc j) l (inr h) (inl k) =
              omega (arith, slot-after j (omega arith) (omega arith), held.standing.slots j (omega arith))
          go j l (inr h) (inr k) =
              let e : j ≡ at = omega arith in
              rw e (omega (arith, into.here))

      pub held_new : Held (made ++ w ∷ []) room'' (count + 1) end
      held_new =
          record {
            standing = record {
              few = omega arith;
              slots = within;
              edges =
                  below_more (λ k. start_of room'' k ≤ start_of room'' (k + 1)) count
                  (λ k l. omega (arith, s.before k l, end_stays s held.last k l, held.standing.edges k l))
                  (omega (arith, s.from, s.to, s.long));
              ends =
                  below_more (λ k. start_of room'' (k + 1) ≤ shelf_room) count
                  (λ k l. omega (arith, end_stays s held.last k l, held.standing.ends k l))
                  (omega (arith, s.to));
              rise = subst (Rises (λ (v : Word). v)) (sym listed) (kept-rises (made ++ w ∷ []));
            };
            are = listed;
            filled = sym (more_bytes ∙ sym s.long);
            fits = fits;
            behind =
                below_more (λ k. start_of room'' (k + 1) ≤ end) count
                (λ k l. omega (arith, end_stays s held.last k l, held.behind k l, s.long))
                (omega (arith, s.to));
            last = λ h. s.to;
          }
