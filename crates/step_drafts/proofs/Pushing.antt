-- Pushing: one draft gets at its end what those that stand on it have in common, and then all do, from the last to the
-- first. Assumes nothing.
use mathlib.Core.Path.{◌≡◌, refl, sym, ◌∙◌, ap, ap₂, subst}
use mathlib.Core.Logic.{◌⊎◌, inl, inr, ⊎_elim}
use mathlib.Core.List.Memᴰ
use mathlib.Core.List.{List, [], ◌∷◌, ◌++◌, map}
use Prim.Native.Nat.{ℕ, zero, suc, ◌+◌, ◌*◌, ◌/◌, ◌%◌, ◌<◌, ◌≤◌}
use native.Mathlib.Nat.{eq-or-lt_of_le}
use native.Mathlib.Omega.{arith}
use lib.ListN.{length, take, drop, length-append}
use lib.Seq.{ext_get_or, take-add, drop-drop}
use Rattle.words.specs.Lists.{◌among◌, up_to}
use Rattle.words.specs.Words.{Word, Bytes}
use Rattle.words.proofs.Lists.{below_or}
use Rattle.words.proofs.Pasted.{Pasted, stored}
use Rattle.words.specs.LittleEndian.{byte}
use Rattle.meaning.specs.Trails.{Link}
use Rattle.session_meaning.specs.Sessions.{Entry, entry}
use Rattle.session_meaning.specs.Bytes.{link_start, length_start, link_count, length_at, link_at, NoneBelow}
use Rattle.session_meaning.specs.Numbers.{seat_at, foot_at, Levelled, pairs}
use Rattle.step_meaning.specs.Stepping.{seat, base, push}
use Rattle.step_meaning.proofs.Push.{pushed}
use Rattle.links.specs.Heads.{with_length}
use Rattle.links.proofs.Linked.{link-same}
use Rattle.step_drafts.specs.Drafts.{where_start, handed_start, slot_start, draft_room, work_size, where_at, handed_at}
use Rattle.words.specs.LittleEndian.{with_two}
use Rattle.step_drafts.specs.Drafts.{piece_in, draft_in, drafts_in, drafts_of, Away, Drafted, Written}
use Rattle.step_drafts.specs.Drafts.{CommonOn, SameLinks, above_of, PushedOne, Pushed, Short}
use Rattle.step_drafts.proofs.Listed.{part-cons, part_none, part_same}
use Rattle.step_drafts.proofs.Rooms.{apart, piece_byte, piece-length, piece-same, small-two}
use Rattle.step_drafts.proofs.Rooms.{small-written, small-part}
use Rattle.step_drafts.proofs.Groups.{draft-length, common-length, base-seat, above-all}

-- what is read of links, where they are as they were

module _ {work work' : List ℕ} (s : SameLinks work work') where
  pub same_count : link_count work' ≡ link_count work
  same_count = s.links 1 (omega arith)

  pub same-link : (i : ℕ) → i < 64 → link_at work' i ≡ link_at work i
  same-link i lt =
      link-same work' work (link_start i) (link_start i) (λ j h. s.links (link_start i + j) (omega arith))

  pub same_none : (i : ℕ) → i < 64 → NoneBelow work (link_start i) → NoneBelow work' (link_start i)
  same_none i lt h z =
      let b = h (sym (s.links (link_start i) (omega arith)) ∙ z) in
      (s.links (link_start i + 3) (omega arith) ∙ b.0, s.links (link_start i + 4) (omega arith) ∙ b.1)

  pub same-foot : (i : ℕ) → i < 64 → foot_at work' i ≡ foot_at work i
  same-foot i lt =
      let a = s.links (link_start i) (omega arith) in
      let b = s.links (link_start i + 3) (omega arith) in
      let c = s.links (link_start i + 4) (omega arith) in
      omega arith

  pub same-seat : (i : ℕ) → i < 64 → seat_at work' i ≡ seat_at work i
  same-seat i lt =
      let a = s.links (link_start i) (omega arith) in
      let b = s.links (link_start i + 1) (omega arith) in
      let c = s.links (link_start i + 2) (omega arith) in
      omega arith

  level-same : (i : ℕ) → i < 64 → (link_at work' i).level ≡ (link_at work i).level
  level-same i lt = s.links (link_start i) (omega arith)

  pub same-levelled : {starts : List ℕ} → Levelled work starts → Levelled work' starts
  same-levelled {starts} v =
      let g = v.graded in
      let few = g.few in
      let n = same_count in
      record {
        graded = record {
          whole = rw s.whole g.whole;
          few = omega arith;
          low = λ j h. omega (arith, level-same j (omega arith), g.low j (omega arith));
          bottom = λ j h. same_none j (omega arith) (g.bottom j (omega arith));
          rise = λ i j l h.
              omega (arith, level-same i (omega arith), level-same j (omega arith), g.rise i j l (omega arith));
        };
        small = s.small v.small;
        within = λ l. omega (arith, v.within l);
        after = λ j h. rw (level-same j (omega arith)) (v.after j (omega arith));
        before = λ j h. rw (level-same j (omega arith)) (v.before j (omega arith));
      }

pub links-self : (work : List ℕ) → SameLinks work work
links-self work = record { whole = refl; small = λ h. h; links = λ k l. refl }

pub links-then : {a b c : List ℕ} → SameLinks a b → SameLinks b c → SameLinks a c
links-then s t =
    record {
      whole = t.whole ∙ s.whole;
      small = λ h. t.small (s.small h);
      links = λ k l. t.links k l ∙ s.links k l;
    }

-- two bytes that are a number
pub stored-two : {work work' : List ℕ} (at n : ℕ) → n < pairs → Pasted work at (n % 256 ∷ n / 256 ∷ []) work'
    → byte work' at + 256 * byte work' (at + 1) ≡ n
stored-two {work' = work'} at n lt p =
    let e : at + 0 ≡ at = omega arith in
    let a = ap (byte work') (sym e) ∙ p.here 0 (omega arith) in
    let b = p.here 1 (omega arith) in
    omega arith

-- one draft: where its piece ends, and that there is room behind it
abbrev pub end_of : List ℕ → ℕ → ℕ
end_of work i = where_at work i + length_at work i

abbrev Room : List ℕ → ℕ → Type 0
Room work i = length (piece_in work i) + length (above_of work i) ≤ draft_room

module _ {work starts : List ℕ} {i from many foot : ℕ} (d : Drafted work)
    (v : Levelled work starts) (lt : i < link_count work) (at : foot ≡ seat_at work i)
    (c : CommonOn work foot from many) where
  above : above_of work i ≡ take many (drop from work)
  above = sym (above-all work (link_count work) i lt v.graded.rise) ∙ base-seat d i at c

  pub above-length : length (above_of work i) ≡ many
  above-length = ap length above ∙ common-length d.whole c

  pub has_room : Room work i → length_at work i + many ≤ draft_room
  has_room h = omega (arith, draft-length d i lt, above-length)

  pub end_fits : Room work i → (end_of work i) + many ≤ work_size
  end_fits h = omega (arith, has_room h, d.high i (omega arith) lt, d.few)

  away : (j : ℕ) → j < link_count work → (j ≡ i → ⊥) → Away (where_at work j) (where_at work i)
  away j l ne = go (apart j i ne)
    where
      go : (j < i) ⊎ (i < j) → Away (where_at work j) (where_at work i)
      go (inl h) = d.apart j i (omega arith) h lt
      go (inr h) = ⊎_elim inr inl (d.apart i j (omega arith) h l)

  module _ {one three : List ℕ} (two : List ℕ) (room : Room work i) (copy : Written work (end_of work i) (take many
      (drop from work)) one)
      (long : two ≡ with_length one i (length_at work i + many)) (hand : three ≡ with_two two (handed_start i) many)
    where
      in_head : i < 64
      in_head = omega (arith, d.few)

      many-long : length (take many (drop from work)) ≡ many
      many-long = common-length d.whole c

      abbrev sum : ℕ
      sum = length_at work i + many

      lengths : Pasted one (length_start i) (sum % 256 ∷ sum / 256 ∷ []) two
      lengths = stored (omega (arith, copy.whole, d.whole)) long

      hands : Pasted two (handed_start i) (many % 256 ∷ many / 256 ∷ []) three
      hands = stored (omega (arith, copy.whole, d.whole, lengths.whole)) hand

      low : slot_start 0 ≤ where_at work i
      low = d.low i (omega arith) lt

      -- all but the length, what was handed down and the places behind the piece
      other : (k : ℕ) → (k < length_start i) ⊎ (length_start i + 2 ≤ k) → (k < handed_start i) ⊎ (handed_start i + 2 ≤ k)
          → (k < (end_of work i)) ⊎ ((end_of work i) + many ≤ k) → byte three k ≡ byte work k
      other k a b e =
          hands.others k b ∙ lengths.others k a ∙ copy.others k (⊎_elim inl (λ h. inr (omega (arith, many-long))) e)

      early : (k : ℕ) → k < slot_start 0 → (k < length_start i) ⊎ (length_start i + 2 ≤ k)
          → (k < handed_start i) ⊎ (handed_start i + 2 ≤ k) → byte three k ≡ byte work k
      early k h a b = other k a b (inl (omega (arith, low)))

      small : Bytes three
      small =
          let r = has_room room in
          subst (λ (b : List ℕ). Bytes b) (sym hand)
          (small-two two (handed_start i) many
          (subst (λ (b : List ℕ). Bytes b) (sym long)
          (small-two one (length_start i) sum (small-written d.small (small-part from many d.small) copy)
          (omega arith)))
          (omega arith))

      links : SameLinks work three
      links =
          record {
            whole = hands.whole ∙ lengths.whole ∙ copy.whole;
            small = λ h. small;
            links = λ k h. early k (omega arith) (inl (omega arith)) (inl (omega arith));
          }

      start : (j : ℕ) → j < 64 → where_at three j ≡ where_at work j
      start j h =
          let a = early (where_start j) (omega arith) (inr (omega arith)) (inl (omega arith)) in
          let b = early (where_start j + 1) (omega arith) (inr (omega arith)) (inl (omega arith)) in
          omega arith

      kept-long : (j : ℕ) → j < 64 → (j ≡ i → ⊥) → length_at three j ≡ length_at work j
      kept-long j h ne = go (apart j i ne)
        where
          go : (j < i) ⊎ (i < j) → length_at three j ≡ length_at work j
          go (inl o) =
              let a = early (length_start j) (omega arith) (inl (omega arith)) (inl (omega arith)) in
              let b = early (length_start j + 1) (omega arith) (inl (omega arith)) (inl (omega arith)) in
              omega arith
          go (inr o) =
              let a = early (length_start j) (omega arith) (inr (omega arith)) (inl (omega arith)) in
              let b = early (length_start j + 1) (omega arith) (inr (omega arith)) (inl (omega arith)) in
              omega arith

      kept-handed : (j : ℕ) → j < 64 → (j ≡ i → ⊥) → handed_at three j ≡ handed_at work j
      kept-handed j h ne = go (apart j i ne)
        where
          go : (j < i) ⊎ (i < j) → handed_at three j ≡ handed_at work j
          go (inl o) =
              let a = early (handed_start j) (omega arith) (inr (omega arith)) (inl (omega arith)) in
              let b = early (handed_start j + 1) (omega arith) (inr (omega arith)) (inl (omega arith)) in
              omega arith
          go (inr o) =
              let a = early (handed_start j) (omega arith) (inr (omega arith)) (inr (omega arith)) in
              let b = early (handed_start j + 1) (omega arith) (inr (omega arith)) (inr (omega arith)) in
              omega arith

      new-long : length_at three i ≡ length_at work i + many
      new-long =
          let r = has_room room in
          let a = hands.others (length_start i) (inl (omega arith)) in
          let b = hands.others (length_start i + 1) (inl (omega arith)) in
          omega (arith, stored-two (length_start i) (length_at work i + many) (omega arith) lengths)

      new-handed : handed_at three i ≡ many
      new-handed = let r = has_room room in stored-two (handed_start i) many (omega arith) hands

      slot : (k : ℕ) → slot_start 0 ≤ k → (k < (end_of work i)) ⊎ ((end_of work i) + many ≤ k) → byte three k ≡ byte work k
      slot k h e = other k (inr (omega arith)) (inr (omega arith)) e

      whole : length three ≡ length work
      whole = links.whole

      own-piece : piece_in three i ≡ piece_in work i ++ above_of work i
      own-piece =
          let n = length_at work i in
          let w = where_at work i in
          let lo = low in
          rw (new-long, start i in_head)
          (take-add n many (drop w three)
          ∙ ap₂ (λ (x y : Word). x ++ y) (piece-same work w n three whole (λ k h. slot (w + k) (omega arith) (inl
          (omega arith))))
          (ap (take many) (drop-drop n w three) ∙ behind ∙ sym above))
        where
          behind : take many (drop (end_of work i) three) ≡ take many (drop from work)
          behind =
              let f = end_fits room in
              let lo = low in
              let m = piece-length three (end_of work i) many (omega (arith, whole, d.whole)) in
              ext_get_or 0 (take many (drop (end_of work i) three)) (take many (drop from work)) (m ∙ sym many-long)
              (λ k h.
              let l : k < many = omega arith in
              piece_byte three (end_of work i) many k l ∙ hands.others ((end_of work i) + k) (inr (omega arith))
              ∙ lengths.others ((end_of work i) + k) (inr (omega arith)) ∙ copy.here k (omega (arith, many-long)))

      kept_piece : (j : ℕ) → j < link_count work → (j ≡ i → ⊥) → piece_in three j ≡ piece_in work j
      kept_piece j l ne =
          let f : j < 64 = omega (arith, d.few) in
          let s = d.short j (omega arith) l in
          let r = has_room room in
          let lo = d.low j (omega arith) l in
          rw (kept-long j f ne, start j f)
          (piece-same work (where_at work j) (length_at work j) three whole
          (λ k h.
          slot (where_at work j + k) (omega arith)
          (⊎_elim (λ a. inl (omega arith)) (λ a. inr (omega arith)) (away j l ne))))

      same_or : (P : ℕ → Type 0) → P i → ((j : ℕ) → (j ≡ i → ⊥) → P j) → (j : ℕ) → P j
      same_or P here there j = go (below_or j i) (below_or i j)
        where
          go : (j < i) ⊎ (i ≤ j) → (i < j) ⊎ (j ≤ i) → P j
          go (inl h) o = there j (λ e. omega arith)
          go (inr h) (inl o) = there j (λ e. omega arith)
          go (inr h) (inr o) = let e : i ≡ j = omega arith in subst P e here

      pub pushed-one : PushedOne work i three
      pushed-one =
          let size = same_count links in
          let few = d.few in
          record {
            drafts = record {
              whole = whole ∙ d.whole;
              small = small;
              few = omega arith;
              below = λ j g h. same_none links j (omega arith) (d.below j g (omega arith));
              short = λ j g h.
                  same_or (λ j. j < link_count work → length_at three j ≤ draft_room)
                  (λ o. let r = has_room room in omega (arith, new-long))
                  (λ j ne o. omega (arith, kept-long j (omega arith) ne, d.short j (omega arith) o)) j (omega arith);
              low = λ j g h. rw (start j (omega arith)) (d.low j g (omega arith));
              high = λ j g h. rw (start j (omega arith), size) (d.high j g (omega arith));
              apart = λ a b g l h.
                  rw (start a (omega arith), start b (omega arith)) (d.apart a b g l (omega arith));
            };
            links = links;
            piece = own-piece;
            others = kept_piece;
            handed = new-handed ∙ sym above-length;
            kept = λ j l ne. kept-handed j (omega arith) ne;
          }

-- those from `i` on are pushed, and the others are as they were
pub record Pushing (work₀ : List ℕ) (i : ℕ) (work : List ℕ) : Type 0 where
  pub within : i ≤ link_count work₀
  pub drafts : Drafted work
  pub links : SameLinks work₀ work
  pub done : drafts_in work i (link_count work₀) ≡ push (drafts_in work₀ i (link_count work₀))
  pub left : (j : ℕ) → j < i → piece_in work j ≡ piece_in work₀ j
  pub each : (j : ℕ) → i ≤ j → j < link_count work₀ → handed_at work j ≡ length (above_of work j)

pub pushing-start : {work : List ℕ} {i : ℕ} → Drafted work → i ≡ link_count work → Pushing work i work
pushing-start {work} {i} d e =
    record {
      within = omega arith;
      drafts = d;
      links = links-self work;
      done =
          part_none (draft_in work) i (link_count work) (omega arith)
          ∙ sym (ap push (part_none (draft_in work) i (link_count work) (omega arith)));
      left = λ j l. refl;
      each = λ j g l. absurd (omega arith);
    }

-- each pushed piece is one of the list's
pushed-among : (f : ℕ → Entry) (n i : ℕ) → i < n → (s a : ℕ) → a + s ≡ i
    → pushed (push (drop (i + 1) (map f (up_to n)))) (f i) among push (drop a (map f (up_to n)))
pushed-among f n i lt zero a e =
    let d : i ≡ a = omega arith in
    let P : ℕ → Type 0 = λ a. pushed (push (drop (a + 1) (map f (up_to n)))) (f a) among push
    (drop a (map f (up_to n))) in
    let h : P i = rw (part-cons f i n lt) (Memᴰ.head refl) in
    rw (← d) h
pushed-among f n i lt (suc s) a e =
    rw (part-cons f a n (omega arith)) (Memᴰ.tail (pushed-among f n i lt s (a + 1) (omega arith)))

module _ {work₀ work : List ℕ} {j : ℕ} (i : ℕ) (g : Pushing work₀ j work) (next : i + 1 ≡ j) where
  abbrev size : ℕ
  size = link_count work₀

  few : size ≤ 64
  few = omega (arith, same_count g.links, g.drafts.few)

  inside : i < size
  inside = omega (arith, g.within)

  same-draft : draft_in work i ≡ draft_in work₀ i
  same-draft =
      let a = same-link g.links i (omega (arith, few, inside)) in
      let b = g.left i (omega arith) in
      λ k. entry (a k) (b k)

  rest-done : drafts_in work (i + 1) size ≡ push (drafts_in work₀ (i + 1) size)
  rest-done = rw next g.done

  -- what is made of draft `i` is what is made of it in the list
  pushed-same : pushed (drafts_in work (i + 1) size) (draft_in work i)
      ≡ pushed (push (drafts_in work₀ (i + 1) size)) (draft_in work₀ i)
  pushed-same = ap₂ pushed rest-done same-draft

  above-is : above_of work i ≡ base (drafts_in work (i + 1) size) (seat (link_at work i))
  above-is = ap (λ (n : ℕ). base (drafts_in work (i + 1) n) (seat (link_at work i))) (same_count g.links)

  pub pushing-room : Short (push (drafts_of work₀)) → length (piece_in work i) + length (above_of work i) ≤ draft_room
  pushing-room short =
      let h = short _ (pushed-among (draft_in work₀) size i inside i 0 (omega arith)) in
      let e = ap (λ (e : Entry). length e.piece) pushed-same in
      let l = length-append (piece_in work i) (base (drafts_in work (i + 1) size) (seat (link_at work i))) in
      omega (arith, ap length above-is)

  module _ {work' : List ℕ} (p : PushedOne work i work') where
    behind : (k : ℕ) → i < k → k < size → draft_in work' k ≡ draft_in work k
    behind k h l =
        let a = same-link p.links k (omega (arith, few)) in
        let b = p.others k (omega (arith, same_count g.links)) (λ e. omega arith) in
        λ m. entry (a m) (b m)

    behind-same : (a : ℕ) → i < a → drafts_in work' a size ≡ drafts_in work a size
    behind-same a h = part_same (draft_in work') (draft_in work) a a size size refl
        (λ k l. behind (a + k) (omega arith) l)

    above_same : (k : ℕ) → i ≤ k → k < size → above_of work' k ≡ above_of work k
    above_same k h l =
        let n = same_count p.links ∙ same_count g.links in
        let m = same_count g.links in
        ap (λ (m : ℕ). base (drafts_in work' (k + 1) m) (seat (link_at work' k))) n
        ∙ ap₂ (λ (E : List Entry) (l : Link). base E (seat l)) (behind-same (k + 1) (omega arith))
        (same-link p.links k (omega (arith, few)))
        ∙ sym (ap (λ (m : ℕ). base (drafts_in work (k + 1) m) (seat (link_at work k))) m)

    pub pushing-more : Pushing work₀ i work'
    pushing-more =
        record {
          within = omega (arith, g.within);
          drafts = p.drafts;
          links = links-then g.links p.links;
          done =
              part-cons (draft_in work') i size inside
              ∙ ap₂ (λ (e : Entry) (K : List Entry). e ∷ K) (this ∙ pushed-same)
              (behind-same (i + 1) (omega arith) ∙ rest-done)
              ∙ sym (ap push (part-cons (draft_in work₀) i size inside));
          left = λ k l.
              p.others k (omega (arith, inside, same_count g.links)) (λ e. omega arith) ∙ g.left k (omega arith);
          each = λ k h l. go k h l (eq-or-lt_of_le h);
        }
      where
        this : draft_in work' i ≡ pushed (drafts_in work (i + 1) size) (draft_in work i)
        this =
            let a = same-link p.links i (omega (arith, few, inside)) in
            let b = p.piece ∙ ap (λ (w : Word). piece_in work i ++ w) above-is in
            λ k. entry (a k) (b k)

        go : (k : ℕ) → i ≤ k → k < size → (i ≡ k) ⊎ (i < k) → handed_at work' k ≡ length (above_of work' k)
        go k h l (inl e) =
            subst (λ (k : ℕ). handed_at work' k ≡ length (above_of work' k)) e
            (p.handed ∙ ap length (sym (above_same i (omega arith) inside)))
        go k h l (inr o) =
            p.kept k (omega (arith, same_count g.links)) (λ e. omega arith)
            ∙ g.each k (omega arith) l ∙ ap length (sym (above_same k h l))

pub pushing-all : {work₀ work : List ℕ} {i : ℕ} → Pushing work₀ i work → i ≤ 0 → Pushed work₀ work
pushing-all {work₀} {work} {i} g le =
    let e : i ≡ 0 = omega arith in
    record {
      drafts = g.drafts;
      links = g.links;
      are = rw (same_count g.links) (rw e at g.done);
      each = λ j l. g.each j (omega arith) l;
    }
