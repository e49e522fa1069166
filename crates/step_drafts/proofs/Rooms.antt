-- What is read of the room: of a place that another was moved to, of a part that was written, of a draft that was.
-- Assumes nothing.
use mathlib.Core.Path.{◌≡◌, refl, sym, ◌∙◌, ap, subst}
use mathlib.Core.Logic.{◌⊎◌, inl, inr, ⊎_elim}
use mathlib.Core.List.{List, [], ◌∷◌, map}
use Prim.Native.Nat.{ℕ, zero, suc, ◌+◌, ◌-◌, ◌/◌, ◌%◌, ◌<◌, ◌≤◌}
use native.Mathlib.Nat.{add-zero}
use native.Mathlib.Omega.{arith}
use lib.ListN.{length, get_or, take, drop, set, length-set, length-take, length-drop}
use lib.ListN.{get_or-eq_default}
use lib.Seq.{ext_get_or, get_or-take, get_or-drop, get_or-set_same, get_or-set_other, length-take-le}
use Rattle.words.specs.Lists.{up_to}
use Rattle.words.specs.Words.{Word, Bytes}
use Rattle.words.proofs.Pasted.{Pasted, stored}
use Rattle.words.proofs.Lists.{below_or, byte-get_or, get_or-byte, bytes-cons, bytes-nil}
use Rattle.words.specs.LittleEndian.{byte}
use Rattle.meaning.specs.Answers.{links_cap}
use Rattle.session_meaning.specs.Sessions.{entry}
use Rattle.session_meaning.specs.Bytes.{link_start, length_start, link_count, length_at, link_at, NoneBelow}
use Rattle.session_meaning.specs.Numbers.{pairs}
use Rattle.links.specs.declared.Link.{Link as Five}
use Rattle.links.specs.Heads.{five_of, meant, Read, with_link}
use Rattle.links.proofs.Linked.{link-same, Linked, linked}
use Rattle.step_drafts.specs.Drafts.{where_start, slot_start, draft_room, work_size, where_at}
use Rattle.words.specs.LittleEndian.{with_two}
use Rattle.step_drafts.specs.Drafts.{piece_in, draft_in, Away, Drafts, Clean, Moved, Rest, Drew}
use Rattle.step_drafts.specs.Drafts.{Written, drafts_in, drafts_of, Drafted}
use Rattle.step_drafts.proofs.Listed.{part_same}

-- of two numbers that differ one is less
pub apart : (s t : ℕ) → (s ≡ t → ⊥) → (s < t) ⊎ (t < s)
apart s t other = go (below_or s t) (below_or t s)
  where
    go : (s < t) ⊎ (t ≤ s) → (t < s) ⊎ (s ≤ t) → (s < t) ⊎ (t < s)
    go (inl h) o = inl h
    go (inr h) (inl k) = inr k
    go (inr h) (inr k) = absurd (other (omega arith))

-- parts of the room

module _ (work : List ℕ) (at many : ℕ) where
  pub piece-length : at + many ≤ length work → length (take many (drop at work)) ≡ many
  piece-length fits = length-take-le many (drop at work) (omega (arith, length-drop at work))

  pub piece_byte : (i : ℕ) → i < many → byte (take many (drop at work)) i ≡ byte work (at + i)
  piece_byte i lt = get_or-take many (drop at work) i 0 lt ∙ get_or-drop at work i 0

  -- a part with the same bytes is the same
  pub piece-same : (work' : List ℕ) → length work' ≡ length work
      → ((k : ℕ) → k < many → byte work' (at + k) ≡ byte work (at + k))
      → take many (drop at work') ≡ take many (drop at work)
  piece-same work' whole h =
      ext_get_or 0 (take many (drop at work')) (take many (drop at work)) (simp (length-take, length-drop, whole))
      (λ i l.
      let m : i < many = omega (arith, length-take many (drop at work')) in
      get_or-take many (drop at work') i 0 m ∙ get_or-drop at work' i 0 ∙ h i m ∙ sym (piece_byte i m))

-- bytes written into bytes leave bytes

pub small-set : (l : List ℕ) (i v : ℕ) → Bytes l → v < 256 → Bytes (set l i v)
small-set l i v small lt = byte-get_or (set l i v) (λ k. go k (below_or k i) (below_or i k))
  where
    other : (k : ℕ) → (k ≡ i → ⊥) → byte (set l i v) k < 256
    other k ne = omega (arith, get_or-set_other l i k v 0 ne, get_or-byte l small k)

    at : (k : ℕ) → i ≡ k → (k < length l) ⊎ (length l ≤ k) → byte (set l i v) k < 256
    at k e (inl h) = rw (← e) (omega (arith, get_or-set_same l i v 0 (omega arith)))
    at k e (inr h) = omega (arith, get_or-eq_default (set l i v) 0 {n = k} (omega (arith, length-set l i v)))

    go : (k : ℕ) → (k < i) ⊎ (i ≤ k) → (i < k) ⊎ (k ≤ i) → byte (set l i v) k < 256
    go k (inl h) o = other k (λ e. omega arith)
    go k (inr h) (inl o) = other k (λ e. omega arith)
    go k (inr h) (inr o) = at k (omega arith) (below_or k (length l))

pub small-part : {work : List ℕ} (at many : ℕ) → Bytes work → Bytes (take many (drop at work))
small-part {work} at many small = byte-get_or (take many (drop at work)) (λ k. go k (below_or k many))
  where
    go : (k : ℕ) → (k < many) ⊎ (many ≤ k) → byte (take many (drop at work)) k < 256
    go k (inl l) = omega (arith, piece_byte work at many k l, get_or-byte work small (at + k))
    go k (inr g) =
        let w = take many (drop at work) in
        let e = get_or-eq_default w 0 {n = k} (omega (arith, length-take many (drop at work))) in
        omega arith

pub small-two : (l : List ℕ) (at n : ℕ) → Bytes l → n < pairs → Bytes (with_two l at n)
small-two l at n small lt =
    small-set (set l at (n % 256)) (at + 1) (n / 256) (small-set l at (n % 256) small (omega arith)) (omega arith)

pub small-written : {work two : List ℕ} {at : ℕ} {w : Word} → Bytes work → Bytes w → Written work at w two → Bytes two
small-written {work} {two} {at} {w} old new a =
    byte-get_or two (λ k. go k (below_or k at) (below_or k (at + length w)))
  where
    go : (k : ℕ) → (k < at) ⊎ (at ≤ k) → (k < at + length w) ⊎ (at + length w ≤ k) → byte two k < 256
    go k (inl l) o = omega (arith, a.others k (inl l), get_or-byte work old k)
    go k (inr g) (inr h) = omega (arith, a.others k (inr h), get_or-byte work old k)
    go k (inr g) (inl l) =
        let e : at + (k - at) ≡ k = omega arith in
        let f = ap (byte two) (sym e) ∙ a.here (k - at) (omega arith) in
        omega (arith, f, get_or-byte w new (k - at))

-- what stands at a place

pub moved-self : (work : List ℕ) (i : ℕ) → Moved work i work i
moved-self work i = record { link = λ k l. refl; long = refl; start = refl }

module _ {work work' : List ℕ} {i j : ℕ} (m : Moved work i work' j) where
  pub moved_then : {work'' : List ℕ} {k : ℕ} → Moved work' j work'' k → Moved work i work'' k
  moved_then n =
      record {
        link = λ b l. n.link b l ∙ m.link b l;
        long = n.long ∙ m.long;
        start = n.start ∙ m.start;
      }

  pub moved-link : link_at work' j ≡ link_at work i
  moved-link = link-same work' work (link_start j) (link_start i) m.link

  level-byte : byte work' (link_start j) ≡ byte work (link_start i)
  level-byte = simp add-zero at (m.link 0 (omega arith))

  pub moved_none : NoneBelow work (link_start i) → NoneBelow work' (link_start j)
  moved_none h z =
      let b = h (sym level-byte ∙ z) in
      (m.link 3 (omega arith) ∙ b.0, m.link 4 (omega arith) ∙ b.1)

  -- with its piece, where that is as it was
  pub moved-draft : length work' ≡ length work
      → ((k : ℕ) → k < length_at work i → byte work' (where_at work i + k) ≡ byte work (where_at work i + k))
      → draft_in work' j ≡ draft_in work i
  moved-draft whole h =
      let a = moved-link in
      let b : piece_in work' j ≡ piece_in work i =
      rw (m.long, m.start) (piece-same work (where_at work i) (length_at work i) work' whole h) in
      λ k. entry (a k) (b k)

-- all but places stays

pub rest-self : (work : List ℕ) → Rest work work
rest-self work = record { whole = refl; small = λ b. b; slots = λ k l. refl }

pub rest_then : {a b c : List ℕ} → Rest a b → Rest b c → Rest a c
rest_then r s =
    record {
      whole = s.whole ∙ r.whole;
      small = λ h. s.small (r.small h);
      slots = λ k l. s.slots k l ∙ r.slots k l;
    }

-- drafts that are moved side by side are the same drafts
module _ {work work' : List ℕ} {a c : ℕ} (b d : ℕ) (drafts : Drafts work a c) (rest : Rest work work')
    (long : c - a ≡ d - b) (fits : d ≤ links_cap) (m : (k : ℕ) → a + k < c → Moved work (a + k) work' (b + k)) where
  to : (P : ℕ → Type 0) → ((k : ℕ) → a + k < c → P (b + k)) → (i : ℕ) → b ≤ i → i < d → P i
  to P h i ge lt =
      let e : b + (i - b) ≡ i = omega arith in
      rw e at (h (i - b) (omega arith))

  pub drafts-moved : Drafts work' b d
  drafts-moved =
      record {
        whole = rest.whole ∙ drafts.whole;
        small = rest.small drafts.small;
        few = fits;
        below =
            to (λ i. NoneBelow work' (link_start i)) (λ k l. moved_none (m k l) (drafts.below (a + k) (omega arith) l));
        short =
            to (λ i. length_at work' i ≤ draft_room)
            (λ k l. let e = (m k l).long in omega (arith, drafts.short (a + k) (omega arith) l));
        low =
            to (λ i. slot_start 0 ≤ where_at work' i)
            (λ k l. let e = (m k l).start in omega (arith, drafts.low (a + k) (omega arith) l));
        high =
            to (λ i. where_at work' i + draft_room ≤ slot_start (d - b))
            (λ k l. let e = (m k l).start in omega (arith, drafts.high (a + k) (omega arith) l));
        apart = λ i j g l h.
            to (λ i. i < j → Away (where_at work' i) (where_at work' j))
            (λ k n o.
            to (λ j. b + k < j → Away (where_at work' (b + k)) (where_at work' j))
            (λ s t u.
            rw ((m k n).start, (m s t).start) (drafts.apart (a + k) (a + s) (omega arith) (omega arith) t))
            j (omega arith) h o)
            i g (omega arith) l;
      }

  pub same-drafts : drafts_in work' b d ≡ drafts_in work a c
  same-drafts =
      part_same (draft_in work') (draft_in work) b a d c (sym long)
      (λ k l.
      let h : a + k < c = omega arith in
      let low = drafts.low (a + k) (omega arith) h in
      moved-draft (m k h) rest.whole (λ n o. rest.slots (where_at work (a + k) + n) (omega arith)))

-- a place that was written

-- the five bytes of a link, written one after the other
abbrev links-of : List ℕ → ℕ → Five → List ℕ
links-of work i l =
    set (set (set (set (set work (link_start i) l.level) (link_start i + 1) l.state) (link_start i + 2) l.marker)
    (link_start i + 3) l.state_below) (link_start i + 4) l.marker_below

pub five-small : {bytes : List ℕ} {k : ℕ} {l : Five} → Bytes bytes → Read bytes k l → Bytes (five_of l)
five-small {bytes} {k} small r =
    let b = get_or-byte bytes small in
    bytes-cons (omega (arith, r.level, b k)) (bytes-cons (omega (arith, r.state, b (k + 1)))
    (bytes-cons (omega (arith, r.marker, b (k + 2))) (bytes-cons (omega (arith, r.state-below, b (k + 3)))
    (bytes-cons (omega (arith, r.marker-below, b (k + 4))) bytes-nil))))

pub clean-bytes : {l : Five} → Clean l → Bytes (five_of l)
clean-bytes c =
    bytes-cons c.level (bytes-cons c.state (bytes-cons c.marker (bytes-cons c.state-below
    (bytes-cons c.marker-below bytes-nil))))

module _ (work : List ℕ) {work' : List ℕ} (i : ℕ) (l : Five) (n at : ℕ) (whole : length work ≡ work_size) (lt : i < 64)
    (is : work' ≡ with_two (with_link work i l n) (where_start i) at) where
  one : Linked work i l n (with_link work i l n)
  one = linked l (omega arith) lt refl

  two : Pasted (with_link work i l n) (where_start i) (at % 256 ∷ at / 256 ∷ []) work'
  two = stored (omega (arith, one.whole)) is

  other : (k : ℕ) → (k < link_start i) ⊎ (link_start (i + 1) ≤ k) → (k < length_start i) ⊎ (length_start (i + 1) ≤ k)
      → (k < where_start i) ⊎ (where_start (i + 1) ≤ k) → byte work' k ≡ byte work k
  other k a b c = two.others k (⊎_elim inl (λ h. inr (omega arith)) c) ∙ one.others k a b

  pub drew : n < pairs → at < pairs → Bytes work → Bytes (five_of l) → Drew work i l n at work'
  drew short low small five =
      record {
        wrote = record {
          rest = record {
            whole = two.whole ∙ one.whole;
            small = λ h. subst (λ (b : List ℕ). Bytes b) (sym is) small_all;
            slots = λ k h. other k (inr (omega arith)) (inr (omega arith)) (inr (omega arith));
          };
          others = λ k h ne. moved k h (apart k i ne);
        };
        five = λ j h. two.others (link_start i + j) (inl (omega arith)) ∙ one.link j h;
        long = long;
        start = start;
      }
    where
      f : (k : ℕ) → get_or (five_of l) k 0 < 256
      f = get_or-byte (five_of l) five

      small_all : Bytes (with_two (with_link work i l n) (where_start i) at)
      small_all =
          small-two (with_link work i l n) (where_start i) at
          (small-two (links-of work i l) (length_start i) n
          (small-set _ (link_start i + 4) _ (small-set _ (link_start i + 3) _ (small-set _ (link_start i + 2) _
          (small-set _ (link_start i + 1) _ (small-set work (link_start i) l.level small (f 0)) (f 1)) (f 2)) (f 3))
          (f 4)) short) low

      long : length_at work' i ≡ n
      long =
          let e : length_start i + 0 ≡ length_start i = omega arith in
          let a = two.others (length_start i) (inl (omega arith)) ∙ ap (byte (with_link work i l n)) (sym e)
          ∙ one.long 0 (omega arith) in
          let b = two.others (length_start i + 1) (inl (omega arith)) ∙ one.long 1 (omega arith) in
          omega arith

      start : where_at work' i ≡ at
      start =
          let e : where_start i + 0 ≡ where_start i = omega arith in
          let a = ap (byte work') (sym e) ∙ two.here 0 (omega arith) in
          let b = two.here 1 (omega arith) in
          omega arith

      moved : (k : ℕ) → k < links_cap → (k < i) ⊎ (i < k) → Moved work k work' k
      moved k h (inl o) =
          let a = other (length_start k) (inr (omega arith)) (inl (omega arith)) (inl (omega arith)) in
          let b = other (length_start k + 1) (inr (omega arith)) (inl (omega arith)) (inl (omega arith)) in
          let c = other (where_start k) (inr (omega arith)) (inr (omega arith)) (inl (omega arith)) in
          let d = other (where_start k + 1) (inr (omega arith)) (inr (omega arith)) (inl (omega arith)) in
          record {
            link = λ j g. other (link_start k + j) (inl (omega arith)) (inl (omega arith)) (inl (omega arith));
            long = omega arith;
            start = omega arith;
          }
      moved k h (inr o) =
          let a = other (length_start k) (inr (omega arith)) (inr (omega arith)) (inl (omega arith)) in
          let b = other (length_start k + 1) (inr (omega arith)) (inr (omega arith)) (inl (omega arith)) in
          let c = other (where_start k) (inr (omega arith)) (inr (omega arith)) (inr (omega arith)) in
          let d = other (where_start k + 1) (inr (omega arith)) (inr (omega arith)) (inr (omega arith)) in
          record {
            link = λ j g. other (link_start k + j) (inr (omega arith)) (inl (omega arith)) (inl (omega arith));
            long = omega arith;
            start = omega arith;
          }

module _ {work work' : List ℕ} {i : ℕ} {l : Five} {n at : ℕ} (d : Drew work i l n at work') where
  pub drew-link : link_at work' i ≡ meant l
  drew-link =
      link-same work' (five_of l) (link_start i) 0 (λ j h. d.five j h ∙ ap (λ (k : ℕ). get_or (five_of l) k 0) (none j))
    where
      none : (j : ℕ) → j ≡ 0 + j
      none j = omega arith

  level-five : byte work' (link_start i) ≡ l.level
  level-five = let e : link_start i + 0 ≡ link_start i = omega arith in ap (byte work') (sym e) ∙ d.five 0 (omega arith)

  pub drew-none : Clean l → NoneBelow work' (link_start i)
  drew-none c z =
      let f = c.none (sym level-five ∙ z) in
      (d.five 3 (omega arith) ∙ f.0, d.five 4 (omega arith) ∙ f.1)

  -- what was read elsewhere
  pub drew-moved : (j : ℕ) → Read work (link_start j) l → n ≡ length_at work j → at ≡ where_at work j
      → Moved work j work' i
  drew-moved j r e f =
      record { link = λ k h. d.five k h ∙ five k h; long = d.long ∙ e; start = d.start ∙ f }
    where
      five : (k : ℕ) → k < 5 → get_or (five_of l) k 0 ≡ byte work (link_start j + k)
      five zero h = let e : link_start j + 0 ≡ link_start j = omega arith in r.level ∙ ap (byte work) (sym e)
      five (suc zero) h = r.state
      five (suc (suc zero)) h = r.marker
      five (suc (suc (suc zero))) h = r.state-below
      five (suc (suc (suc (suc zero)))) h = r.marker-below
      five (suc (suc (suc (suc (suc k))))) h = absurd (omega arith)

-- five bytes as they stand in a session are clean
pub clean-read : {bytes : List ℕ} (i : ℕ) {l : Five} → Bytes bytes → NoneBelow bytes (link_start i)
    → Read bytes (link_start i) l → Clean l
clean-read {bytes} i small none r =
    let b = get_or-byte bytes small in
    record {
      level = omega (arith, r.level, b (link_start i));
      state = omega (arith, r.state, b (link_start i + 1));
      marker = omega (arith, r.marker, b (link_start i + 2));
      state-below = omega (arith, r.state-below, b (link_start i + 3));
      marker-below = omega (arith, r.marker-below, b (link_start i + 4));
      none = λ z. let h = none (sym r.level ∙ z) in (r.state-below ∙ h.0, r.marker-below ∙ h.1);
    }

-- a piece that was written into a slot stands there
pub piece-written : {work one : List ℕ} (two : List ℕ) {slot : ℕ} {piece : Word} (i : ℕ) → Written work slot piece one
    → slot_start 0 ≤ slot → slot + length piece ≤ length two → length_at two i ≡ length piece → where_at two i ≡ slot
    → ((k : ℕ) → slot_start 0 ≤ k → byte two k ≡ byte one k) → piece_in two i ≡ piece
piece-written {work} {one} two {slot} {piece} i fill low fits long start same =
    let n = piece-length two slot (length piece) fits in
    rw (long, start)
    (ext_get_or 0 (take (length piece) (drop slot two)) piece n (λ k lt.
    let h : k < length piece = omega (arith, n) in
    piece_byte two slot (length piece) k h ∙ same (slot + k) (omega arith) ∙ fill.here k h))

-- the number of drafts was written
module _ (work : List ℕ) {work' : List ℕ} (n : ℕ) (whole : length work ≡ work_size)
    (is : work' ≡ set (set work 0 0) 1 n) where
  headed-behind : (k : ℕ) → 2 ≤ k → byte work' k ≡ byte work k
  headed-behind k h =
      rw is
      (get_or-set_other (set work 0 0) 1 k n 0 (λ e. omega arith) ∙ get_or-set_other work 0 k 0 0 (λ e. omega arith))

  pub headed-count : link_count work' ≡ n
  headed-count = rw is (get_or-set_same (set work 0 0) 1 n 0 (omega (arith, length-set work 0 0)))

  pub headed-rest : n < 256 → Rest work work'
  headed-rest low =
      record {
        whole = ap length is ∙ length-set (set work 0 0) 1 n ∙ length-set work 0 0;
        small = λ h.
            subst (λ (b : List ℕ). Bytes b) (sym is)
            (small-set (set work 0 0) 1 n (small-set work 0 0 h (omega arith)) low);
        slots = λ k h. headed-behind k (omega arith);
      }

  pub headed-moved : (i : ℕ) → Moved work i work' i
  headed-moved i =
      let a = headed-behind (length_start i) (omega arith) in
      let b = headed-behind (length_start i + 1) (omega arith) in
      let c = headed-behind (where_start i) (omega arith) in
      let d = headed-behind (where_start i + 1) (omega arith) in
      record { link = λ k h. headed-behind (link_start i + k) (omega arith); long = omega arith; start = omega arith }

no-drafts : {work : List ℕ} → length work ≡ work_size → Bytes work → link_count work ≡ 0
    → Drafted work × (drafts_of work ≡ [])
no-drafts {work} whole small none = (
  record {
    whole = whole;
    small = small;
    few = omega arith;
    below = λ i g l. absurd (omega arith);
    short = λ i g l. absurd (omega arith);
    low = λ i g l. absurd (omega arith);
    high = λ i g l. absurd (omega arith);
    apart = λ i j g l h. absurd (omega arith);
  },
  ap (λ (n : ℕ). map (draft_in work) (up_to n)) none,
)

pub cleared : {work' : List ℕ} (work : List ℕ) → length work ≡ work_size → work' ≡ set (set work 0 0) 1 0 → Bytes work
    → Drafted work' × (drafts_of work' ≡ [])
cleared work whole is small =
    let r = headed-rest work 0 whole is (omega arith) in
    no-drafts (r.whole ∙ whole) (r.small small) (headed-count work 0 whole is)
