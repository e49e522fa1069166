-- What the pieces of the drafts with one foot have in common, draft by draft. Assumes nothing.
use mathlib.Core.Path.{◌≡◌, refl, sym, ◌∙◌, ap}
use mathlib.Core.Logic.{◌⊎◌, inl, inr}
use mathlib.Core.Bool.{Bool, false, false≢true}
use mathlib.Core.List.Memᴰ
use mathlib.Core.List.{List, [], ◌∷◌, ◌++◌, map, map-append, append-nil}
use Prim.Native.Nat.{ℕ, zero, suc, ◌+◌, ◌-◌, ◌≤◌, ◌<◌}
use native.Mathlib.Omega.{arith}
use native.Mathlib.Nat.{eq-or-lt_of_le}
use native.Mathlib.Numerals.{add-one}
use lib.ListN.{length, take, drop, length-append, length-take}
use lib.Seq.{take-take}
use borrow.Author.Tests.{eq-eqb, ne_eqb}
use Rattle.words.specs.Lists.{◌among◌, only, is_empty, up_to}
use Rattle.words.specs.Words.{Word, shared, common}
use Rattle.words.proofs.Lists.{each_append, below_or}
use Rattle.words.proofs.Common.{shared-right, begins-take, common-same}
use Rattle.words.proofs.Exact.{exact_same, eqb-exact}
use Rattle.meaning.specs.Trails.{Link}
use Rattle.session_meaning.specs.Sessions.{Entry}
use Rattle.session_meaning.specs.Soundly.{pieces_on}
use Rattle.session_meaning.specs.Bytes.{link_start, link_count, length_at, link_at}
use Rattle.session_meaning.specs.Numbers.{seat_at, foot_at, start_of, level_of, FirstAt, Levelled}
use Rattle.step_meaning.specs.Stepping.{seat, has_foot, base}
use Rattle.step_meaning.proofs.Push.{base-after}
use Rattle.links.proofs.Levelled.{foot-before}
use Rattle.step_drafts.specs.Drafts.{draft_room, work_size, where_at, piece_in, draft_in, drafts_in, drafts_of}
use Rattle.step_drafts.specs.Drafts.{Drafted, PicksFoot, CommonOn, Plain, seat_no, foot_no, Lies, Narrowed}
use Rattle.step_drafts.proofs.Numbers.{foot-number, lowest-number, from-plain, foot-from}
use Rattle.step_drafts.proofs.Listed.{part-cons}
use Rattle.step_drafts.proofs.Rooms.{piece-length}

-- a drafted piece lies in the room, and is as long as is kept
module _ {work : List ℕ} (d : Drafted work) (i : ℕ) (lt : i < link_count work) where
  pub draft-lies : Lies work i
  draft-lies =
      omega (arith, d.few, d.short i (omega arith) lt, d.high i (omega arith) lt)

  pub draft-length : length (piece_in work i) ≡ length_at work i
  draft-length = piece-length work (where_at work i) (length_at work i) (omega (arith, draft-lies, d.whole))

-- one word more, behind others: what it has in common with them
common-last : (P : List Word) (x : Word) → is_empty P ≡ false → common (P ++ x ∷ []) ≡ shared x (common P)
common-last [] x e = absurd (false≢true (sym e))
common-last (v ∷ P) x e = common-same ((v ∷ P) ++ x ∷ []) (x ∷ v ∷ P) (λ w. (to w, fro w))
  where
    to : (w : Word) → w among (v ∷ P) ++ x ∷ [] → w among x ∷ v ∷ P
    to w m = go (Memᴰ.append_cases (v ∷ P) m)
      where
        go : (w among v ∷ P) ⊎ (w among x ∷ []) → w among x ∷ v ∷ P
        go (inl h) = Memᴰ.tail h
        go (inr h) = Memᴰ.head (Memᴰ.eq_of_singleton h)

    fro : (w : Word) → w among x ∷ v ∷ P → w among (v ∷ P) ++ x ∷ []
    fro w m = go (Memᴰ.cases_cons m)
      where
        go : (w ≡ x) ⊎ (w among v ∷ P) → w among (v ∷ P) ++ x ∷ []
        go (inl h) = Memᴰ.append_right (v ∷ P) (Memᴰ.head h)
        go (inr h) = Memᴰ.append_left (x ∷ []) h

not-empty : (P : List Word) (x : Word) → is_empty (P ++ x ∷ []) ≡ false
not-empty [] x = refl
not-empty (v ∷ P) x = refl

-- what two words have in common, as a beginning of the second
shared-take : (x y : Word) (k : ℕ) →
    let r = length (shared x (take k y)) in
    (r ≤ k) × (shared x (take k y) ≡ take r y)
shared-take x y k =
    let b = shared-right x (take k y) in
    let s : length (shared x (take k y)) ≤ length (take k y) =
    omega (arith, ap length b.joins, length-append (shared x (take k y)) b.rest) in
    let le : length (shared x (take k y)) ≤ k = omega (arith, length-take k y) in
    (le, sym (begins-take b) ∙ take-take (length (shared x (take k y))) k y le)

-- the pieces of the first drafts that pass a test, and of one more
abbrev pub first_pieces : List ℕ → (Link → Bool) → ℕ → List Word
first_pieces work test i = pieces_on test (map (draft_in work) (up_to i))

module _ (work : List ℕ) (test : Link → Bool) (i : ℕ) where
  more-pieces : {b : Bool} → test (link_at work i) ≡ b
      → first_pieces work test (i + 1) ≡ first_pieces work test i ++ only b (piece_in work i)
  more-pieces e =
      rw (add-one i, map-append (draft_in work) (up_to i) (i ∷ []))
      (each_append (λ (e : Entry). only (test e.link) e.piece) (map (draft_in work) (up_to i)) (draft_in work i ∷ [])
      ∙ ap (λ (l : List Word). first_pieces work test i ++ l)
      (append-nil (only (test (link_at work i)) (piece_in work i))
      ∙ ap (λ (b : Bool). only b (piece_in work i)) e))

  skip-pieces : test (link_at work i) ≡ false → first_pieces work test (i + 1) ≡ first_pieces work test i
  skip-pieces e = more-pieces e ∙ append-nil (first_pieces work test i)

-- those of the drafts before `i`, of which there are some
pub record Narrowing (work : List ℕ) (foot at i long : ℕ) : Type 0 where
  pub within : i ≤ link_count work
  pub place : (k : ℕ) × (k < link_count work) × (where_at work k ≡ at) × (foot_at work k ≡ foot)
  pub short : long ≤ draft_room
  pub lies : at + long ≤ work_size
  pub is : (test : Link → Bool) → PicksFoot work foot test
      → (is_empty (first_pieces work test i) ≡ false)
      × (common (first_pieces work test i) ≡ take long (drop at work))

module _ (work : List ℕ) {foot first : ℕ} (f : FirstAt (foot_at work) (link_count work) foot first) where
  -- no draft before the first has the foot
  none_before : (test : Link → Bool) → PicksFoot work foot test → (i : ℕ) → i ≤ first → first_pieces work test i ≡ []
  none_before test p zero le = refl
  none_before test p (suc i) le =
      let w = f.within in
      let e = p i (omega arith) ∙ ne_eqb (foot_at work i) foot (f.before i (omega arith)) in
      ap (first_pieces work test) (sym (add-one i)) ∙ skip-pieces work test i e ∙ none_before test p i (omega arith)

  pub common-none : first ≡ link_count work → CommonOn work foot 0 0
  common-none h =
      record {
        place = λ lt. absurd (omega arith);
        short = omega arith;
        lies = omega arith;
        is = λ test p. ap common (ap (first_pieces work test) (sym h) ∙ none_before test p first (omega arith));
      }

  pub narrowing-start : {at long : ℕ} → Drafted work → first < link_count work → at ≡ where_at work first
      → long ≡ length_at work first → Narrowing work foot at (first + 1) long
  narrowing-start {at} {long} d lt e l =
      record {
        within = omega arith;
        place = (first, lt, sym e, f.found lt);
        short = omega (arith, d.short first (omega arith) lt);
        lies = omega (arith, draft-lies d first lt);
        is = λ test p.
            let t = p first lt ∙ eq-eqb (foot_at work first) foot (f.found lt) in
            let one : first_pieces work test (first + 1) ≡ piece_in work first ∷ [] =
            more-pieces work test first t
            ∙ ap (λ (P : List Word). P ++ piece_in work first ∷ []) (none_before test p first (omega arith)) in
            rw (one, e, l) (refl, refl);
      }

module _ {work : List ℕ} {foot at i long : ℕ} (g : Narrowing work foot at i long) (lt : i < link_count work) where
  pub narrowing-past : (foot_at work i ≡ foot → ⊥) → Narrowing work foot at (i + 1) long
  narrowing-past n =
      record {
        within = omega arith;
        place = g.place;
        short = g.short;
        lies = g.lies;
        is = λ test p. rw (skip-pieces work test i (p i lt ∙ ne_eqb (foot_at work i) foot n)) (g.is test p);
      }

  pub narrowing-met : {long' : ℕ} → foot_at work i ≡ foot
      → long' ≡ length (shared (piece_in work i) (take long (drop at work))) → Narrowing work foot at (i + 1) long'
  narrowing-met {long'} e is =
      let s = shared-take (piece_in work i) (drop at work) long in
      let le = s.0 in
      record {
        within = omega arith;
        place = g.place;
        short = omega (arith, g.short);
        lies = omega (arith, g.lies);
        is = λ test p.
            let P = first_pieces work test i in
            let h = g.is test p in
            rw (more-pieces work test i (p i lt ∙ eq-eqb (foot_at work i) foot e)) (
              not-empty P (piece_in work i),
              common-last P (piece_in work i) h.0 ∙ ap (shared (piece_in work i)) h.1 ∙ s.1
                  ∙ ap (λ (k : ℕ). take k (drop at work)) (sym is),
            );
      }

  pub narrowing-more : {long' : ℕ} → Narrowed work i foot at long long' → Narrowing work foot at (i + 1) long'
  narrowing-more {long'} n = go (below_or (foot_at work i) foot) (below_or foot (foot_at work i))
    where
      apart : (foot_at work i ≡ foot → ⊥) → Narrowing work foot at (i + 1) long'
      apart f = rw (n.past f) (narrowing-past f)

      go : (foot_at work i < foot) ⊎ (foot ≤ foot_at work i) → (foot < foot_at work i) ⊎ (foot_at work i ≤ foot)
          → Narrowing work foot at (i + 1) long'
      go (inl h) o = apart (λ e. omega arith)
      go (inr h) (inl k) = apart (λ e. omega arith)
      go (inr h) (inr k) = let e : foot_at work i ≡ foot = omega arith in narrowing-met e (n.met e)

-- behind the level's end no draft has the foot
pub common-some : {work starts : List ℕ} {foot at i long : ℕ} → Levelled work starts
    → Narrowing work foot at i long → start_of starts (level_of foot + 1) ≤ i → CommonOn work foot at long
common-some {work} {starts} {foot} {at} {i} {long} v g le = go (link_count work - i) i (omega (arith, g.within)) le g
  where
    go : (s i : ℕ) → i + s ≡ link_count work → start_of starts (level_of foot + 1) ≤ i → Narrowing work foot at i long
        → CommonOn work foot at long
    go zero i e le g =
        let f : i ≡ link_count work = omega arith in
        record {
          place = λ p. g.place;
          short = g.short;
          lies = g.lies;
          is = λ test p. rw (← f) (g.is test p).1;
        }
    go (suc s) i e le g =
        let lt : i < link_count work = omega arith in
        go s (i + 1) (omega arith) (omega arith)
        (narrowing-past g lt (λ f. omega (arith, foot-before v foot i lt f)))

-- it is so long
pub common-length : {work : List ℕ} {foot at long : ℕ} → length work ≡ work_size → CommonOn work foot at long
    → length (take long (drop at work)) ≡ long
common-length {work} {foot} {at} {long} whole c = piece-length work at long (omega (arith, c.lies))

-- as it is said of lists: on the pair of a link, and at level 0
module _ {work : List ℕ} (d : Drafted work) where
  foot-is : (i : ℕ) → i < link_count work → foot_at work i ≡ foot_no (link_at work i)
  foot-is i lt = foot-from work d.small (link_start i) (d.below i (omega arith) lt)

  plain : (i : ℕ) → Plain (link_at work i)
  plain i = from-plain work d.small (link_start i)

  pub base-seat : {foot at long : ℕ} (i : ℕ) → foot ≡ seat_at work i → CommonOn work foot at long
      → base (drafts_of work) (seat (link_at work i)) ≡ take long (drop at work)
  base-seat i e c =
      c.is (has_foot (seat (link_at work i)))
      (λ k lt.
      rw (e, foot-is k lt)
      (exact_same (foot-number (link_at work k) (link_at work i) (plain k) (plain i))
      (eqb-exact (foot_no (link_at work k)) (seat_no (link_at work i)))))

  pub base-bottom : {at long : ℕ} → CommonOn work 0 at long → base (drafts_of work) (0 ∷ []) ≡ take long (drop at work)
  base-bottom c =
      c.is (has_foot (0 ∷ []))
      (λ k lt.
      rw (foot-is k lt) (exact_same (lowest-number (link_at work k) (plain k)) (eqb-exact (foot_no (link_at work k)) 0)))

-- what stands on a draft comes after it
pub above-all : (work : List ℕ) (n i : ℕ) → i < n
    → ((j k : ℕ) → j < k → k < n → (link_at work j).level ≤ (link_at work k).level)
    → base (map (draft_in work) (up_to n)) (seat (link_at work i)) ≡ base (drafts_in work (i + 1) n) (seat (link_at work i))
above-all work n i lt rise = go (i + 1) 0 (omega arith)
  where
    level : (a : ℕ) → a ≤ i → (link_at work a).level ≤ (link_at work i).level
    level a le = at (eq-or-lt_of_le le)
      where
        at : (a ≡ i) ⊎ (a < i) → (link_at work a).level ≤ (link_at work i).level
        at (inl e) = rw e (omega arith)
        at (inr l) = rise a i l lt

    go : (s a : ℕ) → a + s ≡ i + 1
        → base (drafts_in work a n) (seat (link_at work i)) ≡ base (drafts_in work (i + 1) n) (seat (link_at work i))
    go zero a e =
        let f : a ≡ i + 1 = omega arith in
        ap (λ (a : ℕ). base (drafts_in work a n) (seat (link_at work i))) f
    go (suc s) a e =
        ap (λ (E : List Entry). base E (seat (link_at work i))) (part-cons (draft_in work) a n (omega arith))
        ∙ base-after (draft_in work a) (drafts_in work (a + 1) n) (link_at work i) (level a (omega arith))
        ∙ go s (a + 1) (omega arith)
