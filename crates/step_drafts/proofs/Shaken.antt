-- Lower links drafted one after the other, from the last to the first: what is known of those passed. Assumes nothing.
use mathlib.Core.Path.{◌≡◌, refl, sym, ◌∙◌, ap, ap₂, subst}
use mathlib.Core.Bool.{Bool, true, false, cond, ◌&&◌, false≢true}
use mathlib.Core.Logic.{◌⊎◌, inl, inr}
use mathlib.Core.List.{List, [], ◌∷◌, ◌++◌, append-nil}
use Prim.Native.Nat.{ℕ, zero, suc, ◌+◌, ◌-◌, ◌/◌, ◌<◌, ◌≤◌}
use native.Mathlib.Numerals.{add-one}
use native.Mathlib.Omega.{arith}
use lib.Dec.{ltb}
use lib.ListN.{length, drop, set}
use borrow.Author.Tests.{ltb-true, ne_eqb}
use Rattle.words.specs.Lists.{Exact, only, any_of}
use Rattle.words.specs.Words.{Word, Bytes}
use Rattle.words.proofs.Lists.{any-in, any_out, below_or}
use Rattle.words.proofs.Exact.{exact_same, and-exact, ltb-exact, yes-exact, no-exact}
use Rattle.words.specs.LittleEndian.{byte}
use Rattle.meaning.specs.Trails.{Link}
use Rattle.meaning.specs.Answers.{links_cap}
use Rattle.session_meaning.specs.Sessions.{Entry, entry}
use Rattle.session_meaning.specs.Bytes.{link_start, link_count, length_at, link_at, piece_at, entry_at, session_of, NoneBelow}
use Rattle.session_meaning.specs.Bytes.{Kept}
use Rattle.session_meaning.specs.Numbers.{seat_at, foot_at, level_of, pairs}
use Rattle.step_meaning.specs.Stepping.{seat, has_foot, lower, shake}
use Rattle.step_meaning.proofs.Shake.{shake-top}
use Rattle.links.specs.declared.Link.{Link as Five}
use Rattle.links.specs.Heads.{meant, Read}
use Rattle.links.proofs.Levelled.{foot-level}
use Rattle.links.proofs.Linked.{read-meant}
use Rattle.session_meaning.proofs.Bytes.{long}
use Rattle.step_drafts.specs.Drafts.{slot_start, draft_room, work_size, where_at, piece_in, draft_in, drafts_in}
use Rattle.step_drafts.specs.Drafts.{drafts_of}
use Rattle.step_drafts.specs.Drafts.{Away, Drafts, Drafted, Clean, Moved, Rest, Written, Drew, Lifted, Lowered}
use Rattle.step_drafts.specs.Drafts.{Footed}
use Rattle.step_drafts.specs.Drafts.{Stays, AllAt, LevelsRise, OneMore, shaken_over, ShakenTo}
use Rattle.step_drafts.proofs.Numbers.{foot-number, from-plain, foot-from}
use Rattle.step_drafts.proofs.Listed.{part-cons, part_none, part_in, part_out, part_length, part_same}
use Rattle.step_drafts.proofs.Rooms.{moved_then, moved_none, moved-link, moved-draft, drew-link, drew-none}
use Rattle.step_drafts.proofs.Rooms.{piece-written, rest_then, headed-count, headed-rest, headed-moved}
use Rattle.step_drafts.proofs.Rooms.{drafts-moved}
use Rattle.step_drafts.proofs.Rooms.{same-drafts, clean-read}
use Rattle.step_drafts.proofs.Carried.{written-moved}

-- an entry drafted right before the others

module _ {work one two : List ℕ} {first at slot size : ℕ} {l : Five} {piece : Word}
    (drafts : Drafts work first links_cap)
    (prev : at + 1 ≡ first) (top : first ≤ links_cap) (short : length piece ≤ draft_room) (as_long : size ≡ length piece)
    (next : slot ≡ slot_start (links_cap - first)) (fill : Written work slot piece one)
    (draw : Drew one at l size slot two) (clean : Clean l) (small : Bytes one) where
  stayed : (k : ℕ) → first ≤ k → k < links_cap → Moved work k two k
  stayed k g h =
      moved_then (written-moved fill (omega arith) k h) (draw.wrote.others k h (λ e. omega arith))

  long-two : length two ≡ length work
  long-two = draw.wrote.rest.whole ∙ fill.whole

  slots : (k : ℕ) → slot_start 0 ≤ k → byte two k ≡ byte one k
  slots k h = draw.wrote.rest.slots k (omega arith)

  same : (k : ℕ) → first ≤ k → k < links_cap → draft_in two k ≡ draft_in work k
  same k g h =
      let hi = drafts.high k g h in
      let lo = drafts.low k g h in
      let s = drafts.short k g h in
      moved-draft (stayed k g h) long-two
      (λ j o. slots (where_at work k + j) (omega arith) ∙ fill.others (where_at work k + j) (inl (omega arith)))

  here-draft : draft_in two at ≡ entry (meant l) piece
  here-draft =
      let f = drafts.few in
      let a = drew-link draw in
      let b : piece_in two at ≡ piece =
      piece-written two at fill (omega arith) (omega (arith, long-two, drafts.whole)) (draw.long ∙ as_long)
      draw.start slots in
      λ i. entry (a i) (b i)

  of-all : (P : ℕ → Type 0) → P at → ((k : ℕ) → first ≤ k → k < links_cap → P k) → (k : ℕ) → first - 1 ≤ k → k < links_cap
      → P k
  of-all P new old k g h = go (below_or k first)
    where
      go : (k < first) ⊎ (first ≤ k) → P k
      go (inl o) = let e : at ≡ k = omega arith in subst P e new
      go (inr o) = old k o h

  pub one_more : OneMore (entry (meant l) piece) work first two
  one_more =
      let e : first - 1 ≡ at = omega arith in
      record {
        drafts = all-drafts;
        are =
            rw e
            (part-cons (draft_in two) at links_cap (omega (arith, drafts.few))
            ∙ ap₂ (λ (z : Entry) (E : List Entry). z ∷ E) here-draft rest);
        levels = λ k g h. moved-link (stayed k g h);
        here = rw e (drew-link draw);
      }
    where
      rest : drafts_in two (at + 1) links_cap ≡ drafts_in work first links_cap
      rest =
          rw prev
          (part_same (draft_in two) (draft_in work) first first links_cap links_cap refl
          (λ k o. same (first + k) (omega arith) o))

      start-new : where_at two at ≡ slot_start (links_cap - first)
      start-new = draw.start ∙ next

      all-drafts : Drafts two (first - 1) links_cap
      all-drafts =
          record {
            whole = long-two ∙ drafts.whole;
            small = draw.wrote.rest.small small;
            few = drafts.few;
            below =
                of-all (λ k. NoneBelow two (link_start k)) (drew-none draw clean)
                (λ k g h. moved_none (stayed k g h) (drafts.below k g h));
            short =
                of-all (λ k. length_at two k ≤ draft_room) (omega (arith, draw.long))
                (λ k g h. let m = (stayed k g h).long in omega (arith, drafts.short k g h));
            low =
                of-all (λ k. slot_start 0 ≤ where_at two k) (omega (arith, start-new))
                (λ k g h. let m = (stayed k g h).start in omega (arith, drafts.low k g h));
            high =
                of-all (λ k. where_at two k + draft_room ≤ slot_start (links_cap - (first - 1))) (omega (arith, start-new))
                (λ k g h. let m = (stayed k g h).start in omega (arith, drafts.high k g h));
            apart = λ i j g o h.
                of-all (λ i. i < j → Away (where_at two i) (where_at two j))
                (λ o.
                let m = (stayed j (omega arith) h).start in
                inr (omega (arith, start-new, drafts.high j (omega arith) h)))
                (λ i g p o.
                rw ((stayed i g p).start, (stayed j (omega arith) h).start) (drafts.apart i j g o h))
                i g (omega arith) o;
          }

-- a piece of the session has room in a slot
pub piece-fits : {session : List ℕ} {piece : Word} (i : ℕ) → Kept session → i < link_count session
    → piece ≡ piece_at session i → length piece ≤ draft_room
piece-fits {session} i kept lt e =
    let short = kept.short i lt in
    omega (arith, ap length e, long session kept.whole kept.count i lt short)

-- a link of the session, drafted with its piece
pub lower-more : {session work one two piece : List ℕ} {first slot size : ℕ} {l : Five} (i : ℕ) → Kept session
    → i < link_count session → Drafts work first links_cap → 0 < first → first ≤ links_cap → piece ≡ piece_at session i
    → Read session (link_start i) l → slot ≡ slot_start (links_cap - first) → size ≡ length piece
    → Written work slot (piece ++ [] ++ []) one → Drew one (first - 1) l size slot two → Bytes one
    → OneMore (entry_at session i) work first two
lower-more {session} {work} {one} {two} {piece} {first} {slot} {size} {l} i kept lt ok pos top e r next as_long fill
    draw small =
    let p : piece ++ [] ++ [] ≡ piece = append-nil (piece ++ []) ∙ append-nil piece in
    let f = subst (λ (w : Word). Written work slot w one) p fill in
    let clean = clean-read i kept.small (kept.below i lt) r in
    let a = read-meant r in
    let is : entry_at session i ≡ entry (meant l) piece = λ k. entry (a k) (sym e k) in
    subst (λ (z : Entry). OneMore z work first two) (sym is)
    (one_more ok (omega arith) top (piece-fits i kept lt e) as_long next f draw clean small)

-- behind one that is too high none has the foot
pub not-high : {work : List ℕ} {first seat level : ℕ}
    → Drafts work first links_cap × LevelsRise work first links_cap × (first ≤ links_cap)
    → (i : ℕ) → first ≤ i → ((k : ℕ) → k < i → first ≤ k → foot_at work k ≡ seat → ⊥) → level ≡ (link_at work i).level
    → seat / pairs < level → Footed work first seat → ⊥
not-high {work} {first} {seat} {level} pre i from none is high h = go (below_or h.0 i)
  where
    go : (h.0 < i) ⊎ (i ≤ h.0) → ⊥
    go (inl l) = none h.0 l h.1 h.3
    go (inr l) =
        let e = foot-level work pre.0.small (link_start h.0) in
        let f = ap level_of h.3 in
        omega (arith, pre.1 i h.0 from l h.2)

-- a draft has the seat of a link as its foot exactly where one stands on that link
footed-exact : {work session : List ℕ} {first : ℕ} → Drafts work first links_cap → Bytes session → (i : ℕ)
    → Exact (Footed work first (seat_at session i))
    (any_of (λ f. has_foot (seat (link_at session i)) f.link) (drafts_in work first links_cap))
footed-exact {work} {session} {first} ok small i = (to, fro)
  where
    test : Entry → Bool
    test f = has_foot (seat (link_at session i)) f.link

    stands : (k : ℕ) → first ≤ k → k < links_cap → Exact (foot_at work k ≡ seat_at session i) (test (draft_in work k))
    stands k g lt =
        let a = from-plain work ok.small (link_start k) in
        let b = from-plain session small (link_start i) in
        rw (foot-from work ok.small (link_start k) (ok.below k g lt))
        (foot-number (link_at work k) (link_at session i) a b)

    to : Footed work first (seat_at session i) → any_of test (drafts_in work first links_cap) ≡ true
    to h =
        any-in test (drafts_in work first links_cap) (part_in (draft_in work) first links_cap h.0 h.1 h.2)
        ((stands h.0 h.1 h.2).0 h.3)

    fro : any_of test (drafts_in work first links_cap) ≡ true → Footed work first (seat_at session i)
    fro t =
        let x = any_out test (drafts_in work first links_cap) t in
        let o = part_out (draft_in work) first links_cap x.1 in
        (o.0, o.1, o.2, (stands o.0 o.1 o.2).1 (sym (ap test o.3) ∙ x.2))

module _ (session : List ℕ) (d : ℕ) (D : List Entry) where
  abbrev E : ℕ → List Entry
  E i = drop i (session_of session).entries

  -- what is left of the entries from a place on, and those over them
  unfoldable pub shaken_from : ℕ → List Entry
  shaken_from i = shake d (lower d (E i) ++ D)

  shaken-all : shaken_from 0 ≡ shaken_over session d D
  unfolding shaken_from
  shaken-all = refl

  shaken-none : AllAt d D → shaken_from (link_count session) ≡ D
  unfolding shaken_from
  shaken-none h =
      rw (part_none (entry_at session) (link_count session) (link_count session) (omega arith)) (shake-top d D h)

  abbrev under : ℕ → List Entry → Bool
  under i k = any_of (λ f. has_foot (seat (link_at session i)) f.link) k

  -- one place more
  shaken-next : (i : ℕ) → i < link_count session →
      let k = shaken_from (i + 1) in
      shaken_from i ≡ cond (ltb (link_at session i).level d && under i k) (entry_at session i ∷ k) k
  unfolding shaken_from
  shaken-next i lt =
      rw (part-cons (entry_at session) i (link_count session) lt)
      (go (ltb (link_at session i).level d) (ltb-true (link_at session i).level d))
    where
      go : (b : Bool) → (b ≡ true → (link_at session i).level < d) →
          let k = shake d (lower d (E (i + 1)) ++ D) in
          shake d (only b (entry_at session i) ++ lower d (E (i + 1)) ++ D)
          ≡ cond (b && under i k) (entry_at session i ∷ k) k
      go true h = rw (ne_eqb (link_at session i).level d (λ e. omega (arith, h refl)))
      go false h = refl

  -- what is left only grows
  shaken-longer : (i : ℕ) → i ≤ link_count session → length (shaken_from i) ≤ length (shaken_from 0)
  shaken-longer zero le = omega arith
  shaken-longer (suc i) le =
      let k = shaken_from (i + 1) in
      let e = ap length (shaken-next i (omega arith)) in
      let n = ap (λ (j : ℕ). length (shaken_from j)) (add-one i) in
      omega (arith, shaken-longer i (omega arith), go (ltb (link_at session i).level d && under i k) k)
    where
      go : (b : Bool) (k : List Entry) → length k ≤ length (cond b (entry_at session i ∷ k) k)
      go true k = omega arith
      go false k = omega arith

-- the lower links from a place on that stay are drafted, before those drafted before
pub record Shaking (session : List ℕ) (d : ℕ) (D : List Entry) (i : ℕ) (work : List ℕ) (first : ℕ) : Type 0 where
  pub within : i ≤ link_count session
  pub top : first ≤ links_cap
  pub drafts : Drafts work first links_cap
  pub are : drafts_in work first links_cap ≡ shaken_from session d D i
  pub rise : LevelsRise work first links_cap
  pub least : (m k : ℕ) → m < i → (link_at session m).level < d → first ≤ k → k < links_cap
      → (link_at session m).level ≤ (link_at work k).level

-- to begin with, all drafts stand at the last places
module _ {work work' : List ℕ} {n first : ℕ} (ok : Drafted work) (all : n ≡ link_count work) (top : first ≡ links_cap - n)
    (lift : Lifted work 0 n first work') where
  few : n ≤ links_cap
  few = omega (arith, ok.few)

  moved : (k : ℕ) → 0 + k < link_count work → Moved work (0 + k) work' (first + k)
  moved k l =
      let a : 0 + k ≡ k = omega arith in
      let b : first + k ≡ k + first = omega arith in
      rw (a, b) (lift.moved k (omega arith) (omega arith))

  pub lifted-same : drafts_in work' first links_cap ≡ drafts_of work
  lifted-same = same-drafts first links_cap ok lift.rest (omega (arith, few)) (omega arith) moved

  pub shaking-start : {d i : ℕ} (session : List ℕ) → AllAt d (drafts_of work) → i ≡ link_count session
      → Shaking session d (drafts_in work' first links_cap) i work' first
  shaking-start {d} {i} session h e =
      let D = drafts_in work' first links_cap in
      let level : AllAt d D = subst (AllAt d) (sym lifted-same) h in
      let at : (k : ℕ) → first ≤ k → k < links_cap → (link_at work' k).level ≡ d =
      λ k g l. level (draft_in work' k) (part_in (draft_in work') first links_cap k g l) in
      record {
        within = omega arith;
        top = omega (arith, few);
        drafts = drafts-moved first links_cap ok lift.rest (omega (arith, few)) (omega arith) moved;
        are = rw e (sym (shaken-none session d D level));
        rise = λ j k g o l. omega (arith, at j g (omega arith), at k (omega arith) l);
        least = λ m k o lt g l. omega (arith, at k g l);
      }

module _ {session work : List ℕ} {D : List Entry} {d i first : ℕ} (small : Bytes session)
    (s : Shaking session d D i work first) (j : ℕ) (next : j + 1 ≡ i) where
  stays-exact : Exact (Stays session j d work first)
      (ltb (link_at session j).level d && under session d D j (drafts_in work first links_cap))
  stays-exact = and-exact (ltb-exact (link_at session j).level d) (footed-exact s.drafts small j)

  turn : (b : Bool) → Exact (Stays session j d work first) b →
      let k = drafts_in work first links_cap in
      shaken_from session d D j ≡ cond b (entry_at session j ∷ k) k
  turn b e =
      let w = s.within in
      let is = s.are ∙ ap (shaken_from session d D) (sym next) in
      rw (exact_same e stays-exact, is) (shaken-next session d D j (omega arith))

  pub shaking-met : {work' : List ℕ} → 0 < first → LevelsRise session 0 (link_count session) → Stays session j d work first
      → OneMore (entry_at session j) work first work' → Shaking session d D j work' (first - 1)
  shaking-met {work'} pos up h m =
      record {
        within = let w = s.within in omega arith;
        top = let w = s.top in omega arith;
        drafts = m.drafts;
        are = m.are ∙ sym (turn true (yes-exact h));
        rise = λ a b g o l. rise a b g o l (below_or a first) (below_or b first);
        least = λ a b o lt g l. least a b o lt g l (below_or b first);
      }
    where
      old : (k : ℕ) → first ≤ k → k < links_cap → (link_at work' k).level ≡ (link_at work k).level
      old k g l = ap (λ (x : Link). x.level) (m.levels k g l)

      new : (k : ℕ) → first - 1 ≤ k → k < first → (link_at work' k).level ≡ (link_at session j).level
      new k g l =
          let e : k ≡ first - 1 = omega arith in
          ap (λ (k : ℕ). (link_at work' k).level) e ∙ ap (λ (x : Link). x.level) m.here

      rise : (a b : ℕ) → first - 1 ≤ a → a ≤ b → b < links_cap → (a < first) ⊎ (first ≤ a) → (b < first) ⊎ (first ≤ b)
          → (link_at work' a).level ≤ (link_at work' b).level
      rise a b g o l (inl x) (inl y) = omega (arith, new a g x, new b (omega arith) y)
      rise a b g o l (inl x) (inr y) =
          omega (arith, new a g x, old b y l, s.least j b (omega arith) h.0 y l)
      rise a b g o l (inr x) (inl y) = absurd (omega arith)
      rise a b g o l (inr x) (inr y) = omega (arith, old a x (omega arith), old b y l, s.rise a b x o l)

      least : (a b : ℕ) → a < j → (link_at session a).level < d → first - 1 ≤ b → b < links_cap → (b < first) ⊎ (first ≤ b)
          → (link_at session a).level ≤ (link_at work' b).level
      least a b o lt g l (inl y) =
          let w = s.within in
          omega (arith, new b g y, up a j (omega arith) (omega arith) (omega arith))
      least a b o lt g l (inr y) = omega (arith, old b y l, s.least a b (omega arith) lt y l)

  pub shaking-past : (Stays session j d work first → ⊥) → Shaking session d D j work first
  shaking-past f =
      record {
        within = let w = s.within in omega arith;
        top = s.top;
        drafts = s.drafts;
        are = sym (turn false (no-exact f));
        rise = s.rise;
        least = λ a b o lt g l. s.least a b (omega arith) lt g l;
      }

  -- one that stays is one more than there are slots for
  pub shaking-full : Stays session j d work first → first ≡ 0 → (work' : List ℕ)
      → ShakenTo (shaken_over session d D) false work'
  shaking-full h e work' =
      let w = s.within in
      let l = shaken-longer session d D j (omega arith) in
      let t = ap length (turn true (yes-exact h)) in
      let m = part_length (draft_in work) first links_cap in
      record {
        drafted = λ z. absurd (false≢true z);
        full = λ z. omega (arith, ap length (shaken-all session d D));
      }

pub shaking-end : {session work work' work'' : List ℕ} {D : List Entry} {d i first n : ℕ}
    → Shaking session d D i work first
    → i ≤ 0 → n ≡ links_cap - first → Lowered work first n work' → work'' ≡ set (set work' 0 0) 1 n
    → ShakenTo (shaken_over session d D) true work''
shaking-end {session} {work} {work'} {work''} {D} {d} {i} {first} {n} s le many low head =
    record {
      drafted = λ z. (
        rw (← count) at drafts,
        rw count (are ∙ s.are ∙ ap (shaken_from session d D) none ∙ shaken-all session d D),
      );
      full = λ z. absurd (false≢true (sym z));
    }
  where
    none : i ≡ 0
    none = omega arith

    whole : length work' ≡ work_size
    whole = low.rest.whole ∙ s.drafts.whole

    count : link_count work'' ≡ n
    count = headed-count work' n whole head

    rest : Rest work work''
    rest = rest_then low.rest (headed-rest work' n whole head (omega arith))

    moved : (k : ℕ) → first + k < links_cap → Moved work (first + k) work'' (0 + k)
    moved k l =
        let a : 0 + k ≡ k = omega arith in
        rw a (moved_then (low.moved k (omega arith)) (headed-moved work' n whole head k))

    drafts : Drafts work'' 0 n
    drafts = drafts-moved 0 n s.drafts rest (omega arith) (omega arith) moved

    are : drafts_in work'' 0 n ≡ drafts_in work first links_cap
    are = same-drafts 0 n s.drafts rest (omega arith) (omega arith) moved
