-- Parts written one after the other, and drafts moved one after the other: what is left on the way. Assumes nothing.
use mathlib.Core.Path.{◌≡◌, sym, ◌∙◌, ap}
use mathlib.Core.Logic.{◌⊎◌, inl, inr, ⊎_elim}
use mathlib.Core.List.{List, ◌++◌}
use Prim.Native.Nat.{ℕ, ◌+◌, ◌-◌, ◌<◌, ◌≤◌}
use native.Mathlib.Omega.{arith}
use lib.ListN.{length, take, drop, length-append, get_or-append}
use lib.Seq.{get_or-append-add, paste}
use Rattle.std.specs.List.{CopiedTo, SameBelow, SameFrom}
use Rattle.words.specs.Words.{Word, Bytes}
use Rattle.words.proofs.Pasted.{pasted}
use Rattle.words.proofs.Lists.{below_or}
use Rattle.words.specs.LittleEndian.{byte}
use Rattle.meaning.specs.Answers.{links_cap}
use Rattle.session_meaning.specs.Bytes.{link_start, length_start}
use Rattle.step_drafts.specs.Drafts.{where_start, slot_start, Moved, Rest, Wrote, Lifted, Lowered}
use Rattle.step_drafts.specs.Drafts.{Written}
use Rattle.step_drafts.proofs.Rooms.{piece-length, piece_byte, moved-self, moved_then, rest-self, rest_then}
use Rattle.step_drafts.proofs.Rooms.{small-written}

-- words written one after the other

-- a word, and another right behind it
written_next : {work one two : List ℕ} {at : ℕ} {v w : Word} → Written work at v one
    → Written one (at + length v) w two → Written work at (v ++ w) two
written_next {work} {one} {two} {at} {v} {w} a b =
    record {
      whole = b.whole ∙ a.whole;
      here = λ i l. here i (below_or i (length v)) (rw length-append at l);
      others = λ k o. others k (rw length-append at o);
    }
  where
    here : (i : ℕ) → (i < length v) ⊎ (length v ≤ i) → i < length v + length w
        → byte two (at + i) ≡ byte (v ++ w) i
    here i (inl l) h = b.others (at + i) (inl (omega arith)) ∙ a.here i l ∙ sym (get_or-append v w 0 i l)
    here i (inr g) h =
        let e : at + i ≡ at + length v + (i - length v) = omega arith in
        let f : i ≡ length v + (i - length v) = omega arith in
        ap (byte two) e ∙ b.here (i - length v) (omega arith)
        ∙ sym (ap (byte (v ++ w)) f ∙ get_or-append-add v w (i - length v) 0)

    others : (k : ℕ) → (k < at) ⊎ (at + (length v + length w) ≤ k) → byte two k ≡ byte work k
    others k (inl l) = b.others k (inl (omega arith)) ∙ a.others k (inl l)
    others k (inr g) = b.others k (inr (omega arith)) ∙ a.others k (inr (omega arith))

-- copied from another place
pub written-within : {work one : List ℕ} (from at many : ℕ) → from + many ≤ length work
    → length one ≡ length work → CopiedTo work one from at many → SameBelow work one at → SameFrom work one (at + many)
    → Written work at (take many (drop from work)) one
written-within {work} {one} from at many fits whole copied before behind =
    let n = piece-length work from many fits in
    record {
      whole = whole;
      here = λ i l.
          let m : i < many = omega arith in
          let e : from + (at + i - at) ≡ from + i = omega arith in
          copied (at + i) 0 (omega arith) (omega arith) ∙ ap (byte work) e ∙ sym (piece_byte work from many i m);
      others = λ k o. ⊎_elim (λ h. before k 0 h) (λ h. behind k 0 (omega arith)) o;
    }

-- three parts
pub filled : {work one two three : List ℕ} (at : ℕ) (a b c : Word)
    → at + length a + length b + length c ≤ length work → one ≡ paste work at a (length a)
    → two ≡ paste one (at + length a) b (length b) → three ≡ paste two (at + length a + length b) c (length c)
    → Written work at (a ++ b ++ c) three
filled {work} {one} {two} {three} at a b c fits e f g =
    let x = pasted {to = work} {at = at} {part = a} (omega arith) e in
    let y = pasted {to = one} {at = at + length a} {part = b} (omega (arith, x.whole)) f in
    let z =
    pasted {to = two} {at = at + length a + length b} {part = c} (omega (arith, x.whole, y.whole)) g in
    let m : at + length a + length b ≡ at + length (a ++ b) = simp length-append (omega arith) in
    let p : Written work at a one = record { whole = x.whole; here = x.here; others = x.others } in
    let q : Written one (at + length a) b two = record { whole = y.whole; here = y.here; others = y.others } in
    let r : Written two (at + length a + length b) c three =
    record { whole = z.whole; here = z.here; others = z.others } in
    written_next (written_next p q) (rw m at r)

-- what is written in the slots leaves all places as they were
pub written-moved : {work one : List ℕ} {at : ℕ} {w : Word} → Written work at w one → slot_start 0 ≤ at → (i : ℕ)
    → i < links_cap → Moved work i one i
written-moved {work} {one} {at} w le i lt =
    let a = same (length_start i) (omega arith) in
    let b = same (length_start i + 1) (omega arith) in
    let c = same (where_start i) (omega arith) in
    let d = same (where_start i + 1) (omega arith) in
    record { link = λ k h. same (link_start i + k) (omega arith); long = omega arith; start = omega arith }
  where
    same : (k : ℕ) → k < slot_start 0 → byte one k ≡ byte work k
    same k h = w.others k (inl (omega arith))

-- drafts moved up, from the last to the first

pub lifted-none : (work : List ℕ) (n by : ℕ) → n ≤ links_cap → Lifted work n n by work
lifted-none work n by le =
    record {
      rest = rest-self work;
      before = λ k l. moved-self work k;
      moved = λ k g l. absurd (omega arith);
    }

pub lifted-more : {work₀ work work' : List ℕ} {at n by : ℕ} (i to : ℕ) → Lifted work₀ at n by work → i + 1 ≡ at
    → to ≡ i + by → at ≤ n → n + by ≤ links_cap → Wrote work to work' → Moved work i work' to → Lifted work₀ i n by work'
lifted-more {work₀} {work} {work'} {at} {n} {by} i to l next there le fits w m =
    record {
      rest = rest_then l.rest w.rest;
      before = λ k h. moved_then (l.before k (omega arith)) (w.others k (omega arith) (λ e. omega arith));
      moved = λ k g h. go k (below_or i k) g h;
    }
  where
    go : (k : ℕ) → (i < k) ⊎ (k ≤ i) → i ≤ k → k < n → Moved work₀ k work' (k + by)
    go k (inl o) g h =
        moved_then (l.moved k (omega arith) h) (w.others (k + by) (omega arith) (λ e. omega arith))
    go k (inr o) g h =
        let e : i ≡ k = omega arith in
        let f : to ≡ k + by = omega arith in
        rw (← f, ← e) (moved_then (l.before i (omega arith)) m)

-- drafts moved down, from the first to the last
pub record Lowering (work₀ : List ℕ) (first i : ℕ) (work : List ℕ) : Type 0 where
  pub rest : Rest work₀ work
  pub moved : (k : ℕ) → k < i → Moved work₀ (first + k) work k
  pub left : (k : ℕ) → i ≤ k → first + k < links_cap → Moved work₀ (first + k) work (first + k)

pub lowering-none : (work : List ℕ) (first : ℕ) → Lowering work first 0 work
lowering-none work first =
    record {
      rest = rest-self work;
      moved = λ k l. absurd (omega arith);
      left = λ k g l. moved-self work (first + k);
    }

pub lowering-more : {work₀ work work' : List ℕ} {first i : ℕ} (from : ℕ) → Lowering work₀ first i work
    → from ≡ first + i → from < links_cap → Wrote work i work' → Moved work from work' i
    → Lowering work₀ first (i + 1) work'
lowering-more {work₀} {work} {work'} {first} {i} from l there fits w m =
    record {
      rest = rest_then l.rest w.rest;
      moved = λ k h. go k (below_or k i) h;
      left = λ k g h. moved_then (l.left k (omega arith) h) (w.others (first + k) h (λ e. omega arith));
    }
  where
    go : (k : ℕ) → (k < i) ⊎ (i ≤ k) → k < i + 1 → Moved work₀ (first + k) work' k
    go k (inl o) h = moved_then (l.moved k o) (w.others k (omega arith) (λ e. omega arith))
    go k (inr o) h =
        let e : i ≡ k = omega arith in
        rw (← e) (moved_then (l.left i (omega arith) (omega arith)) (rw there at m))

pub lowering-all : {work₀ work : List ℕ} {first i : ℕ} (n : ℕ) → Lowering work₀ first i work → n ≤ i
    → Lowered work₀ first n work
lowering-all n l le = record { rest = l.rest; moved = λ k h. l.moved k (omega arith) }

-- the last part written leaves bytes
pub pasted-small : (two : List ℕ) {three : List ℕ} (at : ℕ) (c : Word) → at + length c ≤ length two
    → three ≡ paste two at c (length c) → Bytes two → Bytes c → Bytes three
pasted-small two at c fits e old new =
    let z = pasted {to = two} {at = at} {part = c} fits e in
    small-written old new (record { whole = z.whole; here = z.here; others = z.others })
