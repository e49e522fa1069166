-- By how much drafts are cut: by what the one below handed down, or by what is sent; and drafts cut by that are what
-- cutting makes of them. Then all of settling. Assumes nothing.
use mathlib.Core.Path.{◌≡◌, refl, sym, ◌∙◌, ap, subst}
use mathlib.Core.Logic.{◌⊎◌, inl, inr}
use mathlib.Core.List.{List, [], ◌∷◌, map, map-map}
use Prim.Native.Nat.{ℕ, zero, suc, ◌+◌, ◌-◌, ◌/◌, ◌%◌, ◌<◌, ◌≤◌}
use native.Mathlib.Omega.{arith}
use lib.ListN.{length, take, drop, length-append}
use lib.Seq.{drop-drop, take-nil}
use Rattle.words.specs.Lists.{up_to}
use Rattle.words.specs.Words.{Word, Bytes}
use Rattle.words.specs.Order.{Less}
use Rattle.words.proofs.Ordered.{rises-out}
use Rattle.words.proofs.Lists.{below_or, up_to-out, map_same}
use Rattle.words.proofs.Pasted.{Pasted, stored}
use Rattle.words.proofs.Common.{common-begins}
use Rattle.words.specs.LittleEndian.{byte}
use Rattle.meaning.specs.Trails.{Link, link_key}
use Rattle.meaning.specs.Answers.{links_cap}
use Rattle.session_meaning.specs.Sessions.{Entry, entry}
use Rattle.session_meaning.specs.Soundly.{pieces_on, weight, longest, longest_of}
use Rattle.session_meaning.specs.Bytes.{link_start, length_start, link_count, length_at, link_at, NoneBelow}
use Rattle.session_meaning.specs.Numbers.{seat_at, foot_at, Graded, Levelled, Weighable, weight_at, weights, pairs}
use Rattle.session_meaning.specs.Numbers.{RootedAt}
use Rattle.session_meaning.proofs.Tests.{pieces-in}
use Rattle.step_meaning.specs.Stepping.{foot, seat, has_foot, base, push, cut, entry_key}
use Rattle.step_meaning.proofs.Feet.{foot-exact, foot-own}
use Rattle.links.specs.Heads.{with_length}
use Rattle.step_drafts.specs.Drafts.{where_start, handed_start, work_size, where_at, handed_at}
use Rattle.words.specs.LittleEndian.{with_two}
use Rattle.step_drafts.specs.Drafts.{piece_in, draft_in, drafts_of, Drafted, Plain, foot_no, Lies, CommonOn}
use Rattle.step_drafts.specs.Drafts.{SameLinks, Pushed, beside_of, Cutting, CutBy, CutOne, CutTo, Ready, SettledTo}
use Rattle.step_drafts.proofs.Numbers.{foot-number, lowest-number, from-plain, foot-from}
use Rattle.step_drafts.proofs.Listed.{part_in}
use Rattle.step_drafts.proofs.Rooms.{apart, piece-length, piece-same, small-two}
use Rattle.step_drafts.proofs.Groups.{draft-lies, draft-length, common-length, base-bottom, above-all}
use Rattle.step_drafts.proofs.Pushing.{same_count, same-link, same_none, same-foot, same-seat, links-self}
use Rattle.step_drafts.proofs.Pushing.{links-then}
use Rattle.step_drafts.proofs.Pushing.{same-levelled, stored-two}

module _ {work : List ℕ} {sent : ℕ} (h : Cutting work sent)
    (rise : (j k : ℕ) → j < k → k < link_count work → (link_at work j).level ≤ (link_at work k).level) where
  plain : (i : ℕ) → Plain (link_at work i)
  plain i = from-plain work h.drafts.small (link_start i)

  below : (i : ℕ) → i < link_count work → NoneBelow work (link_start i)
  below i l = h.drafts.below i (omega arith) l

  -- by how much a draft is cut
  pub cut-many : {i r : ℕ} → i < link_count work → CutBy work sent i r → r ≡ length (beside_of work i)
  cut-many {i} {r} l c = go c.is
    where
      o : foot_at work i ≡ foot_no (link_at work i)
      o = foot-from work h.drafts.small (link_start i) (below i l)

      -- a draft on another loses what that one handed down
      handed : (j : ℕ) → j < link_count work → seat_at work j ≡ foot_at work i → handed_at work j ≡ length (beside_of work i)
      handed j m e =
          let x = (foot-number (link_at work i) (link_at work j) (plain i) (plain j)).0 (sym o ∙ sym e) in
          let f = (foot-exact (seat (link_at work j)) (link_at work i)).1 x in
          h.each j m
          ∙ ap length (sym (above-all work (link_count work) j m rise))
          ∙ ap (λ (w : Word). length (base (drafts_of work) w)) (sym f)

      -- one that stands on none loses what is sent
      bottom : foot_at work i ≡ 0 → sent ≡ length (beside_of work i)
      bottom z =
          let x = (lowest-number (link_at work i) (plain i)).0 (sym o ∙ z) in
          let f = (foot-exact (0 ∷ []) (link_at work i)).1 x in
          h.sent ∙ ap (λ (w : Word). length (base (drafts_of work) w)) (sym f)

      go : ((r ≡ sent) × ((j : ℕ) → j < link_count work → seat_at work j ≡ foot_at work i → ⊥))
          ⊎ ((j : ℕ) × (j < link_count work) × (seat_at work j ≡ foot_at work i) × (r ≡ handed_at work j))
          → r ≡ length (beside_of work i)
      go (inr j) = j.3 ∙ handed j.0 j.1 j.2
      go (inl s) = s.0 ∙ root (h.rooted i l)
        where
          root : RootedAt work i → sent ≡ length (beside_of work i)
          root (inl z) = bottom z
          root (inr j) = absurd (s.1 j.0 j.1 j.2)

  -- none is cut by more than it has
  pub cut-enough : (i : ℕ) → i < link_count work → length (beside_of work i) ≤ length_at work i
  cut-enough i l =
      let K = drafts_of work in
      let f = has_foot (foot (link_at work i)) in
      let m = part_in (draft_in work) 0 (link_count work) i (omega arith) l in
      let b = common-begins (pieces_on f K) (pieces-in f K (link_at work i) (piece_in work i) m (foot-own
      (link_at work i))) in
      omega (
        arith,
        length-append (beside_of work i) b.rest,
        ap length b.joins,
        draft-length h.drafts i l,
      )

-- one draft was cut
module _ (work one : List ℕ) {two : List ℕ} (i long at many : ℕ) (whole : length work ≡ work_size) (lt : i < 64)
    (is : long ≡ length_at work i) (from : at ≡ where_at work i) (enough : many ≤ long) (lies : at + long ≤ work_size)
    (first : one ≡ with_length work i (long - many)) (second : two ≡ with_two one (where_start i) (at + many))
    (low : long < pairs) where
  abbrev left : ℕ
  left = long - many

  abbrev new : ℕ
  new = at + many

  lengths : Pasted work (length_start i) (left % 256 ∷ left / 256 ∷ []) one
  lengths = stored (omega arith) first

  places : Pasted one (where_start i) (new % 256 ∷ new / 256 ∷ []) two
  places = stored (omega (arith, lengths.whole)) second

  other : (k : ℕ) → (k < length_start i) ⊎ (length_start i + 2 ≤ k) → (k < where_start i) ⊎ (where_start i + 2 ≤ k)
      → byte two k ≡ byte work k
  other k a b = places.others k b ∙ lengths.others k a

  pub cut-one : CutOne work i many two
  cut-one =
      record {
        links = record {
          whole = places.whole ∙ lengths.whole;
          small = λ h.
              subst (λ (b : List ℕ). Bytes b) (sym second)
              (small-two one (where_start i) new
              (subst (λ (b : List ℕ). Bytes b) (sym first) (small-two work (length_start i) left h (omega arith)))
              (omega arith));
          links = λ k h. other k (inl (omega arith)) (inl (omega arith));
        };
        slots = λ k h. other k (inr (omega arith)) (inr (omega arith));
        long = long-is;
        start = stored-two (where_start i) new (omega arith) places ∙ ap (λ (k : ℕ). k + many) from;
        others = λ j h ne. beside j h (apart j i ne);
      }
    where
      long-is : length_at two i ≡ length_at work i - many
      long-is =
          let a = places.others (length_start i) (inl (omega arith)) in
          let b = places.others (length_start i + 1) (inl (omega arith)) in
          omega (arith, stored-two (length_start i) left (omega arith) lengths)

      beside : (j : ℕ) → j < links_cap → (j < i) ⊎ (i < j)
          → (length_at two j ≡ length_at work j) × (where_at two j ≡ where_at work j)
      beside j h (inl o) =
          let a = other (length_start j) (inl (omega arith)) (inl (omega arith)) in
          let b = other (length_start j + 1) (inl (omega arith)) (inl (omega arith)) in
          let c = other (where_start j) (inr (omega arith)) (inl (omega arith)) in
          let d = other (where_start j + 1) (inr (omega arith)) (inl (omega arith)) in
          (omega arith, omega arith)
      beside j h (inr o) =
          let a = other (length_start j) (inr (omega arith)) (inl (omega arith)) in
          let b = other (length_start j + 1) (inr (omega arith)) (inl (omega arith)) in
          let c = other (where_start j) (inr (omega arith)) (inr (omega arith)) in
          let d = other (where_start j + 1) (inr (omega arith)) (inr (omega arith)) in
          (omega arith, omega arith)

-- the drafts cut so far: none, one more
pub cut-start : (work : List ℕ) → CutTo work 0 work
cut-start work =
    record {
      links = links-self work;
      slots = λ k h. refl;
      done = λ i l. absurd (omega arith);
      left = λ i g l. (refl, refl);
    }

module _ {work₀ work : List ℕ} {i : ℕ} (c : CutTo work₀ i work) (few : link_count work₀ ≤ 64)
    (lt : i < link_count work₀) where
  -- what is handed down and stood on is as it was
  pub cut_by : {sent r : ℕ} → CutBy work sent i r → CutBy work₀ sent i r
  cut_by {sent} {r} b = record { is = go b.is }
    where
      n : link_count work ≡ link_count work₀
      n = same_count c.links

      back : (j : ℕ) → j < link_count work₀ → seat_at work₀ j ≡ foot_at work₀ i → seat_at work j ≡ foot_at work i
      back j l e = same-seat c.links j (omega arith) ∙ e ∙ sym (same-foot c.links i (omega arith))

      go : ((r ≡ sent) × ((j : ℕ) → j < link_count work → seat_at work j ≡ foot_at work i → ⊥))
          ⊎ ((j : ℕ) × (j < link_count work) × (seat_at work j ≡ foot_at work i) × (r ≡ handed_at work j))
          → ((r ≡ sent) × ((j : ℕ) → j < link_count work₀ → seat_at work₀ j ≡ foot_at work₀ i → ⊥))
          ⊎ ((j : ℕ) × (j < link_count work₀) × (seat_at work₀ j ≡ foot_at work₀ i) × (r ≡ handed_at work₀ j))
      go (inl s) = inl (s.0, λ j l e. s.1 j (omega (arith, n)) (back j l e))
      go (inr s) =
          let j = s.0 in
          let l : j < link_count work₀ = omega (arith, n, s.1) in
          let a = c.slots (handed_start j) (omega arith) in
          let b = c.slots (handed_start j + 1) (omega arith) in
          inr (
            j,
            l,
            sym (same-seat c.links j (omega arith)) ∙ s.2 ∙ same-foot c.links i (omega arith),
            s.3 ∙ omega (arith, a, b),
          )

  pub cut-next : {work' : List ℕ} {many : ℕ} → CutOne work i many work' → many ≡ length (beside_of work₀ i)
      → CutTo work₀ (i + 1) work'
  cut-next {work'} {many} o e =
      record {
        links = links-then c.links o.links;
        slots = λ k h. o.slots k h ∙ c.slots k h;
        done = λ j l. done j l (below_or j i);
        left = λ j g l.
            let a = o.others j (omega arith) (λ f. omega arith) in
            let b = c.left j (omega arith) l in
            (a.0 ∙ b.0, a.1 ∙ b.1);
      }
    where
      done : (j : ℕ) → j < i + 1 → (j < i) ⊎ (i ≤ j)
          → (length_at work' j ≡ length_at work₀ j - length (beside_of work₀ j))
          × (where_at work' j ≡ where_at work₀ j + length (beside_of work₀ j))
      done j l (inl h) =
          let a = o.others j (omega arith) (λ f. omega arith) in
          let b = c.done j h in
          (a.0 ∙ b.0, a.1 ∙ b.1)
      done j l (inr h) =
          let f : i ≡ j = omega arith in
          let b = c.left i (omega arith) lt in
          rw (← f)
          (o.long ∙ omega (arith, b.0, e), o.start ∙ omega (arith, b.1, e))

-- one turn: by how much the draft is cut, that it has so much, and what is then left
module _ {work₀ work starts : List ℕ} {sent i r : ℕ} (h : Cutting work₀ sent) (v : Levelled work₀ starts)
    (c : CutTo work₀ i work) (lt : i < link_count work₀) (b : CutBy work sent i r) where
  turn_many : r ≡ length (beside_of work₀ i)
  turn_many = cut-many h v.graded.rise lt (cut_by c h.drafts.few lt b)

  pub turn-fits : (r ≤ length_at work i) × Lies work i
  turn-fits =
      let l = c.left i (omega arith) lt in (
        omega (arith, l.0, turn_many, cut-enough h v.graded.rise i lt),
        omega (arith, l.0, l.1, draft-lies h.drafts i lt),
      )

  pub turn-next : {work' : List ℕ} → CutOne work i r work' → CutTo work₀ (i + 1) work'
  turn-next o = cut-next c h.drafts.few lt o turn_many

-- a part without its first bytes
drop-take : (m n : ℕ) (l : Word) → m ≤ n → drop m (take n l) ≡ take (n - m) (drop m l)
drop-take zero n l le = let e : n - 0 ≡ n = omega arith in rw e refl
drop-take (suc m) zero l le = absurd (omega arith)
drop-take (suc m) (suc n) [] le = sym (take-nil (suc n - suc m))
drop-take (suc m) (suc n) (x ∷ l) le =
    let e : suc n - suc m ≡ n - m = omega arith in
    rw e (drop-take m n l (omega arith))

-- all drafts cut are what cutting makes of them
module _ {work work' : List ℕ} (d : Drafted work)
    (enough : (i : ℕ) → i < link_count work → length (beside_of work i) ≤ length_at work i)
    (c : CutTo work (link_count work) work') where
  cut-piece : (i : ℕ) → i < link_count work → piece_in work' i ≡ drop (length (beside_of work i)) (piece_in work i)
  cut-piece i l =
      let m = length (beside_of work i) in
      let n = length_at work i in
      let w = where_at work i in
      let b = c.done i l in
      let low = d.low i (omega arith) l in
      rw (b.0, b.1)
      (piece-same work (w + m) (n - m) work' c.links.whole (λ k h. c.slots (w + m + k) (omega arith))
      ∙ ap (take (n - m)) (sym (drop-drop m w work)) ∙ sym (drop-take m n (drop w work) (enough i l)))

  pub cut-lies : (i : ℕ) → i < link_count work → Lies work' i
  cut-lies i l =
      let b = c.done i l in
      omega (arith, b.0, b.1, enough i l, draft-lies d i l)

  pub cut-are : drafts_of work' ≡ cut (drafts_of work)
  cut-are =
      let K = drafts_of work in
      let few = d.few in
      let shorn : Entry → Entry = λ e. entry e.link (drop (length (base K (foot e.link))) e.piece) in
      ap (λ (n : ℕ). map (draft_in work') (up_to n)) (same_count c.links)
      ∙ map_same (draft_in work') (λ i. shorn (draft_in work i)) (up_to (link_count work))
      (λ i m.
      let l = up_to-out (link_count work) i m in
      let a = same-link c.links i (omega arith) in
      let b = cut-piece i l in
      λ k. entry (a k) (b k))
      ∙ sym (map-map shorn (draft_in work) (up_to (link_count work)))

-- the lengths of the pieces are those that are kept
pub weights-are : (work : List ℕ) → length work ≡ work_size → ((i : ℕ) → i < link_count work → Lies work i)
    → map weight (drafts_of work) ≡ weights work
weights-are work whole lies =
    map-map weight (draft_in work) (up_to (link_count work))
    ∙ map_same (λ i. weight (draft_in work i)) (weight_at work) (up_to (link_count work))
    (λ i m.
    let l = lies i (up_to-out (link_count work) i m) in
    let e = piece-length work (where_at work i) (length_at work i) (omega arith) in
    λ k. record { link = link_at work i; bytes = e k })

-- all of it
module _ {work : List ℕ} (r : Ready work) where
  first-le : (x y : ℕ) (v w : Word) → Less (x ∷ v) (y ∷ w) → x ≤ y
  first-le x y v w (inl l) = omega arith
  first-le x y v w (inr e) = omega (arith, e.0)

  pub ready-graded : Graded work
  ready-graded =
      record {
        whole = omega (arith, r.drafts.whole);
        few = r.drafts.few;
        low = r.low;
        bottom = λ j l. r.drafts.below j (omega arith) l;
        rise = λ i j l h.
            let a = link_at work i in
            let b = link_at work j in
            first-le a.level b.level (drop 1 (link_key a)) (drop 1 (link_key b))
            (rises-out entry_key (draft_in work) (link_count work) r.rise i j l h);
      }

  module _ {pushed starts : List ℕ} {at long : ℕ} (p : Pushed work pushed) (v : Levelled pushed starts)
      (common : CommonOn pushed 0 at long) where
    n : link_count pushed ≡ link_count work
    n = same_count p.links

    sent_is : take long (drop at pushed) ≡ base (push (drafts_of work)) (0 ∷ [])
    sent_is = sym (base-bottom p.drafts common) ∙ ap (λ (E : List Entry). base E (0 ∷ [])) p.are

    pub settle-cutting : Cutting pushed long
    settle-cutting =
        record {
          drafts = p.drafts;
          each = λ i l. p.each i (omega (arith, n));
          sent =
              sym (common-length p.drafts.whole common) ∙ ap length (sym (base-bottom p.drafts common));
          rooted = λ i l. root i (omega (arith, n)) (r.rooted i (omega (arith, n)));
        }
      where
        few : link_count work ≤ 64
        few = r.drafts.few

        root : (i : ℕ) → i < link_count work → RootedAt work i → RootedAt pushed i
        root i l (inl z) = inl (same-foot p.links i (omega (arith, few)) ∙ z)
        root i l (inr j) =
            let m = j.1 in
            inr (
              j.0,
              omega (arith, n),
              same-seat p.links j.0 (omega (arith, few)) ∙ j.2
                  ∙ sym (same-foot p.links i (omega (arith, few))),
            )

    module _ {done : List ℕ} (c : CutTo pushed (link_count pushed) done) where
      enough : (i : ℕ) → i < link_count pushed → length (beside_of pushed i) ≤ length_at pushed i
      enough = cut-enough settle-cutting v.graded.rise

      links : SameLinks work done
      links = links-then p.links c.links

      pub settle-levelled : Levelled done starts
      settle-levelled = same-levelled c.links v

      pub settle-weighable : Weighable done
      settle-weighable =
          let m = same_count links in
          let few = r.drafts.few in
          record {
            short = λ i l.
                let b = c.done i (omega (arith, n)) in
                omega (arith, b.0, p.drafts.short i (omega arith) (omega (arith, n)));
            plain = λ i l z.
                let e = same-link links i (omega arith) in
                ap (λ (l : Link). l.here.marker) e
                ∙ r.plain i (omega arith) (sym (ap (λ (l : Link). l.level) e) ∙ z);
          }

      pub settled-to : {most : ℕ} → most ≡ longest_of (weights done)
          → SettledTo work (record { at = at; length = long; longest = most }) done
      settled-to {most} e =
          let m = same_count links in
          let few = r.drafts.few in
          record {
            whole = links.whole ∙ r.drafts.whole;
            small = links.small r.drafts.small;
            count = m;
            are = are;
            below = λ i l. same_none links i (omega arith) (r.drafts.below i (omega arith) l);
            lies = λ i l. cut-lies p.drafts enough c i (omega (arith, n));
            part = common.lies;
            sent = piece-same pushed at long done c.links.whole (λ k h. slots k h) ∙ sent_is;
            longest =
                e
                ∙ ap longest_of (sym (weights-are done (links.whole ∙ r.drafts.whole)
                (λ i l. cut-lies p.drafts enough c i (omega (arith, n, m)))))
                ∙ ap longest are;
          }
        where
          are : drafts_of done ≡ cut (push (drafts_of work))
          are = cut-are p.drafts enough c ∙ ap cut p.are

          slots : (k : ℕ) → k < long → byte done (at + k) ≡ byte pushed (at + k)
          slots k h =
              let q = common.place (omega arith) in
              let low = p.drafts.low q.0 (omega arith) q.1 in
              c.slots (at + k) (omega (arith, q.2))
