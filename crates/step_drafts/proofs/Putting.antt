-- Putting an entry among the drafts: between those below it and those above it, or nowhere where its link is there.
-- Assumes nothing.
use mathlib.Core.Path.{◌≡◌, refl, sym, ◌∙◌, ap, subst}
use mathlib.Core.Bool.{true, false}
use mathlib.Core.Logic.{◌⊎◌, inl, inr, ⊎_elim}
use mathlib.Core.List.{List, map}
use Prim.Native.Nat.{ℕ, ◌+◌, ◌-◌, ◌<◌, ◌≤◌}
use native.Mathlib.Nat.{eq-or-lt_of_le}
use native.Mathlib.Omega.{arith}
use native.Mathlib.Numerals.{add-one}
use lib.ListN.{length, set}
use Rattle.std.specs.Ordering.{is_lt, is_eq}
use Rattle.std.specs.declared.cmp.Ordering.{Ordering}
use Rattle.std.specs.declared.cmp.Ordering.TheVariants.{Less, Equal, Greater}
use Rattle.words.specs.Lists.{◌among◌, up_to, Exact}
use Rattle.words.specs.Words.{Word, Bytes}
use Rattle.words.specs.Order.{Less as Below, put}
use Rattle.words.proofs.Lists.{below_or}
use Rattle.words.proofs.Ordered.{less-self, rises-one, rises-out}
use Rattle.words.proofs.Exact.{exact_same, yes-exact, no-exact}
use Rattle.words.specs.LittleEndian.{byte}
use Rattle.meaning.specs.Trails.{Link}
use Rattle.meaning.specs.Answers.{links_cap}
use Rattle.session_meaning.specs.Sessions.{Entry, entry, RisesByLink}
use Rattle.session_meaning.specs.Bytes.{link_start, link_count, length_at, link_at, NoneBelow}
use Rattle.session_meaning.specs.Numbers.{key_at}
use Rattle.step_meaning.specs.Stepping.{entry_key, clashes}
use Rattle.step_meaning.proofs.Keep.{clashes-exact}
use Rattle.links.specs.declared.Link.{Link as Five}
use Rattle.links.specs.Heads.{five_of, key_of, meant, Stands, Compared}
use Rattle.step_drafts.specs.Drafts.{slot_start, draft_room, work_size, where_at, piece_in, draft_in}
use Rattle.step_drafts.specs.Drafts.{drafts_of, Away, Drafted, link_no, Plain, Clean, Moved, Written, Drew, Lifted}
use Rattle.step_drafts.specs.Drafts.{DraftPlace, There, Placed, NoSlot, Rest}
use Rattle.step_drafts.proofs.Numbers.{number-one, number-rises, from-plain, key-from}
use Rattle.step_drafts.proofs.Listed.{length-all, part_in, part_out, put-longer, put-there, put-between}
use Rattle.step_drafts.proofs.Rooms.{clean-bytes, moved_then, moved_none, moved-link, moved-draft, drew-link}
use Rattle.step_drafts.proofs.Rooms.{drew-none, piece-written, rest_then, headed-count, headed-rest}
use Rattle.step_drafts.proofs.Rooms.{headed-moved}
use Rattle.step_drafts.proofs.Carried.{written-moved}

-- what comparing tells, by its answer
module _ {bytes : List ℕ} {i : ℕ} {l : Five} {o : Ordering} (c : Compared bytes i l o) where
  pub told-below : is_lt o ≡ true → key_at bytes i < key_of l
  told-below e = go o c.stands e
    where
      go : (o : Ordering) → Stands o (key_at bytes i) (key_of l) → is_lt o ≡ true → key_at bytes i < key_of l
      go Less s e = s
      go Equal s e = absurd (cc)
      go Greater s e = absurd (cc)

  pub told-from : is_lt o ≡ false → key_of l ≤ key_at bytes i
  told-from e = go o c.stands e
    where
      go : (o : Ordering) → Stands o (key_at bytes i) (key_of l) → is_lt o ≡ false → key_of l ≤ key_at bytes i
      go Less s e = absurd (cc)
      go Equal s e = omega arith
      go Greater s e = omega arith

  pub told-is : Exact (key_at bytes i ≡ key_of l) (is_eq o)
  told-is = go o c.stands
    where
      go : (o : Ordering) → Stands o (key_at bytes i) (key_of l) → Exact (key_at bytes i ≡ key_of l) (is_eq o)
      go Less s = no-exact (λ e. omega arith)
      go Equal s = yes-exact s
      go Greater s = no-exact (λ e. omega arith)

unlike : (xs ys : Word) → xs ≡ ys → Below xs ys → ⊥
unlike xs ys e h = less-self ys (rw e at h)

no-clash : (e : Entry) (E : List Entry) → ((f : Entry) → f among E → entry_key e ≡ entry_key f → e.piece ≡ f.piece)
    → clashes e E ≡ false
no-clash e E h = exact_same (clashes-exact e E) (no-exact (λ x. x.2.1 (h x.0 x.1 x.2.0)))

module _ {work : List ℕ} (drafts : Drafted work) where
  plain_at : (i : ℕ) → Plain (link_at work i)
  plain_at i = from-plain work drafts.small (link_start i)

  number : (i : ℕ) → i < link_count work → key_at work i ≡ link_no (link_at work i)
  number i h = key-from work drafts.small (link_start i) (drafts.below i (omega arith) h)

  module _ (rise : RisesByLink (drafts_of work)) where
    pub keys-rise : (i j : ℕ) → i < j → j < link_count work → key_at work i < key_at work j
    keys-rise i j h k =
        let r = rises-out entry_key (draft_in work) (link_count work) rise i j h k in
        let m = (number-rises (link_at work i) (link_at work j) (plain_at i) (plain_at j)).0 r in
        omega (arith, m, number i (omega arith), number j k)

    -- where one draft is below a link and the next is not, all before it are below
    pub place-edge : {l : Five} {n at : ℕ} → n ≡ link_count work → at ≤ n
        → ((i : ℕ) → i + 1 ≡ at → key_at work i < key_of l) → (at < n → key_of l ≤ key_at work at)
        → DraftPlace work n l at
    place-edge {l} {n} {at} all le edge here =
        record {
          within = le;
          below = λ i h.
              let last = edge (at - 1) (omega arith) in
              let go : (i + 1 ≡ at) ⊎ (i + 1 < at) → key_at work i < key_of l = λ o.
              ⊎_elim (edge i) (λ m. omega (arith, keys-rise i (at - 1) (omega arith) (omega arith))) o in
              go (eq-or-lt_of_le (rw add-one h));
          here = here;
        }

    -- a link and its place among the drafts

    module _ {l : Five} {n at : ℕ} (all : n ≡ link_count work) (clean : Clean l) (place : DraftPlace work n l at)
        (piece : Word) where
      abbrev new-entry : Entry
      new-entry = entry (meant l) piece

      plain-five : Plain (meant l)
      plain-five = from-plain (five_of l) (clean-bytes clean) 0

      number-five : key_of l ≡ link_no (meant l)
      number-five = key-from (five_of l) (clean-bytes clean) 0 clean.none

      before : (i : ℕ) → i < at → Below (entry_key (draft_in work i)) (entry_key new-entry)
      before i h =
          let w = place.within in
          (number-rises (link_at work i) (meant l) (plain_at i) plain-five).1
          (omega (arith, place.below i h, number i (omega arith), number-five))

      module _ (there : at < n) (hit : key_at work at ≡ key_of l) where
        same-link : link_at work at ≡ meant l
        same-link =
            number-one (link_at work at) (meant l) (plain_at at) plain-five
            (sym (number at (omega arith)) ∙ hit ∙ number-five)

        same_key : entry_key new-entry ≡ entry_key (draft_in work at)
        same_key = ap (λ (l : Link). entry_key (entry l piece)) (sym same-link)

        stays : put entry_key new-entry (drafts_of work) ≡ drafts_of work
        stays = put-there entry_key new-entry (draft_in work) (link_count work) at before (omega arith) same_key

        among-all : draft_in work at among drafts_of work
        among-all = part_in (draft_in work) 0 (link_count work) at (omega arith) (omega arith)

        pub same-piece : piece_in work at ≡ piece → There false work new-entry work
        same-piece e =
            record {
              clash =
                  no-clash new-entry (drafts_of work) (λ f m k.
                  sym e
                  ∙ ap (λ (f : Entry). f.piece) (rises-one entry_key (drafts_of work) rise (draft_in work at) f among-all
                  m (sym same_key ∙ k)));
              is = stays;
              same = refl;
            }

        pub other-piece : (piece_in work at ≡ piece → ⊥) → There true work new-entry work
        other-piece d =
            record {
              clash =
                  (clashes-exact new-entry (drafts_of work)).0
                  (draft_in work at, among-all, (same_key, λ e. d (sym e)));
              is = stays;
              same = refl;
            }

      module _ (new : at < n → key_at work at ≡ key_of l → ⊥) where
        above-key : (i : ℕ) → at ≤ i → i < link_count work → key_of l < key_at work i
        above-key i h k = go (eq-or-lt_of_le h) (eq-or-lt_of_le (place.here (omega arith)))
          where
            go : (at ≡ i) ⊎ (at < i) → (key_of l ≡ key_at work at) ⊎ (key_of l < key_at work at) → key_of l < key_at work i
            go a (inl z) = absurd (new (omega arith) (sym z))
            go (inl e) (inr z) = subst (λ (i : ℕ). key_of l < key_at work i) e z
            go (inr m) (inr z) = omega (arith, keys-rise at i m k)

        above : (i : ℕ) → at ≤ i → i < link_count work → Below (entry_key new-entry) (entry_key (draft_in work i))
        above i h k =
            (number-rises (meant l) (link_at work i) plain-five (plain_at i)).1
            (omega (arith, above-key i h k, number i k, number-five))

        not_there : (f : Entry) → f among drafts_of work → entry_key new-entry ≡ entry_key f → ⊥
        not_there f m e =
            let o = part_out (draft_in work) 0 (link_count work) m in
            go o.0 o.2 (e ∙ ap entry_key o.3) (below_or o.0 at)
          where
            go : (i : ℕ) → i < link_count work → entry_key new-entry ≡ entry_key (draft_in work i) → (i < at) ⊎ (at ≤ i) → ⊥
            go i h e (inl k) = unlike (entry_key (draft_in work i)) (entry_key new-entry) (sym e) (before i k)
            go i h e (inr k) = unlike (entry_key new-entry) (entry_key (draft_in work i)) e (above i k h)

        clash-free : clashes new-entry (drafts_of work) ≡ false
        clash-free = no-clash new-entry (drafts_of work) (λ f m e. absurd (not_there f m e))

        pub no_slot : n ≡ links_cap → (work' : List ℕ) → NoSlot work new-entry work'
        no_slot full work' =
            record {
              clash = clash-free;
              long =
                  put-longer entry_key new-entry (drafts_of work) not_there
                  ∙ omega (arith, length-all (draft_in work) (link_count work), full);
            }

        module _ {one two three : List ℕ} {four : List ℕ} {long slot : ℕ} (few : n < links_cap)
            (short : length piece ≤ draft_room) (as_long : long ≡ length piece) (next : slot ≡ slot_start n)
            (fill : Written work slot piece one) (lift : Lifted one at n 1 two) (draw : Drew two at l long slot three)
            (head : four ≡ set (set three 0 0) 1 (n + 1)) (small : Bytes one) where
          whole : length three ≡ work_size
          whole = draw.wrote.rest.whole ∙ lift.rest.whole ∙ fill.whole ∙ drafts.whole

          count : link_count four ≡ n + 1
          count = headed-count three (n + 1) whole head

          last : (i : ℕ) → Moved three i four i
          last = headed-moved three (n + 1) whole head

          rest : Rest one four
          rest = rest_then lift.rest (rest_then draw.wrote.rest (headed-rest three (n + 1) whole head
              (omega arith)))

          slots : (k : ℕ) → slot_start 0 ≤ k → byte four k ≡ byte one k
          slots k h = rest.slots k (omega arith)

          long-four : length four ≡ length work
          long-four = rest.whole ∙ fill.whole

          stayed : (i : ℕ) → i < at → Moved work i four i
          stayed i h =
              let w = place.within in
              moved_then (moved_then (moved_then (written-moved fill (omega arith) i (omega arith)) (lift.before i h))
              (draw.wrote.others i (omega arith) (λ e. omega arith))) (last i)

          went : (i : ℕ) → at ≤ i → i < n → Moved work i four (i + 1)
          went i g h =
              moved_then (moved_then (moved_then (written-moved fill (omega arith) i (omega arith)) (lift.moved i g h))
              (draw.wrote.others (i + 1) (omega arith) (λ e. omega arith))) (last (i + 1))

          old : {j : ℕ} (i : ℕ) → i < n → Moved work i four j → draft_in four j ≡ draft_in work i
          old i h m =
              let lo = drafts.low i (omega arith) (omega arith) in
              let hi = drafts.high i (omega arith) (omega arith) in
              let s = drafts.short i (omega arith) (omega arith) in
              moved-draft m long-four
              (λ k o. slots (where_at work i + k) (omega arith) ∙ fill.others (where_at work i + k) (inl (omega arith)))

          here-start : where_at four at ≡ slot_start n
          here-start = (last at).start ∙ draw.start ∙ next

          here-long : length_at four at ≡ length piece
          here-long = (last at).long ∙ draw.long ∙ as_long

          here-draft : draft_in four at ≡ new-entry
          here-draft =
              let a = moved-link (last at) ∙ drew-link draw in
              let b : piece_in four at ≡ piece =
              piece-written four at fill (omega arith) (omega (arith, long-four, drafts.whole)) here-long
              ((last at).start ∙ draw.start) slots in
              λ i. entry (a i) (b i)

          listed : drafts_of four ≡ put entry_key new-entry (drafts_of work)
          listed =
              ap (λ (m : ℕ). map (draft_in four) (up_to m)) (count ∙ ap (λ (m : ℕ). m + 1) all)
              ∙ sym (put-between entry_key new-entry (draft_in work) (link_count work) at before (draft_in four)
              (let w = place.within in omega arith) (above at (omega arith))
              (λ i h. old i (source i h) (stayed i h)) here-draft
              (λ i g h. let k : i < n = omega arith in old i k (went i g k)))
            where
              source : (i : ℕ) → i < at → i < n
              source i h = let w = place.within in omega arith

          -- where what is at a place comes from
          data From (j : ℕ) : Type 0 where
            stay : j < at → From j
            fresh : j ≡ at → From j
            move : (k : ℕ) → j ≡ k + 1 → at ≤ k → k < n → From j

          from : (j : ℕ) → j < n + 1 → From j
          from j lt = go (below_or j at) (below_or at j)
            where
              go : (j < at) ⊎ (at ≤ j) → (at < j) ⊎ (j ≤ at) → From j
              go (inl h) o = stay h
              go (inr h) (inr k) = fresh (omega arith)
              go (inr h) (inl k) = move (j - 1) (omega arith) (omega arith) (omega arith)

          -- what holds of those that were there holds of all, where it does of the new one
          of-all : (P : ℕ → Type 0) → ((i j : ℕ) → i < n → Moved work i four j → P j) → P at → (j : ℕ) → From j → P j
          of-all P old new j (stay h) = let w = place.within in old j j (omega arith) (stayed j h)
          of-all P old new j (fresh e) = subst P (sym e) new
          of-all P old new j (move k e g h) = subst P (sym e) (old k (k + 1) h (went k g h))

          away : (i j : ℕ) → i < j → From i → From j → Away (where_at four i) (where_at four j)
          away i j lt (stay a) (stay b) =
              let w = place.within in
              rw ((stayed i a).start, (stayed j b).start) (drafts.apart i j (omega arith) lt (omega arith))
          away i j lt (stay a) (fresh b) =
              let w = place.within in
              let h = drafts.high i (omega arith) (omega arith) in
              rw (b, (stayed i a).start, here-start) (inl (omega arith))
          away i j lt (stay a) (move k e g h) =
              rw (e, (stayed i a).start, (went k g h).start) (drafts.apart i k (omega arith) (omega arith) (omega arith))
          away i j lt (fresh a) (stay b) = absurd (omega arith)
          away i j lt (fresh a) (fresh b) = absurd (omega arith)
          away i j lt (fresh a) (move k e g h) =
              let hi = drafts.high k (omega arith) (omega arith) in
              rw (a, e, here-start, (went k g h).start) (inr (omega arith))
          away i j lt (move k e g h) (stay b) = absurd (omega arith)
          away i j lt (move k e g h) (fresh b) = absurd (omega arith)
          away i j lt (move k e g h) (move s f o p) =
              rw (e, f, (went k g h).start, (went s o p).start)
              (drafts.apart k s (omega arith) (omega arith) (omega arith))

          pub placed : Placed work new-entry four
          placed = record { clash = clash-free; is = listed; drafts = all-drafts }
            where
              all-drafts : Drafted four
              all-drafts =
                  record {
                    whole = long-four ∙ drafts.whole;
                    small = rest.small small;
                    few = omega (arith, count);
                    below = λ j g h.
                        of-all (λ j. NoneBelow four (link_start j))
                        (λ i j l m. moved_none m (drafts.below i (omega arith) (omega arith)))
                        (moved_none (last at) (drew-none draw clean)) j (from j (omega (arith, count)));
                    short = λ j g h.
                        of-all (λ j. length_at four j ≤ draft_room)
                        (λ i j l m. let e = m.long in omega (arith, drafts.short i (omega arith) (omega arith)))
                        (omega (arith, here-long)) j (from j (omega (arith, count)));
                    low = λ j g h.
                        of-all (λ j. slot_start 0 ≤ where_at four j)
                        (λ i j l m. let e = m.start in omega (arith, drafts.low i (omega arith) (omega arith)))
                        (omega (arith, here-start)) j (from j (omega (arith, count)));
                    high = λ j g h.
                        of-all (λ j. where_at four j + draft_room ≤ slot_start (link_count four - 0))
                        (λ i j l m.
                        let e = m.start in omega (arith, count, drafts.high i (omega arith) (omega arith)))
                        (omega (arith, count, here-start)) j (from j (omega (arith, count)));
                    apart = λ i j g l h. away i j l (from i (omega (arith, count))) (from j (omega (arith, count)));
                  }
