-- The end of a step: from the drafts of the moved links to what is sent and written. Assumes nothing.
use mathlib.Core.Path.{◌≡◌, sym, ◌∙◌, ap, subst}
use mathlib.Core.Logic.{◌⊎◌, inl, inr}
use mathlib.Core.List.Memᴰ
use mathlib.Core.List.{List, ◌∷◌, [], ◌++◌}
use Prim.Native.Nat.{ℕ, ◌+◌, ◌-◌, ◌<◌, ◌≤◌}
use native.Mathlib.Nat.{add-sub_cancel_left}
use native.Mathlib.Omega.{arith}
use lib.ListN.{length, take, drop, length-drop}
use lib.Seq.{length-take-le}
use Rattle.words.specs.Lists.{◌among◌, up_to}
use Rattle.words.specs.Words.{Word}
use Rattle.words.proofs.Lists.{up_to-in, up_to-out}
use Rattle.meaning.specs.Table.{Table, GoodTable, edition1}
use Rattle.meaning.specs.Trails.{ground, Link, on, link_of}
use Rattle.table.specs.File.{table_of}
use Rattle.table.specs.Good.{first_edition}
use Rattle.table.proofs.Stands.{good-table}
use Rattle.session_meaning.specs.Sessions.{Entry, entry, Session, Ranges, RisesByLink, Sound}
use Rattle.session_meaning.specs.Soundly.{longest}
use Rattle.session_meaning.specs.Bytes.{link_start, piece_room, link_count, length_at, link_at, session_of, bytes_of}
use Rattle.session_meaning.specs.Numbers.{seat_at, foot_at, RootedAt}
use Rattle.session_meaning.proofs.Soundly.{lies-rooted}
use Rattle.session_meaning.proofs.RoundTrip.{piece-short}
use Rattle.step_meaning.specs.Promises.{Proper, Stepped}
use Rattle.step_meaning.specs.Stepping.{grow, kept, shaken, push, base, cut, stepped, sent, link_number}
use Rattle.step_meaning.proofs.Shake.{shaken-rises, shaken-lies}
use Rattle.step_meaning.proofs.Bounds.{deeper-within, shaken-cases, grow-ranges, pushed_short}
use Rattle.step_meaning.proofs.Stepped.{stepped-sound}
use Rattle.step_meaning.proofs.Told.{told-refused, told-taken}
use Rattle.step_drafts.specs.declared.settling.Settled.{Settled}
use Rattle.step_drafts.specs.Drafts.{piece_in, where_at, draft_in, drafts_of, foot_no, seat_no, Short, Ready, SettledTo}
use Rattle.step_drafts.proofs.Numbers.{foot-from, seat-from}
use Rattle.step.specs.Writing.{Fitting, drafted}
use Rattle.step.specs.Tests.{LeftOf, Left}
use Rattle.step.proofs.Tested.{Agrees, Waits, backlog, no_room, taken}

module _ {file session : List ℕ} {symbol depth : ℕ} (l : LeftOf file session symbol depth) where
  abbrev T : Table
  T = table_of file

  abbrev S : Session
  S = session_of session

  abbrev H : Session
  H = shaken (kept T S symbol)

  abbrev proper : Proper file session
  proper = l.opened.proper

  abbrev ok : Sound T S
  ok = proper.sound.sound

  rules : GoodTable edition1 T
  rules = good-table {E = first_edition} (omega arith) file proper.small proper.good

  agrees : Agrees T S symbol
  agrees =
      record {
        fits = record { moves = record { open-to = l.opened.to; some = l.some }; few = l.few };
        one = l.one;
      }

  rise : RisesByLink H.entries
  rise = shaken-rises T S symbol ok

  -- no step goes deeper than 32
  pub left-depth : depth ≤ 32
  left-depth =
      let o = l.opened in
      let d = deeper-within (T.class symbol) S.depth T.depth_cap ok.depth o.to.shallow in
      omega (arith, o.is, rules.depth_cap.1)

  ranges : (k : Link) (x : Word) → entry k x among H.entries → Ranges T k
  ranges k x m = go (shaken-cases T S symbol (entry k x) m)
    where
      go : (entry k x among S.entries) ⊎ (entry k x among grow T S symbol) → Ranges T k
      go (inl n) = ok.ranges k x n
      go (inr n) = grow-ranges T rules S ok symbol (entry k x) n

module _ {file session work : List ℕ} {symbol depth : ℕ} (d : Left file session symbol depth work) where
  abbrev l : LeftOf file session symbol depth
  l = d.left

  abbrev E : List Entry
  E = (H l).entries

  -- a draft's link is one of those that are left, and the other way round
  drafts-in : (i : ℕ) → i < link_count work → draft_in work i among E
  drafts-in i lt =
      subst (λ (K : List Entry). draft_in work i among K) d.are
      (Memᴰ.map (draft_in work) (up_to-in (link_count work) i lt))

  drafts-out : (f : Entry) → f among E → (j : ℕ) × (j < link_count work) × (draft_in work j ≡ f)
  drafts-out f m =
      let o =
      Memᴰ.of_map (draft_in work) (up_to (link_count work)) (subst (λ (K : List Entry). f among K) (sym d.are) m) in
      (o.0, up_to-out (link_count work) o.0 o.1, o.2)

  abbrev link : ℕ → Link
  link i = link_at work i

  seat-of : (j : ℕ) → seat_at work j ≡ seat_no (link j)
  seat-of j = seat-from work d.drafts.small (link_start j)

  foot-of : (i : ℕ) → i < link_count work → foot_at work i ≡ foot_no (link i)
  foot-of i lt = foot-from work d.drafts.small (link_start i) (d.drafts.below i (omega arith) lt)

  rooted : (i : ℕ) → i < link_count work → RootedAt work i
  rooted i lt =
      go (lies-rooted (H l) (shaken-lies (T l) (S l) symbol (ok l)) (link i) (piece_in work i) (drafts-in i lt)).1
    where
      go : (link i ≡ link_of (ground (link i).here.state))
          ⊎ ((f : Entry) × (f among E) × (link i ≡ on (link i).here.state (link i).here.marker f.link))
          → RootedAt work i
      go (inl e) = inl (foot-of i lt ∙ ap foot_no e)
      go (inr f) =
          let o = drafts-out f.0 f.1 in
          let k : link o.0 ≡ f.0.link = ap (λ (e : Entry). e.link) o.2 in
          let s : seat_no f.0.link ≡ foot_no (link i) =
          sym (ap foot_no f.2 ∙ (let q = f.0.link in omega arith)) in
          inr (o.0, o.1, seat-of o.0 ∙ ap seat_no k ∙ s ∙ sym (foot-of i lt))

  -- what settling asks
  pub left-ready : Ready work
  left-ready =
      record {
        drafts = d.drafts;
        rise = rw d.are (rise l);
        low = λ i lt.
            let m = drafts-in i lt in
            let r = lies-rooted (H l) (shaken-lies (T l) (S l) symbol (ok l)) (link i) (piece_in work i) m in
            omega (arith, r.0, left-depth l, l.opened.is);
        rooted = rooted;
        plain = λ i lt. (ranges l (link i) (piece_in work i) (drafts-in i lt)).zero.1;
        short = short;
      }
    where
      short : Short (push (drafts_of work))
      short e m =
          let k = subst (λ (K : List Entry). e among push K) d.are m in
          omega (arith, pushed_short (T l) (rules l) (S l) (ok l) symbol l.one e.link e.piece k)

  -- what it leaves and answers
  module _ {r : Settled} {work' : List ℕ} (s : SettledTo work r work') where
    are : drafts_of work' ≡ (stepped (T l) (S l) symbol).entries
    are = s.are ∙ ap (λ (K : List Entry). cut (push K)) d.are

    abbrev part : Word
    part = take (r.at + r.length - r.at) (drop r.at work')

    sent_is : part ≡ sent (T l) (S l) symbol
    sent_is =
        ap (λ (k : ℕ). take k (drop r.at work')) (add-sub_cancel_left r.at r.length)
        ∙ s.sent
        ∙ ap (λ (K : List Entry). base (push K) (0 ∷ [])) d.are

    waiting : r.longest ≡ longest (stepped (T l) (S l) symbol).entries
    waiting = s.longest ∙ ap (λ (K : List Entry). longest (cut (push K))) d.are

    pub settled-backlog : (out : List ℕ) → (table_of file).waiting_cap < r.longest
        → Stepped file session symbol out 9 0 session out
    settled-backlog out lt =
        told-refused file session symbol out (proper l).good (proper l).sound
        (backlog (T l) (S l) symbol (length out) (agrees l) (rw waiting at lt)) (λ z. omega arith)

    module _ (le : r.longest ≤ (table_of file).waiting_cap) where
      waits : Waits (T l) (S l) symbol
      waits = record { agrees = agrees l; short = rw waiting at le }

      pub settled-no-room : (out : List ℕ) → length out < length part → Stepped file session symbol out 10 0 session out
      settled-no-room out lt =
          told-refused file session symbol out (proper l).good (proper l).sound
          (no_room (T l) (S l) symbol (length out) waits (rw sent_is at lt)) (λ z. omega arith)

      module _ (out : List ℕ) (room : length part ≤ length out) where
        is-taken : link_number (T l) (length out) (S l) symbol ≡ 0
        is-taken = taken (T l) (S l) symbol (length out) waits (rw sent_is at room)

        after : Sound (T l) (stepped (T l) (S l) symbol)
        after = stepped-sound (T l) (S l) symbol (ok l) (length out) is-taken (rules l)

        -- a cut piece has room in a session
        pub settled-fitting : Fitting work'
        settled-fitting =
            record {
              whole = s.whole;
              few = omega (arith, s.count, d.drafts.few);
              below = λ i lt. s.below i (omega (arith, s.count));
              lies = λ i lt. s.lies i (omega (arith, s.count));
              short = short;
            }
          where
            short : (i : ℕ) → i < link_count work' → length_at work' i ≤ piece_room
            short i lt =
                let m = Memᴰ.map (draft_in work') (up_to-in (link_count work') i lt) in
                let k = subst (λ (K : List Entry). draft_in work' i among K) are m in
                let lies = s.lies i (omega (arith, s.count)) in
                omega (
                  arith,
                  piece-short (T l) (rules l) (stepped (T l) (S l) symbol) after (draft_in work' i) k,
                  length-take-le (length_at work' i) (drop (where_at work' i) work')
                      (omega (arith, lies, s.whole, length-drop (where_at work' i) work')),
                )

        pub settled-taken : {session' out' : List ℕ} → session' ≡ bytes_of (drafted depth work')
            → out' ≡ part ++ drop (length part) out → Stepped file session symbol out 0 (length part) session' out'
        settled-taken e f =
            let is : drafted depth work' ≡ stepped (T l) (S l) symbol =
            λ i. record { depth = l.opened.is i; entries = are i } in
            told-taken file session symbol out (proper l).good (proper l).sound (proper l).small is-taken
            (ap length sent_is) (e ∙ ap bytes_of is) (f ∙ ap (λ (w : Word). w ++ drop (length part) out) sent_is)
