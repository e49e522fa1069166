-- What a step knows as its tests pass, one after the other, of the lists it was lent. Assumes nothing.
use mathlib.Core.Path.{◌≡◌, refl, sym, ◌∙◌, ap, subst}
use mathlib.Core.Bool.{Bool, true, false}
use mathlib.Core.Logic.{◌⊎◌, inl, inr}
use mathlib.Core.List.{List, [], ◌∷◌, append-nil}
use Prim.Native.Nat.{ℕ, ◌<◌, ◌≤◌}
use native.Mathlib.Nat.{eq-or-lt_of_le}
use native.Mathlib.Omega.{arith}
use lib.ListN.{length, drop, length-map}
use Rattle.words.specs.Lists.{◌among◌, is_empty, up_to}
use Rattle.words.specs.Words.{Word}
use Rattle.words.specs.Order.{Less}
use Rattle.words.proofs.Lists.{first_of, length-up_to}
use Rattle.words.proofs.Ordered.{rises-out}
use Rattle.std.specs.Prelude.{Result, Ok, Err, IsErrAnd}
use Rattle.numbers.specs.Numbers.{refusal_number}
use Rattle.numbers.specs.declared.Refusal.{Refusal}
use Rattle.numbers.specs.declared.Refusal.TheVariants.{NoRun, Crowded, Conflict}
use Rattle.numbers.proofs.Told.{refusal-some}
use Rattle.meaning.specs.Table.{edition1, GoodTable}
use Rattle.meaning.specs.Trails.{link_key}
use Rattle.meaning.specs.Answers.{links_cap}
use Rattle.table.specs.File.{table_of}
use Rattle.table.specs.Good.{first_edition}
use Rattle.table.specs.Calls.{Judged}
use Rattle.table.proofs.Stands.{good-table}
use Rattle.session_meaning.specs.Sessions.{Entry}
use Rattle.session_meaning.specs.Bytes.{link_count, link_at, entry_at, session_of}
use Rattle.step_meaning.specs.Stepping.{grow, keep, kept, shaken, link_number}
use Rattle.step_meaning.specs.Promises.{Proper, Answered}
use Rattle.step_meaning.proofs.Keep.{keep-among, keep-linked}
use Rattle.step_meaning.proofs.Grow.{grow-level}
use Rattle.step_meaning.proofs.Shake.{kept-fewer}
use Rattle.step_meaning.proofs.Bounds.{deeper-within, grow-small, grow-short}
use Rattle.step_meaning.proofs.Told.{told-refused, told-bad-table}
use Rattle.step_drafts.specs.Drafts.{draft_room, draft_in, drafts_of, Drafted, Plain, AllAt, shaken_over}
use Rattle.step_growth.specs.Growing.{Gathered, Usable, Fitting}
use Rattle.step.specs.Tests.{Opened, Left}
use Rattle.step.proofs.Tested.{Moves, Fits, crowded, conflicting, no_run}

-- what a part that refuses answers: the step's own refusal, from its number by the links
abbrev Refused : List ℕ → List ℕ → ℕ → Refusal → Type 0
Refused file session a x = (out : List ℕ) → Answered file session a out (Err x) session out

refused : {file session : List ℕ} {a : ℕ} → Proper file session → (x : Refusal)
    → ((room : ℕ) → link_number (table_of file) room (session_of session) a ≡ refusal_number x)
    → Refused file session a x
refused {file} {session} {a} proper x h out =
    told-refused file session a out proper.good proper.sound (h (length out)) (refusal-some x)

-- what `check` refuses, a step refuses with the same answer
pub asked-bad : {file session out : List ℕ} {a : ℕ} (x : Refusal) (r : Result ℕ Refusal)
    → Judged file (refusal_number x) → IsErrAnd r (λ y. y ≡ x) → Answered file session a out r session out
asked-bad x (Ok n) j e = elim e [ ]
asked-bad {file} {session} {out} {a} x (Err y) j e =
    rw e (told-bad-table file session a out j refl (refusal-some x))

-- what growing is asked, and what its answers say
module _ {file session : List ℕ} {symbol depth : ℕ} (o : Opened file session symbol depth) where
  abbrev R : Proper file session
  R = o.proper

  rules : GoodTable edition1 (table_of file)
  rules = good-table {E = first_edition} (omega arith) file R.small R.good

  abbrev G : List Entry
  G = grow (table_of file) (session_of session) symbol

  pub opened-usable : Usable file session
  opened-usable = record { good = R.good; kept = R.sound.kept; levels = levels }
    where
      first-le : (x y : ℕ) (v w : Word) → Less (x ∷ v) (y ∷ w) → x ≤ y
      first-le x y v w (inl l) = omega arith
      first-le x y v w (inr e) = omega (arith, e.0)

      levels : (j k : ℕ) → j ≤ k → k < link_count session → (link_at session j).level ≤ (link_at session k).level
      levels j k le lt = go (eq-or-lt_of_le le)
        where
          key : Entry → Word
          key e = link_key e.link

          go : (j ≡ k) ⊎ (j < k) → (link_at session j).level ≤ (link_at session k).level
          go (inl e) = rw e (omega arith)
          go (inr l) =
              let a = link_at session j in
              let b = link_at session k in
              first-le a.level b.level (drop 1 (link_key a)) (drop 1 (link_key b))
              (rises-out key (entry_at session) (link_count session) R.sound.sound.rise j k l lt)

  pub opened-fitting : Fitting G
  opened-fitting = record { each = each }
    where
      each : (z : Entry) → z among G → Plain z.link × (length z.piece ≤ draft_room)
      each z m =
          let ok = R.sound.sound in
          let T = table_of file in
          let S = session_of session in
          let d = deeper-within (T.class symbol) S.depth T.depth_cap ok.depth o.to.shallow in
          let s = grow-small T rules S ok symbol d z m in (
            record {
              level = omega (arith, s.level);
              state = omega (arith, s.state);
              marker = omega (arith, s.marker);
              none = s.lowest;
              pair = λ p e. let b = s.below p e in (omega (arith, b.0), omega (arith, b.1));
            },
            omega (arith, grow-short T rules S ok symbol z m),
          )

  -- what follows was drafted, each link once
  module _ {work : List ℕ} {clash : Bool} (g : Gathered G work clash) where
    counted : link_count work ≡ length (keep [] G)
    counted =
        sym (length-map (up_to (link_count work)) (draft_in work) ∙ length-up_to (link_count work)) ∙ ap length g.are

    grown-none : link_count work ≡ 0 → is_empty G ≡ true
    grown-none e = go (is_empty G) refl
      where
        some : (E : List Entry) {z : Entry} → z among E → 1 ≤ length E
        some [] m = elim m [ ]
        some (e ∷ E) m = omega arith

        go : (b : Bool) → is_empty G ≡ b → is_empty G ≡ true
        go true h = h
        go false h =
            let z = first_of G h in
            let k = keep-linked [] G z.0.link z.0.piece z.1 in
            absurd (omega (arith, some (keep [] G) k.1, counted))

    pub grown-empty : link_count work ≡ 0 → Refused file session symbol NoRun
    grown-empty e =
        refused R NoRun (λ room. no_run (table_of file) (session_of session) symbol room o.to (grown-none e))

    -- all of it is at the new depth
    pub grown-level : AllAt depth (drafts_of work)
    grown-level e m =
        let k = keep-among G (subst (λ (E : List Entry). e among E) g.are m) in
        grow-level (table_of file) (session_of session) symbol e k ∙ sym o.is

    -- what shaking is asked to draft
    over-is : shaken_over session depth (drafts_of work)
        ≡ (shaken (kept (table_of file) (session_of session) symbol)).entries
    over-is = rw (g.are, o.is)

    module _ (some : link_count work ≡ 0 → ⊥) where
      moves : Moves (table_of file) (session_of session) symbol
      moves = record { open-to = o.to; some = go G counted }
        where
          go : (E : List Entry) → link_count work ≡ length (keep [] E) → is_empty E ≡ false
          go [] e = absurd (some e)
          go (z ∷ E) e = refl

      pub grown-crowded : links_cap < length (shaken_over session depth (drafts_of work))
          → Refused file session symbol Crowded
      grown-crowded l =
          refused R Crowded
          (λ room. crowded (table_of file) (session_of session) symbol room moves (rw over-is at l))

      module _ {work' : List ℕ} (d : Drafted work' × (drafts_of work' ≡ shaken_over session depth (drafts_of work))) where
        fits : Fits (table_of file) (session_of session) symbol
        fits =
            let e = ap length (d.1 ∙ over-is) in
            let n = length-map (up_to (link_count work')) (draft_in work') ∙ length-up_to (link_count work') in
            record { moves = moves; few = omega (arith, d.0.few) }

        pub grown-conflict : clash ≡ true → Refused file session symbol Conflict
        grown-conflict c =
            refused R Conflict
            (λ room. conflicting (table_of file) (session_of session) symbol room fits (sym g.odds ∙ c))

        pub grown-left : clash ≡ false → Left file session symbol depth work'
        grown-left c =
            record {
              left = record { opened = o; some = moves.some; few = fits.few; one = sym g.odds ∙ c };
              drafts = d.0;
              are = d.1 ∙ over-is;
            }

  pub opened-crowded : links_cap < length (keep [] G) → Refused file session symbol Crowded
  opened-crowded l =
      let T = table_of file in
      let S = session_of session in
      let k = kept-fewer T S symbol R.sound.sound G [] (sym (append-nil G)) in
      refused R Crowded
      (λ room. crowded T S symbol room (record { open-to = o.to; some = some G l }) (omega arith))
    where
      some : (E : List Entry) → links_cap < length (keep [] E) → is_empty E ≡ false
      some [] h = absurd (omega arith)
      some (e ∷ E) h = refl
