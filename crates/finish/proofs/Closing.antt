-- The end of a message: its number, test by test, and what finish told. Assumes nothing.
use mathlib.Core.Path.{◌≡◌, refl, sym, ◌∙◌, ap}
use mathlib.Core.Bool.{Bool, true, false, cond, not, true≢false}
use mathlib.Core.Logic.{◌⊎◌, inl, inr}
use mathlib.Core.List.Memᴰ
use mathlib.Core.List.{List, ◌++◌}
use Prim.Native.Nat.{ℕ, ◌<◌, ◌≤◌}
use native.Mathlib.Omega.{arith}
use native.Mathlib.Nat.{eq-or-lt_of_le}
use lib.Dec.{ltb}
use lib.ListN.{length, drop}
use borrow.Author.Tests.{lt-ltb, le-ltb, eq-eqb}
use Rattle.std.specs.Prelude.{None}
use Rattle.words.specs.Lists.{◌among◌, any_of, is_empty}
use Rattle.words.specs.Words.{Word, common}
use Rattle.words.specs.Order.{same_word}
use Rattle.words.proofs.Lists.{empty-in, below_or}
use Rattle.words.proofs.Common.{common-all}
use Rattle.words.proofs.Exact.{empty-exact, exact_same, no-exact}
use Rattle.words.specs.LittleEndian.{byte}
use Rattle.numbers.specs.Numbers.{refusal_number}
use Rattle.numbers.specs.declared.Refusal.{Refusal}
use Rattle.numbers.proofs.Told.{refusal-some}
use Rattle.meaning.specs.Table.{Table, edition1, GoodTable}
use Rattle.meaning.specs.Trails.{ground, Link, link_of}
use Rattle.meaning.specs.Answers.{Moment, accepted, finish_tests, finish_number}
use Rattle.meaning.proofs.Tests.{absent}
use Rattle.meaning.proofs.Finish.{differ-exact, agreeing}
use Rattle.table.specs.File.{table_of}
use Rattle.table.specs.Good.{first_edition}
use Rattle.table.specs.Calls.{Judged}
use Rattle.sets.specs.Sets.{members}
use Rattle.sets.proofs.Members.{members-exact}
use Rattle.table.proofs.Stands.{good-table}
use Rattle.session_meaning.specs.Sessions.{Entry, entry, Session, trails, stands}
use Rattle.session_meaning.specs.Bytes.{link_count, link_at, piece_at, session_of}
use Rattle.session_meaning.proofs.ByPlace.{has-at, at_has}
use Rattle.step_meaning.specs.Promises.{Numbered, Proper, finish_on, Finished}
use Rattle.finish.specs.Finishing.{final_at, FirstFinal, FoundFinal, Like}
use Rattle.step_meaning.proofs.Told.{numbered-bad, numbered-by}
use Rattle.finish.proofs.Accepting.{accepted-in, accepted-out, grounded}

-- the number, test by test
module _ (T : Table) (room : ℕ) (m : Moment) where
  abbrev A : List Word
  A = accepted T m.waiting

  abbrev differ : Bool
  differ = any_of (λ v. any_of (λ w. not (same_word v w)) A) A

  module _ (flat : m.depth ≡ 0) where
    not-final : ((w : Word) → w among A → ⊥) → finish_number T room m ≡ 12
    not-final none = rw (eq-eqb m.depth 0 flat, empty-in A none)

    module _ {x : Word} (i : x among A) where
      from-13 : finish_number T room m ≡ cond differ 13 (cond (ltb room (length (common A))) 10 0)
      from-13 =
          let some : is_empty A ≡ false = exact_same (empty-exact A) (no-exact (λ f. f x i)) in
          rw (eq-eqb m.depth 0 flat, some)

      ambiguous : (((w : Word) → w among A → w ≡ x) → ⊥) → finish_number T room m ≡ 13
      ambiguous f = from-13 ∙ go differ refl
        where
          go : (b : Bool) → differ ≡ b → ◌≡◌ {A = ℕ} (cond b 13 (cond (ltb room (length (common A))) 10 0)) 13
          go true e = refl
          go false e = absurd (f (λ w j. sym (agreeing A e w j) ∙ agreeing A e x i))

      module _ (all : (w : Word) → w among A → w ≡ x) where
        alike : differ ≡ false
        alike =
            exact_same (differ-exact A)
            (no-exact (λ d. d.2.2 (all d.0 d.1 ∙ sym (all d.2.0 d.2.1))))

        from-10 : finish_number T room m ≡ cond (ltb room (length x)) 10 0
        from-10 = from-13 ∙ rw (alike, common-all A i all)

        no_room : room < length x → finish_number T room m ≡ 10
        no_room l = from-10 ∙ rw (lt-ltb room (length x) l)

        taken : length x ≤ room → finish_number T room m ≡ 0
        taken l = from-10 ∙ rw (le-ltb room (length x) l)

-- the contract, from what was computed
module _ (file session out : List ℕ) where
  abbrev by-trails : ℕ
  by-trails = finish_on file session (length out)

  ended-no : {number count : ℕ} → Numbered file session by-trails number → count ≡ 0 → (number ≡ 0 → ⊥)
      → Finished file session out number count out
  ended-no n e some =
      record {
        numbered = n;
        refused = λ f. (e, refl);
        counted = λ z. absurd (some z);
        written = λ z. absurd (some z);
      }

  -- what `check` refuses, finish refuses with the same answer
  pub ended-bad-table : (r : Refusal) → Judged file (refusal_number r)
      → Finished file session out (refusal_number r) 0 out
  ended-bad-table r j = ended-no (numbered-bad file session by-trails j (refusal-some r)) refl (refusal-some r)

  module _ (proper : Proper file session) where
    numbered : {number : ℕ} → by-trails ≡ number → Numbered file session by-trails number
    numbered {number} e =
        let tests = finish_tests (table_of file) (length out) (stands (session_of session)) in
        numbered-by file session by-trails proper.good proper.sound number (sym e)
        (λ h. absent 1 tests (omega arith) refl (e ∙ h)) (λ h. absent 2 tests (omega arith) refl (e ∙ h))

    ended-refused : {number : ℕ} → by-trails ≡ number → (number ≡ 0 → ⊥) → Finished file session out number 0 out
    ended-refused e = ended-no (numbered e) refl

-- what is known of a session at depth 0, with the set of final states
pub record Closed (file session : List ℕ) (finals : ℕ) : Type 0 where
  pub proper : Proper file session
  pub flat : byte session 0 ≡ 0
  pub are : members finals ≡ (table_of file).final

-- what waits, link by link
module _ {file session : List ℕ} {finals : ℕ} (c : Closed file session finals) where
  abbrev proper : Proper file session
  proper = c.proper

  abbrev T : Table
  T = table_of file

  abbrev S : Session
  S = session_of session

  abbrev W : List Word
  W = accepted T (trails S)

  rules : GoodTable edition1 T
  rules = good-table {E = first_edition} (omega arith) file proper.small proper.good

  state-small : (i : ℕ) → i < link_count session → (link_at session i).here.state < 64
  state-small i l =
      omega (arith, rules.states.1, (proper.sound.sound.ranges _ _ (has-at session i l)).state)

  piece-in : (i : ℕ) → i < link_count session → final_at finals session i ≡ true → piece_at session i among W
  piece-in i l f =
      let h = has-at session i l in
      let g = grounded T S c.flat proper.sound.sound.lies (link_at session i) (piece_at session i) h in
      let q = (link_at session i).here.state in
      let low = Memᴰ.cast (ap (λ (k : Link). entry k (piece_at session i)) (sym g)) h in
      accepted-in T S c.flat q (piece_at session i) low
      (rw c.are at ((members-exact finals q (state-small i l)).1 f))

  piece-out : (w : Word) → w among W → (i : ℕ) × (i < link_count session) × (final_at finals session i ≡ true)
      × (w ≡ piece_at session i)
  piece-out w m =
      let a = accepted-out T S c.flat w m in
      let o = at_has session (link_of (ground a.0)) w a.1 in
      let s : (link_at session o.0).here.state ≡ a.0 = ap (λ (e : Entry). e.link.here.state) o.2 in (
        o.0,
        o.1,
        (members-exact finals (link_at session o.0).here.state (state-small o.0 o.1)).0
            (rw (c.are, s) a.2),
        sym (ap (λ (e : Entry). e.piece) o.2),
      )

  pub ended-not-final : (out : List ℕ) → FoundFinal finals session None → Finished file session out 12 0 out
  ended-not-final out f =
      ended-refused file session out proper (not-final T (length out) (stands S) c.flat none) (λ z. omega arith)
    where
      none : (w : Word) → w among W → ⊥
      none w m =
          let o = piece-out w m in
          true≢false (sym o.2 ∙ f o.0 o.1)

-- where a link accepts, the first
module _ {file session : List ℕ} {finals i : ℕ} (c : Closed file session finals)
    (f : FirstFinal finals session i) where
  abbrev x : Word
  x = piece_at session i

  abbrev m : Moment
  m = stands (session_of session)

  waits : x among accepted (table_of file) m.waiting
  waits = piece-in c i f.within f.here

  abbrev All : Type 0
  All = (w : Word) → w among accepted (table_of file) m.waiting → w ≡ x

  all-like : Like finals session i → All
  all-like k w a =
      let o = piece-out c w a in
      o.3 ∙ go o.0 o.1 o.2 (below_or o.0 i)
    where
      later : (j : ℕ) → j < link_count session → final_at finals session j ≡ true → (i ≡ j) ⊎ (i < j)
          → piece_at session j ≡ x
      later j l t (inl e) = ap (piece_at session) (sym e)
      later j l t (inr lt) = (k.each j lt l).same t

      go : (j : ℕ) → j < link_count session → final_at finals session j ≡ true → (j < i) ⊎ (i ≤ j) → piece_at session j ≡ x
      go j l t (inl lt) = absurd (true≢false (sym t ∙ f.before j lt))
      go j l t (inr le) = later j l t (eq-or-lt_of_le le)

  like-all : All → Like finals session i
  like-all h =
      record {
        each = λ j lt l.
            record { same = λ t. h (piece_at session j) (piece-in c j l t) };
      }

  module _ (out : List ℕ) where
    pub ended-ambiguous : (Like finals session i → ⊥) → Finished file session out 13 0 out
    ended-ambiguous n =
        ended-refused file session out c.proper
        (ambiguous (table_of file) (length out) m c.flat waits (λ h. n (like-all h))) (λ z. omega arith)

    module _ (k : Like finals session i) where
      pub ended-no-room : length out < length x → Finished file session out 10 0 out
      ended-no-room l =
          ended-refused file session out c.proper
          (no_room (table_of file) (length out) m c.flat waits (all-like k) l) (λ z. omega arith)

      pub ended-taken : {rest out' : List ℕ} → rest ≡ x → length rest ≤ length out
          → out' ≡ rest ++ drop (length rest) out → Finished file session out 0 (length rest) out'
      ended-taken {rest} e l w =
          let agree : common (accepted (table_of file) m.waiting) ≡ rest = common-all _ waits (all-like k) ∙ sym e in
          let n = taken (table_of file) (length out) m c.flat waits (all-like k) (rw e at l) in
          record {
            numbered = numbered file session out c.proper n;
            refused = λ h. absurd (h refl);
            counted = λ z. ap length (sym agree);
            written = λ z. w ∙ ap (λ (v : Word). v ++ drop (length rest) out) (sym agree);
          }
