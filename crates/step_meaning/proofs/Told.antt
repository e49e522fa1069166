-- What `step` told: from the number by links and the session by links its contract, which one answer meets; and one
-- answer meets that of `finish`. Assumes nothing.
use mathlib.Core.Path.{◌≡◌, refl, sym, ◌∙◌, ap, subst}
use mathlib.Core.Bool.{Bool, true, false}
use mathlib.Core.Logic.{◌↔◌}
use mathlib.Core.List.{List, ◌++◌}
use Prim.Native.Nat.{ℕ, ◌≤◌}
use native.Mathlib.Omega.{arith}
use lib.Dec.{eqb}
use lib.ListN.{length, drop, length-append, length-drop}
use lib.Seq.{drop_at}
use borrow.Author.Tests.{eqb-true, eqb-false, ltb-false}
use Rattle.words.specs.Lists.{◌among◌}
use Rattle.words.specs.Words.{Word, Bytes}
use Rattle.std.specs.Prelude.{Result}
use Rattle.numbers.specs.Numbers.{number_of, count_of}
use Rattle.numbers.specs.declared.Refusal.{Refusal}
use Rattle.numbers.proofs.Told.{answer-same}
use Rattle.meaning.specs.Table.{Table, edition1, GoodTable}
use Rattle.meaning.specs.Answers.{step_tests, finish_tests}
use Rattle.meaning.proofs.Tests.{absent, fails}
use Rattle.table.specs.File.{table_of}
use Rattle.table.specs.Good.{first_edition, GoodFile}
use Rattle.table.specs.Calls.{Judged}
use Rattle.table.proofs.Stands.{good-table}
use Rattle.table.proofs.Told.{judged-faulty}
use Rattle.session_meaning.specs.Sessions.{Session, Sound, trails, stands}
use Rattle.session_meaning.specs.Bytes.{session_of, bytes_of, SoundBytes}
use Rattle.session_meaning.proofs.RoundTrip.{decoded, encoded-sound, bytes_one}
use Rattle.step_meaning.specs.Stepping.{stepped, sent, link_number}
use Rattle.step_meaning.specs.Promises.{Numbered, number_on, sends_on, follows_on, Stepped, Answered, finish_on}
use Rattle.step_meaning.specs.Promises.{rest_on}
use Rattle.step_meaning.specs.Promises.{Finished, Ended}
use Rattle.step_meaning.proofs.Number.{number-exact}
use Rattle.step_meaning.proofs.Stepped.{stepped-depth, stepped-exact, sent-exact, stepped-sound}

-- the first two numbers, and the others

module _ (file session : List ℕ) (by-trails : ℕ) where
  pub numbered-bad : {number : ℕ} → Judged file number → (number ≡ 0 → ⊥) → Numbered file session by-trails number
  numbered-bad j some =
      let bad = judged-faulty j some in
      record {
        good-table = (λ f. absurd (f (j.bad.1 bad)), λ g. absurd (bad g));
        bad-table = j.bad;
        good-session = λ g. absurd (bad g);
        bad-session = λ g. absurd (bad g);
        otherwise = λ g. absurd (bad g);
      }

  module _ (good : GoodFile first_edition file) where
    pub numbered-two : (SoundBytes (table_of file) session → ⊥) → Numbered file session by-trails 2
    numbered-two bad =
        record {
          good-table = (λ f. good, λ g e. omega arith);
          bad-table = (λ e. absurd (omega arith), λ f. absurd (f good));
          good-session = λ g. (λ f. absurd (f refl), λ s. absurd (bad s));
          bad-session = λ g. (λ e. bad, λ f. refl);
          otherwise = λ g s. absurd (bad s);
        }

    pub numbered-by : SoundBytes (table_of file) session → (number : ℕ) → number ≡ by-trails → (number ≡ 1 → ⊥)
        → (number ≡ 2 → ⊥) → Numbered file session by-trails number
    numbered-by ok number e one two =
        record {
          good-table = (λ f. good, λ g. one);
          bad-table = (λ h. absurd (one h), λ f. absurd (f good));
          good-session = λ g. (λ f. ok, λ s. two);
          bad-session = λ g. (λ h. absurd (two h), λ f. absurd (f ok));
          otherwise = λ g s. e;
        }

  -- there is one number only
  pub numbered-unique : (m n : ℕ) → Numbered file session by-trails m → Numbered file session by-trails n → m ≡ n
  numbered-unique m n a b = table (eqb m 1) refl
    where
      sessions : GoodFile first_edition file → (t : Bool) → eqb m 2 ≡ t → m ≡ n
      sessions g true e =
          let two = eqb-true m 2 e in
          two ∙ sym ((b.bad-session g).1 ((a.bad-session g).0 two))
      sessions g false e =
          let ok = (a.good-session g).0 (eqb-false m 2 e) in
          a.otherwise g ok ∙ sym (b.otherwise g ok)

      table : (t : Bool) → eqb m 1 ≡ t → m ≡ n
      table true e = let one = eqb-true m 1 e in one ∙ sym (b.bad-table.1 (a.bad-table.0 one))
      table false e = sessions (a.good-table.0 (eqb-false m 1 e)) (eqb m 2) refl

module _ (file session : List ℕ) (symbol : ℕ) (out : List ℕ) where
  abbrev by-trails : ℕ
  by-trails = number_on file session symbol (length out)

  -- the contract from what was computed: of a refusal,
  told-no : {number count : ℕ} → Numbered file session by-trails number → count ≡ 0 → (number ≡ 0 → ⊥)
      → Stepped file session symbol out number count session out
  told-no n e some =
      record {
        numbered = n;
        refused = λ f. (e, refl, refl);
        counted = λ z. absurd (some z);
        written = λ z. absurd (some z);
        sound = λ z. absurd (some z);
        depth = λ z. absurd (some z);
        waiting = λ z. absurd (some z);
      }

  -- what `check` refuses, step refuses with the same answer
  pub told-bad-table : {number count : ℕ} → Judged file number → count ≡ 0 → (number ≡ 0 → ⊥)
      → Stepped file session symbol out number count session out
  told-bad-table j e some = told-no (numbered-bad file session by-trails j some) e some

  pub told-bad-session : GoodFile first_edition file → (SoundBytes (table_of file) session → ⊥)
      → Stepped file session symbol out 2 0 session out
  told-bad-session good bad = told-no (numbered-two file session by-trails good bad) refl (λ z. omega arith)

  module _ (good : GoodFile first_edition file) (ok : SoundBytes (table_of file) session) where
    abbrev T : Table
    T = table_of file

    abbrev S : Session
    S = session_of session

    numbered : {number : ℕ} → link_number T (length out) S symbol ≡ number → Numbered file session by-trails number
    numbered {number} e =
        let i = sym e ∙ number-exact T S symbol ok.sound (length out) in
        let tests = step_tests T (length out) (stands S) symbol in
        numbered-by file session by-trails good ok number i
        (λ h. absent 1 tests (omega arith) refl (sym i ∙ h)) (λ h. absent 2 tests (omega arith) refl (sym i ∙ h))

    pub told-refused : {number : ℕ} → link_number T (length out) S symbol ≡ number → (number ≡ 0 → ⊥)
        → Stepped file session symbol out number 0 session out
    told-refused e = told-no (numbered e) refl

    -- and of a step that was taken
    module _ (small : Bytes file) (taken : link_number T (length out) S symbol ≡ 0) where
      good-rules : GoodTable edition1 T
      good-rules = good-table {E = first_edition} (omega arith) file small good

      sound-after : Sound T (stepped T S symbol)
      sound-after = stepped-sound T S symbol ok.sound (length out) taken good-rules

      sent_is : sent T S symbol ≡ sends_on file session symbol
      sent_is = sent-exact T S symbol ok.sound (length out) taken

      pub told-taken : {count : ℕ} {session' out' : List ℕ} → count ≡ length (sent T S symbol)
          → session' ≡ bytes_of (stepped T S symbol) → out' ≡ sent T S symbol ++ drop count out
          → Stepped file session symbol out 0 count session' out'
      told-taken {count} {session'} c s o =
          let back : session_of session' ≡ stepped T S symbol =
          ap session_of s ∙ decoded T good-rules (stepped T S symbol) sound-after in
          record {
            numbered = numbered taken;
            refused = λ f. absurd (f refl);
            counted = λ z. c ∙ ap length sent_is;
            written = λ z. o ∙ ap (λ (w : Word). w ++ drop count out) sent_is;
            sound = λ z. rw s (encoded-sound T good-rules (stepped T S symbol) sound-after);
            depth = λ z. ap (λ (s : Session). s.depth) back ∙ stepped-depth T S symbol;
            waiting = λ z p.
                subst (λ (R : Session). (p among trails R) ↔ (p among (follows_on file session symbol).waiting))
                (sym back) (stepped-exact T S symbol ok.sound (length out) taken p);
          }

  -- two numbers that meet the contract on the same lists are the same, and so is all that they leave behind
  pub stepped-unique : {n n' c c' : ℕ} {s s' o o' : List ℕ}
      → Stepped file session symbol out n c s o → Stepped file session symbol out n' c' s' o'
      → (n ≡ n') × (c ≡ c') × (s ≡ s') × (o ≡ o')
  stepped-unique {n} {n'} {c} {c'} {s} {s'} {o} {o'} a b = go (eqb n 0) refl
    where
      same : n ≡ n'
      same = numbered-unique file session by-trails n n' a.numbered b.numbered

      go : (t : Bool) → eqb n 0 ≡ t → (n ≡ n') × (c ≡ c') × (s ≡ s') × (o ≡ o')
      go false e =
          let x = a.refused (eqb-false n 0 e) in
          let y = b.refused (λ h. eqb-false n 0 e (same ∙ h)) in
          (same, x.0 ∙ sym y.0, x.1 ∙ sym y.1, x.2 ∙ sym y.2)
      go true e =
          let z = eqb-true n 0 e in
          let z' = sym same ∙ z in
          let counts = a.counted z ∙ sym (b.counted z') in (
            same,
            counts,
            bytes_one (table_of file) s s' (a.sound z) (b.sound z')
                (λ p.
                let x = a.waiting z p in
                let y = b.waiting z' p in
                (λ m. y.1 (x.0 m), λ m. x.1 (y.0 m))),
            a.written z ∙ ap (λ (c : ℕ). sends_on file session symbol ++ drop c out) counts ∙ sym (b.written z'),
          )

  -- so are two answers
  pub answered-unique : (r q : Result ℕ Refusal) {s s' o o' : List ℕ} → Answered file session symbol out r s o
      → Answered file session symbol out q s' o' → (r ≡ q) × (s ≡ s') × (o ≡ o')
  answered-unique r q a b = let u = stepped-unique a b in (answer-same r q u.0 u.1, u.2, u.3)

-- an answer that is known by its number and count meets the contract of that number
pub answered : {file session : List ℕ} {symbol : ℕ} {out session' out' : List ℕ} (r : Result ℕ Refusal) {n k : ℕ}
    → (number_of r ≡ n) × (count_of r ≡ k) → Stepped file session symbol out n k session' out'
    → Answered file session symbol out r session' out'
answered r e s = rw (e.0, e.1) s

pub ended : {file session out out' : List ℕ} (r : Result ℕ Refusal) {n k : ℕ} → (number_of r ≡ n) × (count_of r ≡ k)
    → Finished file session out n k out' → Ended file session out r out'
ended r e s = rw (e.0, e.1) s

-- finish: two numbers that meet its contract on the same lists are the same; so are two answers
pub finished-unique : (file session out : List ℕ) {n n' c c' : ℕ} {o o' : List ℕ} → Finished file session out n c o
    → Finished file session out n' c' o' → (n ≡ n') × (c ≡ c') × (o ≡ o')
finished-unique file session out {n} {n'} {c} {c'} {o} {o'} a b = go (eqb n 0) refl
  where
    same : n ≡ n'
    same = numbered-unique file session (finish_on file session (length out)) n n' a.numbered b.numbered

    go : (t : Bool) → eqb n 0 ≡ t → (n ≡ n') × (c ≡ c') × (o ≡ o')
    go false e =
        let x = a.refused (eqb-false n 0 e) in
        let y = b.refused (λ h. eqb-false n 0 e (same ∙ h)) in
        (same, x.0 ∙ sym y.0, x.1 ∙ sym y.1)
    go true e =
        let z = eqb-true n 0 e in
        let z' = sym same ∙ z in
        let counts = a.counted z ∙ sym (b.counted z') in (
          same,
          counts,
          a.written z ∙ ap (λ (c : ℕ). rest_on file session ++ drop c out) counts ∙ sym (b.written z'),
        )

pub ended-unique : (file session out : List ℕ) (r q : Result ℕ Refusal) {o o' : List ℕ} → Ended file session out r o
    → Ended file session out q o' → (r ≡ q) × (o ≡ o')
ended-unique file session out r q a b =
    let u = finished-unique file session out a b in
    (answer-same r q u.0 u.1, u.2)

-- "asking twice gives the same": also where the second is lent what the first has written
pub finish-again : (file session out : List ℕ) {n n' c c' : ℕ} {o o' : List ℕ} → Finished file session out n c o
    → Finished file session o n' c' o' → (n ≡ n') × (c ≡ c') × (o ≡ o')
finish-again file session out {n} {n'} {c} {c'} {o} {o'} a b = finished-unique file session o (go (eqb n 0) refl) b
  where
    rest : Word
    rest = rest_on file session

    -- an accepted finish had room
    room : n ≡ 0 → length rest ≤ length out
    room z =
        let good = a.numbered.good-table.0 (λ h. omega arith) in
        let ok = (a.numbered.good-session good).0 (λ h. omega arith) in
        let tests = finish_tests (table_of file) (length out) (stands (session_of session)) in
        let e = sym (a.numbered.otherwise good ok) ∙ z in
        ltb-false (length out) (length rest) (fails tests refl e).1.1.1.0

    go : (t : Bool) → eqb n 0 ≡ t → Finished file session o n c o
    go false e =
        let x = a.refused (eqb-false n 0 e) in
        subst (λ (l : List ℕ). Finished file session l n c o) (sym x.1) a
    go true e =
        let z = eqb-true n 0 e in
        let w = a.written z in
        let l : length out ≡ length o =
        omega (arith, ap length w, length-append rest (drop c out), length-drop c out, a.counted z, room z) in
        record {
          numbered = subst (λ (k : ℕ). Numbered file session (finish_on file session k) n) l a.numbered;
          refused = λ f. absurd (f z);
          counted = a.counted;
          written = λ z.
              w ∙ ap (λ (l : List ℕ). rest ++ l)
              (sym (ap (drop c) w ∙ drop_at rest (drop c out) c (sym (a.counted z))));
        }
