-- "1,024 bytes of output, which always suffice": at most 512 wait and a word has at most 255, so a step writes at most
-- 767 and finish at most 512. Assumes nothing.
use mathlib.Core.Path.{◌≡◌, refl, sym, ◌∙◌, ap}
use mathlib.Core.Bool.{Bool, true, false, cond, ◌&&◌, ◌||◌, false≢true}
use mathlib.Core.Logic.{◌⊎◌, inl, inr}
use mathlib.Core.List.Memᴰ
use mathlib.Core.List.{List, [], ◌∷◌}
use Prim.Native.Nat.{ℕ, ◌<◌, ◌≤◌}
use native.Mathlib.Omega.{arith}
use lib.Dec.{eqb, ltb}
use lib.ListN.{length, length-append}
use borrow.Author.Tests.{eq-eqb, ltb-true}
use Rattle.words.specs.Lists.{◌among◌, each, only, any_of}
use Rattle.words.specs.Words.{Word, Bytes, common}
use Rattle.words.proofs.Lists.{both, either, any-in, any_out, choices-out, passing-out}
use Rattle.words.proofs.Common.{common-begins}
use Rattle.meaning.specs.Table.{Table, edition1, GoodTable}
use Rattle.meaning.specs.Living.{Place, can, goes, moved}
use Rattle.meaning.specs.Answers.{first as number, outputs, sending, accepts, accepted, step_tests, finish_tests}
use Rattle.table.specs.File.{table_of}
use Rattle.table.specs.Good.{first_edition, GoodFile}
use Rattle.table.proofs.Stands.{good-table}
use Rattle.session_meaning.specs.Sessions.{Session, Sound, trails, stands}
use Rattle.session_meaning.specs.Bytes.{session_of, SoundBytes}
use Rattle.session_meaning.proofs.Listed.{trails-exact}
use Rattle.step_meaning.specs.Promises.{Numbered, number_on, finish_on, Stepped, Finished}

-- a number is given only where its test passes
given : (n : ℕ) (k : List (Bool × ℕ)) → 0 < n → number k ≡ n → any_of (λ c. eqb c.1 n && c.0) k ≡ true
given n [] l e = absurd (omega arith)
given n (c ∷ k) l e = go c.0 refl e (given n k l)
  where
    test : Bool × ℕ → Bool
    test c = eqb c.1 n && c.0

    go : (b : Bool) → c.0 ≡ b → cond b c.1 (number k) ≡ n → (number k ≡ n → any_of test k ≡ true)
        → any_of test (c ∷ k) ≡ true
    go true d e ih = any-in test (c ∷ k) (Memᴰ.head refl) (both (eq-eqb c.1 n e) d)
    go false d e ih = let x = any_out test k (ih e) in any-in test (c ∷ k) (Memᴰ.tail x.1) x.2

-- where that is the last test, of what is too short
passed : (m n : ℕ) → (ltb m n || false) ≡ true → m < n
passed m n e = go (either (ltb m n) false e)
  where
    go : (ltb m n ≡ true) ⊎ (false ≡ true) → m < n
    go (inl t) = ltb-true m n t
    go (inr t) = absurd (false≢true t)

-- what words begin with in common is no longer than they are
common-short : (n : ℕ) (l : List Word) → ((w : Word) → w among l → length w ≤ n) → length (common l) ≤ n
common-short n [] h = omega arith
common-short n (x ∷ l) h =
    let p = common-begins (x ∷ l) (Memᴰ.head refl) in
    omega (
      arith,
      ap length p.joins,
      length-append (common (x ∷ l)) p.rest,
      h x (Memᴰ.head refl),
    )

module _ (T : Table) (good : GoodTable edition1 T) (S : Session) (ok : Sound T S) where
  waits-short : (p : Place) → p among trails S → length p.output ≤ 512
  waits-short p m =
      omega (
        arith,
        ok.short p.trail p.output ((trails-exact S p.trail p.output).0 m),
        good.waiting_cap,
      )

  sending-short : (a : ℕ) → length (sending (moved T (trails S) a)) ≤ 767
  sending-short a = common-short 767 (outputs (moved T (trails S) a)) short
    where
      short : (w : Word) → w among outputs (moved T (trails S) a) → length w ≤ 767
      short w m =
          let x = Memᴰ.of_map (λ p. p.output) (moved T (trails S) a) m in
          let c = choices-out (can T a) (goes T a) (trails S) T.rows x.1 in
          omega (
            arith,
            ap length (sym x.2 ∙ ap (λ (p : Place). p.output) c.is),
            length-append c.one.output c.other.word,
            waits-short c.one c.first,
            (good.row c.other c.second).short,
          )

  rest-short : length (common (accepted T (trails S))) ≤ 512
  rest-short = common-short 512 (accepted T (trails S)) short
    where
      short : (w : Word) → w among accepted T (trails S) → length w ≤ 512
      short w m =
          let x = Memᴰ.of_map (λ p. p.output) (each (λ p. only (accepts T p.trail) p) (trails S)) m in
          let p = passing-out (λ p. accepts T p.trail) (trails S) x.1 in
          omega (arith, ap length x.2, waits-short x.0 p.0)

-- the number 10 where the table is good and the session sound
module _ (file : List ℕ) (small : Bytes file) (session : List ℕ) (good : GoodFile first_edition file)
    (ok : SoundBytes (table_of file) session) (room : ℕ) where
  abbrev T : Table
  T = table_of file

  abbrev S : Session
  S = session_of session

  rules : GoodTable edition1 T
  rules = good-table {E = first_edition} (omega arith) file small good

  pub step-enough : 767 ≤ room → (symbol : ℕ) → number_on file session symbol room ≡ 10 → ⊥
  step-enough le symbol e =
      let n = length (sending (moved T (trails S) symbol)) in
      let lt = passed room n (given 10 (step_tests T room (stands S) symbol) (omega arith) e) in
      omega (arith, sending-short T rules S ok.sound symbol)

  pub finish-enough : 512 ≤ room → finish_on file session room ≡ 10 → ⊥
  finish-enough le e =
      let n = length (common (accepted T (trails S))) in
      let lt = passed room n (given 10 (finish_tests T room (stands S)) (omega arith) e) in
      omega (arith, rest-short T rules S ok.sound)

-- no answer that meets its contract is 10, whatever the file and the session: without these two it is 1 or 2
never-10 : {file session : List ℕ} {by-trails number : ℕ} → Numbered file session by-trails number
    → (GoodFile first_edition file → SoundBytes (table_of file) session → by-trails ≡ 10 → ⊥) → number ≡ 10 → ⊥
never-10 n h e =
    let good = n.good-table.0 (λ i. omega arith) in
    let ok = (n.good-session good).0 (λ i. omega arith) in
    h good ok (sym (n.otherwise good ok) ∙ e)

module _ (file : List ℕ) (small : Bytes file) (session out : List ℕ) (room : 1024 ≤ length out) where
  pub stepped-enough : {symbol number count : ℕ} {session' out' : List ℕ}
      → Stepped file session symbol out number count session' out' → number ≡ 10 → ⊥
  stepped-enough {symbol} c =
      never-10 c.numbered (λ good ok. step-enough file small session good ok (length out) (omega arith) symbol)

  pub finished-enough : {number count : ℕ} {out' : List ℕ} → Finished file session out number count out'
      → number ≡ 10 → ⊥
  finished-enough c =
      never-10 c.numbered (λ good ok. finish-enough file small session good ok (length out) (omega arith))
