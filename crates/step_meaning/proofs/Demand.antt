-- Demand 2 as one theorem over the contracts of begin, step and finish: a session that was served holds the runs over the
-- symbols taken, less what was sent. Assumes nothing.
use mathlib.Core.Path.{◌≡◌, refl, sym, ◌∙◌, ap, subst}
use mathlib.Core.Bool.{Bool, true, false, cond}
use mathlib.Core.Logic.{◌↔◌}
use mathlib.Core.List.{List, [], ◌∷◌, ◌++◌, append-nil}
use Prim.Native.Nat.{ℕ, ◌≤◌}
use native.Mathlib.Omega.{arith}
use lib.Dec.{eqb}
use lib.ListN.{length, take, drop}
use lib.Seq.{take-append_seam}
use borrow.Author.Tests.{eqb-false}
use Rattle.words.specs.Words.{Word, Bytes}
use Rattle.meaning.specs.Table.{Table}
use Rattle.meaning.specs.Sentences.{First, Only, step_sentences, finish_sentences}
use Rattle.meaning.proofs.Holds.{Holds, holds-depth, begun-holds, follows-holds}
use Rattle.meaning.proofs.Step.{step-exact}
use Rattle.meaning.proofs.Finish.{finish-exact, finish-only}
use Rattle.table.specs.File.{table_of}
use Rattle.table.specs.Good.{first_edition, GoodFile}
use Rattle.table.proofs.Stands.{good-table}
use Rattle.session_meaning.specs.Sessions.{stands}
use Rattle.session_meaning.specs.Bytes.{session_of, SoundBytes}
use Rattle.step_meaning.specs.Promises.{Stepped, Finished, sends_on, finish_on, rest_on}
use Rattle.step_meaning.specs.Serving.{Served, begun, taken, refused, Demand}

-- a message all taken, and the session holds the runs over it
record Behind (file : List ℕ) (u z : Word) (session : List ℕ) : Type 0 where
  good : GoodFile first_edition file
  sound : SoundBytes (table_of file) session
  holds : Holds (table_of file) u z (stands (session_of session))

-- what was written is read back by its count
read_back : (w rest : Word) {count : ℕ} {out : List ℕ} → count ≡ length w → out ≡ w ++ rest → take count out ≡ w
read_back w rest c e = (λ i. take (c i) (e i)) ∙ take-append_seam w rest

behind : {file : List ℕ} → Bytes file → {u z : Word} {session : List ℕ} → Served file u z session
    → Behind file u z session
behind {file} small (begun b e) =
    let good = b.judged.good.0 e in
    record {
      good = good;
      sound = b.sound e;
      holds = rw (b.stands e) (begun-holds (good-table {E = first_edition} (omega arith) file small good));
    }
behind {file} small (taken {u} {z} {session} {out} {session'} {out'} {a} {number} {count} s c e) =
    let b = behind small s in
    let T = table_of file in
    let zero = sym (c.numbered.otherwise b.good b.sound) ∙ e in
    let sent = read_back (sends_on file session a) (drop count out) (c.counted e) (c.written e) in
    let n = stands (session_of session') in
    let same = c.waiting e in
    record {
      good = b.good;
      sound = c.sound e;
      holds =
          subst (λ (y : Word). Holds T (u ++ a ∷ []) (z ++ y) n) (sym sent)
          (follows-holds b.holds a (length out) zero {n = n} (c.depth e) (λ p. ((same p).1, (same p).0)));
    }
behind {file} small (refused {u} {z} {session} {out} {session'} {out'} {a} {number} {count} s c f) =
    let r = c.refused f in
    let same : z ++ take count out' ≡ z = ap (λ (n : ℕ). z ++ take n out') r.0 ∙ append-nil z in
    subst (λ (y : Word). Behind file u y session') (sym same) (subst (Behind file u z) (sym r.1) (behind small s))

-- finish with an output, by its number and what it writes
gives : (n : ℕ) (v w : Word) → (◌≡◌ {A = ℕ × Word} (cond (eqb n 0) (n, v) (n, [])) (0, w)) ↔ ((n ≡ 0) × (v ≡ w))
gives n v w = (go (eqb n 0) refl, λ x i. cond (eqb (x.0 i) 0) (x.0 i, x.1 i) (x.0 i, []))
  where
    go : (b : Bool) → eqb n 0 ≡ b → ◌≡◌ {A = ℕ × Word} (cond b (n, v) (n, [])) (0, w) → (n ≡ 0) × (v ≡ w)
    go true d e = (ap (λ (x : ℕ × Word). x.0) e, ap (λ (x : ℕ × Word). x.1) e)
    go false d e = absurd (eqb-false n 0 d (ap (λ (x : ℕ × Word). x.0) e))

module _ {file : List ℕ} {u z : Word} {session : List ℕ} (b : Behind file u z session) where
  abbrev T : Table
  T = table_of file

  steps : {a number count : ℕ} {out session' out' : List ℕ} → Stepped file session a out number count session' out'
      → (n : ℕ) → (number ≡ n) ↔ First (step_sentences T (length out) u a) n
  steps {a} {out = out} c n =
      subst (λ (k : ℕ). (k ≡ n) ↔ First (step_sentences T (length out) u a) n)
      (sym (c.numbered.otherwise b.good b.sound))
      (step-exact b.holds (length out) a n)

  module _ {number count : ℕ} {out out' : List ℕ} (c : Finished file session out number count out') where
    number_is : number ≡ finish_on file session (length out)
    number_is = c.numbered.otherwise b.good b.sound

    finishes : (n : ℕ) → (number ≡ n) ↔ First (finish_sentences T (length out) u) n
    finishes n =
        subst (λ (k : ℕ). (k ≡ n) ↔ First (finish_sentences T (length out) u) n) (sym number_is)
        (finish-exact b.holds (length out) n)

    rest-is : number ≡ 0 → take count out' ≡ rest_on file session
    rest-is e = read_back (rest_on file session) (drop count out) (c.counted e) (c.written e)

    accepts : (w : Word) → ((number ≡ 0) × (take count out' ≡ w)) ↔ (Only T u (z ++ w) × (length w ≤ length out))
    accepts w =
        let o = finish-only b.holds (length out) w in
        let g = gives (finish_on file session (length out)) (rest_on file session) w in (
          λ x. o.0 (g.1 (sym number_is ∙ x.0, sym (rest-is x.0) ∙ x.1)),
          λ x.
              let y = g.0 (o.1 x) in
              let e = number_is ∙ y.0 in
              (e, rest-is e ∙ y.1),
        )

-- demand 2: of all calls that meet their contracts, from a begin that was taken on
pub demand-2 : (file : List ℕ) → Bytes file → {u z : Word} {session : List ℕ} → Served file u z session
    → Demand file u z session
demand-2 file small s =
    let b = behind small s in
    record {
      good = b.good;
      sound = b.sound;
      agreed = b.holds.agreed;
      depth = holds-depth b.holds;
      steps = steps b;
      finishes = finishes b;
      accepts = accepts b;
    }
