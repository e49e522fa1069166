-- One answer meets what join promises, and demand 3 holds of every file that meets it. Assumes nothing.
use mathlib.Core.Path.{◌≡◌, refl, sym, ◌∙◌, ap, subst}
use mathlib.Core.Bool.{Bool, true, false}
use mathlib.Core.List.{List, ◌++◌}
use Prim.Native.Nat.{ℕ}
use native.Mathlib.Omega.{arith}
use lib.Dec.{eqb}
use lib.ListN.{length, take, drop}
use lib.Seq.{take-append_seam}
use borrow.Author.Tests.{eqb-true, eqb-false}
use Rattle.words.specs.Words.{Bytes}
use Rattle.meaning.specs.Table.{Table, edition1, GoodTable}
use Rattle.meaning.specs.Joining.{join_number}
use Rattle.table.specs.File.{table_of}
use Rattle.table.specs.Good.{GoodFile, first_edition as edition}
use Rattle.table.proofs.Stands.{good-table}
use Rattle.join_meaning.specs.Promises.{Blames, joined_file, Joins, Hopped}
use Rattle.join_meaning.proofs.JoinedFile.{joined-file, joined_bytes, joined-allows}

-- whether an answer names a table is decided
blames : (number which n : ℕ) {C : Type 0} → (Blames number which n → C) → ((Blames number which n → ⊥) → C) → C
blames number which n {C} does not = go (eqb number 1) refl (eqb which n) refl
  where
    go : (a : Bool) → eqb number 1 ≡ a → (b : Bool) → eqb which n ≡ b → C
    go true e true f = does (eqb-true number 1 e, eqb-true which n f)
    go true e false f = not (λ h. eqb-false which n f h.1)
    go false e b f = not (λ h. eqb-false number 1 e h.0)

module _ {one two out : List ℕ} where
  -- two answers that meet the promise on the same lists are the same, and so is all that they leave behind
  pub joins-unique : {n m v w c d : ℕ} {x y : List ℕ} → Joins one two out n v c x → Joins one two out m w d y
      → (n ≡ m) × (v ≡ w) × (c ≡ d) × (x ≡ y)
  joins-unique {n} {m} {v} {w} {c} {d} {x} {y} a b = with-numbers (numbers)
    where
      numbers : (n ≡ m) × (v ≡ w)
      numbers =
          blames n v 1
          (λ h. let g = b.bad-first.1 (a.bad-first.0 h) in (h.0 ∙ sym g.0, h.1 ∙ sym g.1))
          (λ f.
          let one-good = a.good-first.0 f in
          blames n v 2
          (λ h.
          let g = (b.bad-second one-good).1 ((a.bad-second one-good).0 h) in
          (h.0 ∙ sym g.0, h.1 ∙ sym g.1))
          (λ k.
          let two_good = (a.good-second one-good).0 k in
          let p = a.otherwise one-good two_good in
          let q = b.otherwise one-good two_good in
          (p.0 ∙ sym q.0, p.1 ∙ sym q.1)))

      with-numbers : (n ≡ m) × (v ≡ w) → (n ≡ m) × (v ≡ w) × (c ≡ d) × (x ≡ y)
      with-numbers e = go (eqb n 0) refl
        where
          go : (t : Bool) → eqb n 0 ≡ t → (n ≡ m) × (v ≡ w) × (c ≡ d) × (x ≡ y)
          go true z =
              let i = eqb-true n 0 z in
              let j = sym e.0 ∙ i in
              let counts = a.counted i ∙ sym (b.counted j) in (
                e.0,
                e.1,
                counts,
                a.written i ∙ ap (λ (c : ℕ). joined_file one two ++ drop c out) counts ∙ sym (b.written j),
              )
          go false z =
              let i = a.refused (eqb-false n 0 z) in
              let j = b.refused (λ h. eqb-false n 0 z (e.0 ∙ h)) in
              (e.0, e.1, i.0 ∙ sym j.0, i.1 ∙ sym j.1)

  -- the file that a taken join wrote is good, and allows what the second allows on some output of the first
  pub demand-3 : Bytes one → Bytes two → {which count : ℕ} {out' : List ℕ} → Joins one two out 0 which count out'
      → Hopped one two (take count out')
  demand-3 Small-one small-two {which} {count} {out'} j =
      let file : take count out' ≡ joined_file one two =
      (λ i. take (j.counted refl i) (j.written refl i))
      ∙ take-append_seam (joined_file one two) (drop count out) in
      subst (Hopped one two) (sym file)
      (record {
        good = joined-file A B good-a good-b (length out) taken;
        bytes = joined_bytes A B good-a good-b (length out) taken;
        allows = joined-allows A B good-a good-b (length out) taken;
      })
    where
      A : Table
      A = table_of one

      B : Table
      B = table_of two

      one-good : GoodFile edition one
      one-good = j.good-first.0 (λ h. let e = h.0 in omega arith)

      two_good : GoodFile edition two
      two_good = (j.good-second one-good).0 (λ h. let e = h.0 in omega arith)

      good-a : GoodTable edition1 A
      good-a = good-table {E = edition} (omega arith) one Small-one one-good

      good-b : GoodTable edition1 B
      good-b = good-table {E = edition} (omega arith) two small-two two_good

      taken : join_number edition1 (length out) A B ≡ 0
      taken = sym (j.otherwise one-good two_good).0
