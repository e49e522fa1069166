-- The number of joining, test by test, and what `join` told. Assumes nothing.
use mathlib.Core.Path.{◌≡◌, refl, sym, ◌∙◌}
use mathlib.Core.Bool.{true, false}
use mathlib.Core.List.{List, ◌++◌}
use Prim.Native.Nat.{ℕ, ◌<◌, ◌≤◌}
use native.Mathlib.Omega.{arith}
use lib.ListN.{length, drop}
use borrow.Author.Tests.{lt-ltb, le-ltb}
use Rattle.words.proofs.Exact.{exact_same, no-exact}
use Rattle.meaning.specs.Table.{Table, edition1}
use Rattle.meaning.specs.Nesting.{Nests, nests}
use Rattle.meaning.specs.Joining.{joined, file_size, large, join_tests, join_number}
use Rattle.meaning.specs.Sentences.{TooLarge}
use Rattle.meaning.proofs.Nesting.{nests-exact}
use Rattle.meaning.proofs.JoinNumber.{large-exact}
use Rattle.meaning.proofs.Tests.{absent}
use Rattle.table.specs.File.{table_of}
use Rattle.table.specs.Good.{GoodFile, first_edition as edition}
use Rattle.join_meaning.specs.Promises.{joined_file, Joins}
use Rattle.join_meaning.proofs.Laid.{file-length}

module _ (A B : Table) (room : ℕ) where
  not-nested : (Nests B.class A → ⊥) → join_number edition1 room A B ≡ 14
  not-nested n =
      let no : nests B.class A ≡ false = exact_same (nests-exact B.class A) (no-exact n) in
      rw no

  module _ (nest : Nests B.class A) where
    nested : nests B.class A ≡ true
    nested = (nests-exact B.class A).0 nest

    too_large : TooLarge edition1 A B → join_number edition1 room A B ≡ 15
    too_large l = rw (nested, (large-exact edition1 A B).0 l)

    module _ (small : TooLarge edition1 A B → ⊥) where
      fits : large edition1 A (joined A B) ≡ false
      fits = exact_same (large-exact edition1 A B) (no-exact small)

      no_room : room < file_size (joined A B) → join_number edition1 room A B ≡ 10
      no_room l = rw (nested, fits, lt-ltb room (file_size (joined A B)) l)

      taken : file_size (joined A B) ≤ room → join_number edition1 room A B ≡ 0
      taken l = rw (nested, fits, le-ltb room (file_size (joined A B)) l)

-- the promise, from what was computed
module _ (one two out : List ℕ) where
  pub joins-bad-first : (GoodFile edition one → ⊥) → Joins one two out 1 1 0 out
  joins-bad-first bad =
      record {
        good-first = (λ f. absurd (f (refl, refl)), λ g. absurd (bad g));
        bad-first = (λ h. bad, λ f. (refl, refl));
        good-second = λ g. absurd (bad g);
        bad-second = λ g. absurd (bad g);
        otherwise = λ g. absurd (bad g);
        refused = λ f. (refl, refl);
        counted = λ z. absurd (omega arith);
        written = λ z. absurd (omega arith);
      }

  module _ (good : GoodFile edition one) where
    pub joins-bad-second : (GoodFile edition two → ⊥) → Joins one two out 1 2 0 out
    joins-bad-second bad =
        record {
          good-first = (λ f. good, λ g h. let e = h.1 in omega arith);
          bad-first = (λ h. let e = h.1 in absurd (omega arith), λ f. absurd (f good));
          good-second = λ g. (λ f. absurd (f (refl, refl)), λ s. absurd (bad s));
          bad-second = λ g. (λ h. bad, λ f. (refl, refl));
          otherwise = λ g s. absurd (bad s);
          refused = λ f. (refl, refl);
          counted = λ z. absurd (omega arith);
          written = λ z. absurd (omega arith);
        }

    module _ (other : GoodFile edition two) where
      abbrev A : Table
      A = table_of one

      abbrev B : Table
      B = table_of two

      told : {number count : ℕ} {out' : List ℕ} → join_number edition1 (length out) A B ≡ number
          → ((number ≡ 0 → ⊥) → (count ≡ 0) × (out' ≡ out)) → (number ≡ 0 → count ≡ length (joined_file one two))
          → (number ≡ 0 → out' ≡ joined_file one two ++ drop count out) → Joins one two out number 0 count out'
      told {number} e refused counted written =
          let tests = join_tests edition1 (length out) A B in
          let one-not : number ≡ 1 → ⊥ = λ h. absent 1 tests (omega arith) refl (e ∙ h) in
          record {
            good-first = (λ f. good, λ g h. one-not h.0);
            bad-first = (λ h. absurd (one-not h.0), λ f. absurd (f good));
            good-second = λ g. (λ f. other, λ s h. one-not h.0);
            bad-second = λ g. (λ h. absurd (one-not h.0), λ f. absurd (f other));
            otherwise = λ g s. (sym e, refl);
            refused = refused;
            counted = counted;
            written = written;
          }

      refusal : {number : ℕ} → join_number edition1 (length out) A B ≡ number → (number ≡ 0 → ⊥)
          → Joins one two out number 0 0 out
      refusal e some = told e (λ f. (refl, refl)) (λ z. absurd (some z)) (λ z. absurd (some z))

      pub joins-not-nested : (Nests B.class A → ⊥) → Joins one two out 14 0 0 out
      joins-not-nested n = refusal (not-nested A B (length out) n) (λ z. omega arith)

      module _ (nest : Nests B.class A) where
        pub joins-too-large : TooLarge edition1 A B → Joins one two out 15 0 0 out
        joins-too-large l = refusal (too_large A B (length out) nest l) (λ z. omega arith)

        module _ (small : TooLarge edition1 A B → ⊥) where
          pub joins-no-room : length out < file_size (joined A B) → Joins one two out 10 0 0 out
          joins-no-room l = refusal (no_room A B (length out) nest small l) (λ z. omega arith)

          pub joins-taken : {count : ℕ} {out' : List ℕ} → file_size (joined A B) ≤ length out
              → count ≡ file_size (joined A B) → out' ≡ joined_file one two ++ drop count out
              → Joins one two out 0 0 count out'
          joins-taken l c w =
              told (taken A B (length out) nest small l) (λ f. absurd (f refl))
              (λ z. c ∙ sym (file-length (joined A B))) (λ z. w)
