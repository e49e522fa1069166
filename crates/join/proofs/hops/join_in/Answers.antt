-- `join::hops::join_in` meets its contract: what is known after each test. Assumes nothing.
use mathlib.Core.Bool.{false}
use mathlib.Core.List.{List, []}
use mathlib.Core.Logic.{inl, inr}
use mathlib.Core.Path.{◌≡◌, refl, sym, ◌∙◌}
use Prim.Native.Nat.{ℕ, ◌*◌, ◌<◌}
use native.Mathlib.Omega.{arith}
use lib.ListN.{get_or}
use Rattle.std.specs.Prelude.{Result, Ok, Err, ⊤}
use Rattle.std.specs.Result.{is_err}
use Rattle.words.proofs.Exact.{denied, granted}
use Rattle.words.proofs.Lists.{byte-get_or}
use Rattle.numbers.specs.declared.Refusal.{Refusal}
use Rattle.table.specs.File.{table_of}
use Rattle.table.specs.Good.{first_edition as edition, GoodFile}
use Rattle.table.specs.Calls.{Checked}
use Rattle.join_meaning.proofs.Told.{joins-not-nested, joins-too-large}
use Rattle.join_nesting.specs.Nesting.{Hops}
use Rattle.join.specs.Hopping.{Nested}
use Rattle.join.proofs.FromMarks.{marked_all}
use Rattle.join.proofs.Hopped.{not-long, pairs_small, nested-marks-full, nested-marks-over, nested-rows-full}
use Rattle.join.proofs.Hopped.{nested-rowed}
use Rattle.join.proofs.hops.join_in.Goals as goal
use Rattle.join.proofs.hops.join_in.Goals.{Else-is_err-2, Else-states-gt64}
use Rattle.join.proofs.hops.join_in.Goals.{then-long_words-via-then-long_words, then-long_words-via-else-long_words+then-states-gt64}

-- two numbers that are two others have their product
product : {a b m n : ℕ} → a ≡ m → b ≡ n → a * b ≡ m * n
product e f = λ i. e i * f i

-- a file that `check` took is good
taken : {file : List ℕ} (r : Result ⊤ Refusal) → Checked file r → is_err r ≡ false → GoodFile edition file
taken (Ok x) h e = h.good.0 refl
taken (Err x) h e = absurd (cc)

-- two files of bytes that `check` took
both : {one two : List ℕ} (r q : Result ⊤ Refusal) → Checked one r → Checked two q → is_err r ≡ false → is_err q ≡ false
    → ((k : ℕ) → get_or one k 0 < 256) → ((k : ℕ) → get_or two k 0 < 256) → Hops one two
both r q g h e f a b =
    record {
      first = taken r g e;
      first-bytes = byte-get_or _ a;
      second = taken q h f;
      second-bytes = byte-get_or _ b;
    }

both-good : (c : Else-is_err-2) → Hops c.args.first.now c.args.second.now
both-good c =
    both c.check.result c.check-2.result c.check.ensures c.check-2.ensures
    (sym c.is_err.ensures.value ∙ c.if-is_err.false) (sym c.is_err-2.ensures.value ∙ c.if-is_err-2.false)
    (λ k. omega (arith, c.type_inv.first k)) (λ k. omega (arith, c.type_inv.second k))

pub nests-requires : goal.nests-requires
nests-requires c = both-good (goal.at.nests-requires c).Else-is_err-2

pub returns-then-not-nests : goal.returns-then-not-nests
returns-then-not-nests c =
    let h = both-good (goal.at.returns-then-not-nests c).Else-is_err-2 in
    joins-not-nested _ _ _ h.first h.second (denied c.nests.ensures c.if-not-nests.true)

pub overflow_mul-states : goal.overflow_mul-states
overflow_mul-states c =
    let h = both-good (goal.at.overflow_mul-states c).Else-is_err-2 in
    omega (arith, product c.states.ensures c.states-else-long_words.ensures, pairs_small h)

pub returns-then-long_words : goal.returns-then-long_words
returns-then-long_words c =
    let h = both-good (goal.at.returns-then-long_words c).Else-is_err-2 in
    let nest = granted c.nests.ensures c.if-not-nests.false in
    elim c.then-long_words.branch [
      | then-long_words-via-then-long_words w ↦
          joins-too-large _ _ _ h.first h.second nest (inl (c.long_words.ensures.1 w.if-long_words.true))
      | then-long_words-via-else-long_words+then-states-gt64 w ↦
          joins-too-large _ _ _ h.first h.second nest
          (inr (inl (omega (arith, product w.states.ensures w.states-else-long_words.ensures))))
    ]

-- neither words nor states are too large
small-enough : (c : Else-states-gt64) → Nested c.args.first.now c.args.second.now
small-enough c =
    record {
      small = record {
        hops =
            both c.check.result c.check-2.result c.check.ensures c.check-2.ensures
            (sym c.is_err.ensures.value ∙ c.if-is_err.false) (sym c.is_err-2.ensures.value ∙ c.if-is_err-2.false)
            (λ k. omega (arith, c.type_inv.first k)) (λ k. omega (arith, c.type_inv.second k));
        words =
            not-long 16 (table_of c.args.first.now)
            (denied c.long_words.ensures c.if-long_words.false);
        states = omega (arith, product c.states.ensures c.states-else-long_words.ensures);
      };
      nest = granted c.nests.ensures c.if-not-nests.false;
    }

pub gather-requires-clause-small : goal.gather-requires-clause-small
gather-requires-clause-small c = (small-enough (goal.at.gather-requires-clause-small c).Else-states-gt64).small

pub returns-in_default : goal.returns-in_default
returns-in_default c =
    nested-marks-full (small-enough (goal.at.returns-in_default c).Else-states-gt64) _
    (c.gather.ensures.full c.in_default.is)

pub returns-then-markers-gt64 : goal.returns-then-markers-gt64
returns-then-markers-gt64 c =
    nested-marks-over (small-enough (goal.at.returns-then-markers-gt64 c).Else-states-gt64) _
    (c.gather.ensures.made _ c.in-Some.is) (omega arith)

pub gather-requires-2-clause-small : goal.gather-requires-2-clause-small
gather-requires-2-clause-small c = (small-enough (goal.at.gather-requires-2-clause-small c).Else-states-gt64).small

pub gather-requires-2-clause-marked : goal.gather-requires-2-clause-marked
gather-requires-2-clause-marked c = marked_all (c.gather.ensures.made _ c.in-Some.is) (omega arith)

pub returns-in_default-gather : goal.returns-in_default-gather
returns-in_default-gather c =
    nested-rows-full (small-enough (goal.at.returns-in_default-gather c).Else-states-gt64) _
    (c.gather-2.ensures.full c.in_default-gather.is)

pub lay-requires : goal.lay-requires
lay-requires c =
    nested-rowed (small-enough (goal.at.lay-requires c).Else-states-gt64) []
    (c.gather.ensures.made _ c.in-Some.is) (omega arith)
    (c.gather-2.ensures.made _ c.in-Some-gather.is)
