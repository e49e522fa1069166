-- `join::hops::lay` meets its contract. Assumes nothing.
use mathlib.Core.Path.{refl}
use Prim.Native.Nat.{◌-◌, ◌*◌}
use native.Mathlib.Omega.{arith}
use Rattle.words.proofs.Exact.{denied}
use Rattle.join_file.specs.declared.Sizes.{Sizes}
use Rattle.join.specs.Hopping.{LongKey}
use Rattle.join.proofs.Hopped.{hopped-used, hopped-long, hopped-words, hopped-no-room, hopped-laying}
use Rattle.join.proofs.Hopped.{hopped-taken}
use Rattle.join.proofs.hops.lay.Goals as goal
use Rattle.join.proofs.hops.lay.Goals.{Else-long_rows}

pub returns-then-long_rows : goal.returns-then-long_rows
returns-then-long_rows c = hopped-long c.requires _ (c.long_rows.ensures.1 c.if-long_rows.true)

pub overflow_sub-words : goal.overflow_sub-words
overflow_sub-words c = hopped-used c.requires

-- no key is long
short : (c : Else-long_rows) → LongKey c.args.rows.now c.args.rowed.count → ⊥
short c = denied c.long_rows.ensures c.if-long_rows.false

pub returns-then-words-gt4096 : goal.returns-then-words-gt4096
returns-then-words-gt4096 c = hopped-words c.requires _ (omega arith)

pub returns-then-out-count : goal.returns-then-out-count
returns-then-out-count c =
    hopped-no-room c.requires _ (short (goal.at.returns-then-out-count c).Else-long_rows) (omega arith) (omega arith)

pub write-requires : goal.write-requires
write-requires c =
    hopped-laying c.requires _ (short (goal.at.write-requires c).Else-long_rows) (omega arith)
    (omega arith) _ refl refl (omega arith)

pub returns : goal.returns
returns c =
    let sizes : Sizes = record {
      markers = c.args.markers;
      rows = c.args.rowed.count;
      words = c.args.rowed.used - 4 * c.args.rowed.count;
    } in
    hopped-taken c.requires _ (short (goal.at.returns c).Else-long_rows) (omega arith) (omega arith) sizes refl refl refl
    c.write.ensures
