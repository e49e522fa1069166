-- `join_shelf::against` meets its contract. Assumes nothing.
use mathlib.Core.Path.{sym, ap, ◌∙◌}
use lib.ListN.{length, drop, length-drop}
use lib.Seq.{length-take-le, take_all}
use Prim.Native.Nat.{◌-◌}
use native.Mathlib.Omega.{arith}
use Rattle.words.specs.Order.{lower, same, upper, side}
use Rattle.words.specs.Calls.{side_of}
use Rattle.join_shelf.proofs.Lists.{side-first, side-short}
use Rattle.join_shelf.proofs.against.Goals as goal

pub returns-then-word-n : goal.returns-then-word-n
returns-then-word-n c =
    c.compare.ensures ∙ sym (side-short c.args.head.now c.args.tail.now c.args.word.now (omega arith))

pub slice_bounds-compare-end : goal.slice_bounds-compare-end
slice_bounds-compare-end c = sym (length-take-le (length c.args.head.now) c.args.word.now (omega arith))

pub returns-in-Less : goal.returns-in-Less
returns-in-Less c = side-first c.args.head.now c.args.tail.now c.args.word.now lower
    (ap side_of (sym c.in-Less.is) ∙ c.compare-2.ensures)

pub returns-in-Equal : goal.returns-in-Equal
returns-in-Equal c = let rest = drop (length c.args.head.now) c.args.word.now in
    c.compare-in-Equal.ensures
    ∙ ap (side c.args.tail.now) (take_all (length c.args.word.now - length c.args.head.now) rest
    (omega (arith, length-drop (length c.args.head.now) c.args.word.now)))
    ∙ side-first c.args.head.now c.args.tail.now c.args.word.now same
    (ap side_of (sym c.in-Equal.is) ∙ c.compare-2.ensures)

pub returns-in-Greater : goal.returns-in-Greater
returns-in-Greater c = side-first c.args.head.now c.args.tail.now c.args.word.now upper
    (ap side_of (sym c.in-Greater.is) ∙ c.compare-2.ensures)
