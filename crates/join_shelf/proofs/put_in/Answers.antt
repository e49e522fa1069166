-- `join_shelf::put_in` meets its contract. Assumes nothing.
use mathlib.Core.Path.{◌≡◌, refl}
use mathlib.Core.Logic.{inl, inr}
use mathlib.Core.List.{List, ◌++◌}
use Prim.Native.Nat.{ℕ, ◌+◌, ◌<◌}
use native.Mathlib.Omega.{arith}
use lib.ListN.{length, length-append}
use Rattle.join_shelf.specs.Shelved.{word_at, Held, SomeShelved, WordPlace}
use Rattle.std.specs.Prelude.{Some}
use Rattle.join_shelf.specs.declared.Stock.{Stock}
use Rattle.join_shelf.proofs.Rooms.{held_same, held_new, more-words, more_bytes}
use Rattle.join_shelf.proofs.Laws.{shelved-made, shelved-full}
use Rattle.join_shelf.proofs.put_in.Goals as goal
use Rattle.join_shelf.proofs.put_in.Goals.{In-Err}
use Rattle.join_shelf.proofs.put_in.Goals.{then-left-head-via-then-left-head}
use Rattle.join_shelf.proofs.put_in.Goals.{then-left-head-via-else-left-head+then-left-head-2}

abbrev long : (c : In-Err) → length (c.args.head.now ++ c.args.tail.now)
    ≡ length c.args.head.now + length c.args.tail.now
long c = length-append c.args.head.now c.args.tail.now

-- where the word is not there, and would stand
there : (c : In-Err) → WordPlace c.args.room.now c.args.stock.count (c.args.head.now ++ c.args.tail.now) c.in-Err.at
there c = (c.seek.ensures.missed _ c.in-Err.is).0

new : (c : In-Err) → c.in-Err.at < c.args.stock.count
    → c.args.head.now ++ c.args.tail.now ≡ word_at c.args.room.now c.in-Err.at → ⊥
new c = (c.seek.ensures.missed _ c.in-Err.is).1

-- what was put before stands
held-before : {room : List ℕ} {t : Stock} (s : SomeShelved room (Some t)) → Held s.0 room t.count t.used
held-before s = s.1.made _ refl

pub seek-requires : goal.seek-requires
seek-requires c = (held-before c.requires).standing

pub returns-in_default : goal.returns-in_default
returns-in_default c = λ made g.
    let p = c.seek.ensures.found _ c.in_default.is in
    shelved-made (held_same (g.made _ refl) p.0 p.1 p.2)

pub returns-then-count-eq256 : goal.returns-then-count-eq256
returns-then-count-eq256 c = λ made g.
    let n = more-words (g.made _ refl) (there (goal.at.returns-then-count-eq256 c).In-Err) (new (goal.at.returns-then-count-eq256 c).In-Err) in
    shelved-full (inl (omega arith))

pub overflow_sub-left : goal.overflow_sub-left
overflow_sub-left c = (held-before c.requires).fits

pub returns-then-left-head : goal.returns-then-left-head
returns-then-left-head c = λ made g.
    let n = more_bytes (g.made _ refl) (there (goal.at.returns-then-left-head c).In-Err) (new (goal.at.returns-then-left-head c).In-Err) in
    let l = long (goal.at.returns-then-left-head c).In-Err in
    let fits = (held-before c.requires).fits in
    shelved-full (inr (elim c.then-left-head.branch [
      | then-left-head-via-then-left-head w ↦ omega arith
      | then-left-head-via-else-left-head+then-left-head-2 w ↦ omega arith
    ]))

pub store-end-requires : goal.store-end-requires
store-end-requires c =
    let s = held-before c.requires in
    (omega (arith, s.standing.few), omega (arith, s.fits))

-- where the slot is inserted: the slots in use are few, and the place is one of theirs
pub overflow_add-count : goal.overflow_add-count
overflow_add-count c = omega (arith, (held-before c.requires).standing.few)

pub overflow_add-at : goal.overflow_add-at
overflow_add-at c = omega (arith, (held-before c.requires).standing.few, (there (goal.at.overflow_add-at c).In-Err).within)

pub overflow_cast-count : goal.overflow_cast-count
overflow_cast-count c = omega (arith, (held-before c.requires).standing.few)

pub insert-requires : goal.insert-requires
insert-requires c =
    let few = (held-before c.requires).standing.few in
    (omega (arith, (there (goal.at.insert-requires c).In-Err).within), omega (arith, few))

pub overflow_add-result : goal.overflow_add-result
overflow_add-result c = omega (arith, (held-before c.requires).standing.few)

pub returns : goal.returns
returns c = λ made g.
    let s = g.made _ refl in
    shelved-made
    (held_new s (there (goal.at.returns c).In-Err) (new (goal.at.returns c).In-Err) c.store-end.ensures.stored
    c.store-end.ensures.same_order c.insert.ensures (omega (arith, s.standing.few))
    (omega (arith, s.fits, c.store-end.ensures.stored.long, long (goal.at.returns c).In-Err)))
