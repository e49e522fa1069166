-- `step_drafts::keeping::put` meets its contract. Assumes nothing.
use mathlib.Core.Path.{◌≡◌, sym, ◌∙◌}
use Prim.Native.Nat.{◌≤◌, ◌<◌}
use native.Mathlib.Omega.{arith}
use mathlib.Core.List.{◌++◌}
use lib.ListN.{length-append}
use Rattle.words.proofs.Exact.{denied}
use Rattle.words.specs.Words.{Word}
use Rattle.session_meaning.specs.Bytes.{link_count}
use Rattle.session_meaning.specs.Numbers.{key_at}
use Rattle.links.specs.Heads.{key_of}
use Rattle.step_drafts.proofs.Rooms.{clean-bytes}
use Rattle.step_drafts.proofs.Putting.{told-is, same-piece, other-piece, no_slot, placed}
use Rattle.step_drafts.proofs.keeping.put.Goals as goal
use Rattle.step_drafts.proofs.keeping.put.Goals.{After-place-at, Joined-else-at-n, Then-is_eq}
use Rattle.step_drafts.proofs.keeping.put.Goals.{else-at-n-via-then-at-n+else-is_eq, else-at-n-via-else-at-n}

-- where the place is known
abbrev parts : After-place-at → Word
parts c = c.args.a.now ++ c.args.b.now ++ c.args.c.now

all : (c : After-place-at) → c.count-n.result ≡ link_count c.args.work.now
all c = c.count-n.ensures.value.0

few : (c : After-place-at) → link_count c.args.work.now ≤ 64
few c = c.requires.drafted.0.few

-- the link is not there
new : (c : Joined-else-at-n) → c.place-at.result < c.count-n.result
    → key_at c.args.work.now c.place-at.result ≡ key_of c.args.link → ⊥
new c h e = elim c.else-at-n.branch [
  | else-at-n-via-then-at-n+else-is_eq w ↦ denied (told-is w.compare.ensures) (sym w.is_eq.ensures ∙ w.if-is_eq.false) e
  | else-at-n-via-else-at-n w ↦ omega arith
]

-- it is there
there : (c : Then-is_eq) → key_at c.args.work.now c.place-at.result ≡ key_of c.args.link
there c = (told-is c.compare.ensures).1 (sym c.is_eq.ensures ∙ c.if-is_eq.true)

pub returns-then-same_piece : goal.returns-then-same_piece
returns-then-same_piece c = let pre = c.requires.drafted in
    let p = (goal.at.returns-then-same_piece c).After-place-at in record {
      became =
          same-piece pre.0 pre.1 (all p) pre.2 c.place-at.ensures (parts p) c.if-at-n.true
          (there (goal.at.returns-then-same_piece c).Then-is_eq)
          (sym c.piece.ensures ∙ c.same_piece.ensures.1 c.if-same_piece.true);
    }

pub returns-then-is_eq : goal.returns-then-is_eq
returns-then-is_eq c = let pre = c.requires.drafted in
    let p = (goal.at.returns-then-is_eq c).After-place-at in record {
      became =
          other-piece pre.0 pre.1 (all p) pre.2 c.place-at.ensures (parts p) c.if-at-n.true
          (there (goal.at.returns-then-is_eq c).Then-is_eq)
          (λ e. denied c.same_piece.ensures c.if-same_piece.false (c.piece.ensures ∙ e));
    }

pub returns-then-n-eq64 : goal.returns-then-n-eq64
returns-then-n-eq64 c = let pre = c.requires.drafted in
    let p = (goal.at.returns-then-n-eq64 c).After-place-at in record {
      became =
          no_slot pre.0 pre.1 (all p) pre.2 c.place-at.ensures (parts p)
          (new (goal.at.returns-then-n-eq64 c).Joined-else-at-n) c.if-n-eq64.true _;
    }

pub write-requires-clause-bytes : goal.write-requires-clause-bytes
write-requires-clause-bytes c =
    (c.lift.ensures.rest.small c.fill.ensures.bytes, clean-bytes c.requires.drafted.2)

pub returns : goal.returns
returns c = let pre = c.requires.drafted in
    let p = (goal.at.returns c).After-place-at in record {
      became =
          placed pre.0 pre.1 (all p) pre.2 c.place-at.ensures (parts p) (new (goal.at.returns c).Joined-else-at-n)
          (omega (arith, few p, all p, c.if-n-eq64.false))
          (simp length-append (omega (arith, c.requires.c_len_bound)))
          (simp length-append (omega arith)) c.slot-slot.ensures.0 c.fill.ensures.written c.lift.ensures
          c.write.ensures c.set_count.ensures c.fill.ensures.bytes;
    }
