-- `step::taking::step_in` meets its contract. Assumes nothing.
use mathlib.Core.Path.{refl}
use native.Mathlib.Omega.{arith}
use Rattle.words.proofs.Lists.{byte-get_or}
use Rattle.step.proofs.Asked.{asked-bad}
use Rattle.step.proofs.Ended.{left-depth, left-ready, settled-backlog, settled-no-room, settled-fitting}
use Rattle.step.proofs.Ended.{settled-taken}
use Rattle.step.proofs.taking.step_in.Goals as goal

pub returns-in_err-check : goal.returns-in_err-check
returns-in_err-check c = asked-bad _ _ c.in_err-check.ensures c.from_residual.ensures.1

pub admit-requires : goal.admit-requires
admit-requires c = record {
  good = c.in_ok-check.ensures.good.0 (omega arith);
  small = byte-get_or _ (λ k. omega (arith, c.type_inv.file k));
  sound = c.if-not-sound.ensures.1 refl;
}

pub settle-at-requires : goal.settle-at-requires
settle-at-requires c = left-ready c.in_ok-draft.ensures

pub returns-then-waiting_cap-longest : goal.returns-then-waiting_cap-longest
returns-then-waiting_cap-longest c =
    settled-backlog c.in_ok-draft.ensures c.settle-at.ensures _ (omega (arith, c.waiting_cap.ensures))

pub returns-then-out-count : goal.returns-then-out-count
returns-then-out-count c =
    settled-no-room c.in_ok-draft.ensures c.settle-at.ensures (omega (arith, c.waiting_cap.ensures)) _ (omega arith)

pub write-requires : goal.write-requires
write-requires c =
    let left = c.in_ok-draft.ensures in (
      left.left.opened.proper.sound.kept,
      settled-fitting left c.settle-at.ensures (omega (arith, c.waiting_cap.ensures)) c.args.out.now
          (omega arith),
      omega (arith, left-depth left.left),
    )

pub returns : goal.returns
returns c =
    settled-taken c.in_ok-draft.ensures c.settle-at.ensures (omega (arith, c.waiting_cap.ensures)) _ (omega arith)
    c.write.ensures c.send.ensures
