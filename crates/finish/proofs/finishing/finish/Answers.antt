-- `finish::finishing::finish` meets its contract. Assumes nothing.
use mathlib.Core.Path.{refl, ap}
use native.Mathlib.Omega.{arith}
use lib.ListN.{length, get_or}
use Rattle.std.proofs.Common.{ℕ, Fits, w8}
use Rattle.std.proofs.lemmas.Result.{err_from_is_err_and}
use Rattle.words.proofs.Lists.{byte-get_or}
use Rattle.words.proofs.Exact.{denied, granted}
use Rattle.finish.proofs.Closing.{ended-bad-table, Closed, ended-not-final, ended-ambiguous, ended-no-room, ended-taken}
use Rattle.finish.proofs.finishing.finish.Goals as goal
use Rattle.finish.proofs.finishing.finish.Goals.{After-final_set-finals}

pub returns-in_err-check : goal.returns-in_err-check
returns-in_err-check c =
    let p = err_from_is_err_and c.from_residual.result c.from_residual.ensures.1 in
    rw (p.1, p.2) (ended-bad-table _ _ _ _ c.in_err-check.ensures)

-- what is known of the session once it is closed
closed : (c : After-final_set-finals) → ((k : ℕ) → Fits w8 (get_or c.args.file.now k 0))
    → Closed c.args.file.now c.args.session.now c.final_set-finals.result
closed c small =
    record {
      proper = record {
        good = c.in_ok-check.ensures.good.0 refl;
        small = byte-get_or _ (λ k. omega (arith, small k));
        sound = granted c.sound.ensures c.if-not-sound.false;
      };
      flat = omega arith;
      are = c.final_set-finals.ensures;
    }

pub returns-in_default : goal.returns-in_default
returns-in_default c =
    ended-not-final (closed (goal.at.returns-in_default c).After-final_set-finals c.type_inv.file) _ c.in_default.ensures

pub returns-then-not-like : goal.returns-then-not-like
returns-then-not-like c =
    ended-ambiguous (closed (goal.at.returns-then-not-like c).After-final_set-finals c.type_inv.file)
    c.in-Some.ensures _ (denied c.like.ensures c.if-not-like.true)

pub returns-then-out-count : goal.returns-then-out-count
returns-then-out-count c =
    ended-no-room (closed (goal.at.returns-then-out-count c).After-final_set-finals c.type_inv.file)
    c.in-Some.ensures _ (granted c.like.ensures c.if-not-like.false) (omega (arith, ap length c.piece-rest.ensures))

pub returns : goal.returns
returns c =
    ended-taken (closed (goal.at.returns c).After-final_set-finals c.type_inv.file)
    c.in-Some.ensures _ (granted c.like.ensures c.if-not-like.false) c.piece-rest.ensures (omega arith) c.send.ensures
