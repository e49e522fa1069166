-- `step_drafts::settling::push_one` meets its contract. Assumes nothing.
use mathlib.Core.Path.{◌≡◌, ap, ◌∙◌}
use Prim.Native.Nat.{ℕ, ◌+◌, ◌-◌}
use native.Mathlib.Omega.{arith}
use Rattle.links.specs.Heads.{with_length}
use Rattle.step_drafts.proofs.Carried.{written-within}
use Rattle.step_drafts.proofs.Pushing.{end_of, end_fits, pushed-one}
use Rattle.step_drafts.proofs.settling.push_one.Goals as goal

pub copy_within-requires-clause-dest_in_bounds : goal.copy_within-requires-clause-dest_in_bounds
copy_within-requires-clause-dest_in_bounds c = let pre = c.requires.drafted in
    let fits = end_fits pre.0 pre.1 pre.2 c.seat-seat.ensures c.common_on-above.ensures.1 c.requires.i_len_bound in
    omega (arith, c.start.ensures.0, c.long-long.ensures.0)

pub returns : goal.returns
returns c = let pre = c.requires.drafted in
    let from = c.common_on-above.result.start in
    let many = c.common_on-above.result.end - from in
    let on = c.common_on-above.ensures.1 in
    let e : c.start.result + c.long-long.result ≡ end_of c.args.work.now c.args.i =
    omega (arith, c.start.ensures.0, c.long-long.ensures.0) in
    let copy = c.copy_within.ensures in
    let b = copy.by_index in
    pushed-one pre.0 pre.1 pre.2 c.seat-seat.ensures on c.set_length.new.bytes c.requires.i_len_bound
    (rw e at (written-within from _ many (omega (arith, on.lies)) copy.len b.0 b.1 b.2))
    (c.set_length.ensures
    ∙ ap (λ (k : ℕ). with_length c.copy_within.new.self c.args.i (k + many)) c.long-long.ensures.0)
    c.set_handed.ensures
