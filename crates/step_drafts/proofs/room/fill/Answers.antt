-- `step_drafts::room::fill` meets its contract. Assumes nothing.
use Prim.Native.Nat.{◌+◌}
use lib.ListN.{length}
use native.Mathlib.Omega.{arith}
use Rattle.words.proofs.Lists.{byte-get_or}
use Rattle.step_drafts.proofs.Carried.{filled, pasted-small}
use Rattle.step_drafts.proofs.room.fill.Goals as goal

pub returns-clause-written : goal.returns-clause-written
returns-clause-written c = filled c.args.at c.args.a.now c.args.b.now c.args.c.now (omega arith) c.copy.ensures
    c.copy-2.ensures c.copy-3.ensures

pub returns-clause-bytes : goal.returns-clause-bytes
returns-clause-bytes c =
    let old = byte-get_or c.args.work.now (λ k. omega (arith, c.fits-work k)) in
    let a = byte-get_or c.args.a.now (λ k. omega (arith, c.type_inv.a k)) in
    let b = byte-get_or c.args.b.now (λ k. omega (arith, c.type_inv.b k)) in
    let d = byte-get_or c.args.c.now (λ k. omega (arith, c.type_inv.c k)) in
    let first = pasted-small c.args.work.now c.args.at c.args.a.now (omega arith) c.copy.ensures old a in
    let second = pasted-small c.copy.new.to (c.args.at + length c.args.a.now) c.args.b.now (omega arith)
    c.copy-2.ensures first b in
    pasted-small c.copy-2.new.to (c.args.at + length c.args.a.now + length c.args.b.now) c.args.c.now (omega arith)
    c.copy-3.ensures second d
