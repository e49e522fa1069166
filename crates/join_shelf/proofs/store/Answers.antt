-- `join_shelf::store` meets its contract. Assumes nothing.
use mathlib.Core.Path.{◌≡◌}
use mathlib.Core.List.{List}
use Prim.Native.Nat.{ℕ, ◌+◌, ◌*◌, ◌<◌}
use native.Mathlib.Omega.{arith}
use lib.ListN.{get_or}
use Rattle.std.specs.Int.{to_le_bytes}
use Rattle.std.proofs.Common.{w16}
use Rattle.join_shelf.proofs.Rooms.{stored}
use Rattle.join_shelf.proofs.store.Goals as goal

-- two bytes as a number are what they were made of
two : (n : ℕ) (l : List ℕ) → n < 65536 → l ≡ to_le_bytes w16 n → get_or l 0 0 + 256 * get_or l 1 0 ≡ n
two n l lt e = rw e (omega arith)

pub returns : goal.returns
returns c =
    let s = stored c.args.room.now _ _ _ c.args.count c.args.used c.args.head.now c.args.tail.now _ _ _ _ c.copy.ensures
    c.copy-2.ensures c.copy-3.ensures (omega arith) (omega arith) (omega arith)
    (two c.args.used _ (omega arith) c.to_le_bytes.ensures) (two _ _ (omega arith) c.to_le_bytes-2.ensures) in
    record { stored = s.0; same_order = s.1 }
