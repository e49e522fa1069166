-- One answer meets what joining promises. Assumes nothing.
use mathlib.Core.Path.{◌≡◌, refl}
use mathlib.Core.List.{List}
use Prim.Native.Nat.{ℕ}
use native.Mathlib.Omega.{arith}
use Rattle.std.specs.Prelude.{Result, Ok, Err}
use Rattle.numbers.specs.Numbers.{count_of}
use Rattle.join_meaning.proofs.Promised.{joins-unique}
use Rattle.join.specs.Calls.{joined_number, blamed, JoinedBy}
use Rattle.join.specs.declared.hops.Unjoined.{Unjoined}
use Rattle.join.specs.declared.hops.Unjoined.TheVariants.{BadFirst, BadSecond, NotNested, TooLarge, NoRoom}

-- an answer is known by its number, its table and its count
unjoined-same : (r q : Unjoined) → joined_number (Err r) ≡ joined_number (Err q) → blamed (Err r) ≡ blamed (Err q)
    → r ≡ q
unjoined-same BadFirst BadFirst n t = refl
unjoined-same BadFirst BadSecond n t = absurd (omega arith)
unjoined-same BadFirst NotNested n t = absurd (omega arith)
unjoined-same BadFirst TooLarge n t = absurd (omega arith)
unjoined-same BadFirst NoRoom n t = absurd (omega arith)
unjoined-same BadSecond BadFirst n t = absurd (omega arith)
unjoined-same BadSecond BadSecond n t = refl
unjoined-same BadSecond NotNested n t = absurd (omega arith)
unjoined-same BadSecond TooLarge n t = absurd (omega arith)
unjoined-same BadSecond NoRoom n t = absurd (omega arith)
unjoined-same NotNested BadFirst n t = absurd (omega arith)
unjoined-same NotNested BadSecond n t = absurd (omega arith)
unjoined-same NotNested NotNested n t = refl
unjoined-same NotNested TooLarge n t = absurd (omega arith)
unjoined-same NotNested NoRoom n t = absurd (omega arith)
unjoined-same TooLarge BadFirst n t = absurd (omega arith)
unjoined-same TooLarge BadSecond n t = absurd (omega arith)
unjoined-same TooLarge NotNested n t = absurd (omega arith)
unjoined-same TooLarge TooLarge n t = refl
unjoined-same TooLarge NoRoom n t = absurd (omega arith)
unjoined-same NoRoom BadFirst n t = absurd (omega arith)
unjoined-same NoRoom BadSecond n t = absurd (omega arith)
unjoined-same NoRoom NotNested n t = absurd (omega arith)
unjoined-same NoRoom TooLarge n t = absurd (omega arith)
unjoined-same NoRoom NoRoom n t = refl

joined-same : (r q : Result ℕ Unjoined) → joined_number r ≡ joined_number q → blamed r ≡ blamed q
    → count_of r ≡ count_of q → r ≡ q
joined-same (Ok m) (Ok n) e t c = λ i. Ok (c i)
joined-same (Ok m) (Err BadFirst) e t c = absurd (omega arith)
joined-same (Ok m) (Err BadSecond) e t c = absurd (omega arith)
joined-same (Ok m) (Err NotNested) e t c = absurd (omega arith)
joined-same (Ok m) (Err TooLarge) e t c = absurd (omega arith)
joined-same (Ok m) (Err NoRoom) e t c = absurd (omega arith)
joined-same (Err BadFirst) (Ok n) e t c = absurd (omega arith)
joined-same (Err BadSecond) (Ok n) e t c = absurd (omega arith)
joined-same (Err NotNested) (Ok n) e t c = absurd (omega arith)
joined-same (Err TooLarge) (Ok n) e t c = absurd (omega arith)
joined-same (Err NoRoom) (Ok n) e t c = absurd (omega arith)
joined-same (Err r) (Err q) e t c = λ i. Err (unjoined-same r q e t i)

-- two answers that meet the contract are the same, and so are the outputs
pub joined-unique : {one two out : List ℕ} (r q : Result ℕ Unjoined) {x y : List ℕ} → JoinedBy one two out r x
    → JoinedBy one two out q y → (r ≡ q) × (x ≡ y)
joined-unique r q a b = let u = joins-unique a b in (joined-same r q u.0 u.1 u.2, u.3)
