-- What holds of a shelf: at the start, and with more words put on it; that it stays full. Assumes nothing.
use mathlib.Core.Path.{◌≡◌, sym, ap, subst}
use mathlib.Core.Logic.{◌⊎◌, inl, inr}
use mathlib.Core.List.{List, [], ◌∷◌, ◌++◌, append-nil, append_assoc}
use Prim.Native.Nat.{ℕ, ◌<◌, ◌≤◌}
use native.Mathlib.Omega.{arith}
use lib.ListN.{length}
use Rattle.words.specs.Words.{Word}
use Rattle.join_shelf.specs.Shelved.{shelf_cap, shelf_room, kept, total, Held, Shelved, Gathers}
use Rattle.std.specs.Prelude.{Option, Some, None}
use Rattle.join_shelf.specs.declared.Stock.{Stock}
use Rattle.join_shelf.proofs.Lists.{add-grows, kept_more}

-- a shelf with words, and one that had no room

pub shelved-made : {words : List Word} {room : List ℕ} {stock : Stock}
    → Held words room stock.count stock.used → Shelved words (Some stock) room
shelved-made {words} {room} {stock} s =
    record { made = is; full = λ e. absurd (let z : ◌≡◌ {A = ℕ} 0 1 = cc in omega arith) }
  where
    is : (other : Stock) → Some stock ≡ Some other → Held words room other.count other.used
    is other e =
        let a : stock ≡ other = cc in
        subst (λ (t : Stock). Held words room t.count t.used) a s

abbrev pub Outgrown : List Word → Type 0
Outgrown words = (shelf_cap < length (kept words)) ⊎ (shelf_room < total (kept words))

pub shelved-full : {words : List Word} {room : List ℕ} → Outgrown words
    → Shelved words None room
shelved-full o =
    record { made = λ n e. absurd (let z : ◌≡◌ {A = ℕ} 0 1 = cc in omega arith); full = λ e. o }

-- what is too much stays too much

pub kept-grows : (made more : List Word)
    → (length (kept made) ≤ length (kept (made ++ more))) × (total (kept made) ≤ total (kept (made ++ more)))
kept-grows made [] = rw (append-nil made) (omega arith, omega arith)
kept-grows made (w ∷ more) =
    let n = ap length (kept_more w made) in
    let t = ap total (kept_more w made) in
    let one = add-grows w (kept made) in
    let rest = rw (append_assoc made (w ∷ []) more) at (kept-grows (made ++ w ∷ []) more) in
    (omega arith, omega arith)

pub outgrown-more : (made more : List Word) → Outgrown made → Outgrown (made ++ more)
outgrown-more made more (inl h) = inl (omega (arith, (kept-grows made more).0))
outgrown-more made more (inr h) = inr (omega (arith, (kept-grows made more).1))

-- words put after whatever was before

module _ {room : List ℕ} {s : Option Stock} where
  pub gathers-none : Gathers [] room s s room
  gathers-none made h = rw (append-nil made) h

  -- a full shelf stays full, whatever the room holds
  pub gathers-full : (more : List Word) {room' : List ℕ} → s ≡ None
      → Gathers more room s None room'
  gathers-full more e made h = shelved-full (outgrown-more made more (h.full e))

  pub gathers-still : (more : List Word) → s ≡ None → Gathers more room s s room
  gathers-still more e made h =
      subst (λ (r : Option Stock). Shelved (made ++ more) r room) (sym e) (gathers-full more e made h)

  module _ {A room' : List _} {s' : Option Stock}
      (a : Gathers A room s s' room') where
    pub gathers-as : {B : List Word} → A ≡ B → Gathers B room s s' room'
    gathers-as e = rw (← e) a

    pub gathers-both : {B room'' : List _} {s'' : Option Stock}
        → Gathers B room' s' s'' room''
        → Gathers (A ++ B) room s s'' room''
    gathers-both {B} b made h = rw (← append_assoc made A B) (b (made ++ A) (a made h))
