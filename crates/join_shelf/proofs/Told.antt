-- What the functions of a shelf promise allows one answer: the shelf with its words, and a word's place. What the room
-- holds beside the words is not promised. Assumes nothing.
use mathlib.Core.Path.{◌≡◌, refl, sym, ◌∙◌}
use mathlib.Core.Logic.{◌⊎◌, inl, inr}
use mathlib.Core.List.{List, []}
use Prim.Native.Nat.{ℕ, ◌<◌, ◌≤◌}
use native.Mathlib.Omega.{arith}
use Rattle.words.specs.Words.{Word}
use Rattle.words.proofs.Lists.{below_or}
use Rattle.join_shelf.specs.Shelved.{words_of, Held, Shelved, Bare, SomeShelved, Gathers, WordPlace}
use Rattle.std.specs.Prelude.{Option, Some, None}
use Rattle.join_shelf.specs.declared.Stock.{Stock}
use Rattle.join_shelf.proofs.Rooms.{held-count}
use Rattle.join_shelf.proofs.Laws.{Outgrown}

-- words that stand have room
not-outgrown : {made : List Word} {room : List ℕ} {count used : ℕ}
    → Held made room count used → Outgrown made → ⊥
not-outgrown h (inl l) = omega (arith, held-count h, h.standing.few)
not-outgrown h (inr l) = omega (arith, h.filled, h.fits)

-- the same shelf in another room
pub record Alike (r q : Option Stock) (room room' : List ℕ) : Type 0 where
  pub same : r ≡ q
  pub stand : (stock : Stock) → r ≡ Some stock
      → words_of room stock.count ≡ words_of room' stock.count

module _ {words : List Word} {room room' : List ℕ} where
  pub shelved-unique : (r q : Option Stock) → Shelved words r room → Shelved words q room'
      → Alike r q room room'
  shelved-unique r q a b =
      let e = one r q a b in
      record {
        same = e;
        stand = λ stock is. (a.made stock is).are ∙ sym (b.made stock (sym e ∙ is)).are;
      }
    where
      one : (r q : Option Stock) → Shelved words r room → Shelved words q room' → r ≡ q
      one None None a b = refl
      one None (Some q) a b = absurd (not-outgrown (b.made q refl) (a.full refl))
      one (Some r) None a b = absurd (not-outgrown (a.made r refl) (b.full refl))
      one (Some r) (Some q) a b =
          let x = a.made r refl in
          let y = b.made q refl in
          let counts = held-count x ∙ sym (held-count y) in
          let bytes = x.filled ∙ sym y.filled in
          λ i. Some (record { count = counts i; used = bytes i })

-- `start`
pub start-unique : {r q : Option Stock} → Bare r → Bare q → r ≡ q
start-unique a b = (shelved-unique _ _ (a []) (b [])).same

-- `put`, and whatever puts words
pub gathers-unique : {more : List Word} {room : List ℕ} {s : Option Stock} → SomeShelved room s
    → {room' room'' : List ℕ} {r q : Option Stock}
    → Gathers more room s r room'
    → Gathers more room s q room''
    → Alike r q room' room''
gathers-unique m a b = shelved-unique _ _ (a m.0 m.1) (b m.0 m.1)

-- `place`
pub place-unique : {room : List ℕ} {count : ℕ} {w : Word} {p q : ℕ} → WordPlace room count w p
    → WordPlace room count w q → p ≡ q
place-unique {p = p} {q} a b = go (below_or p q) (below_or q p)
  where
    go : (p < q) ⊎ (q ≤ p) → (q < p) ⊎ (p ≤ q) → p ≡ q
    go (inl l) m = absurd (a.onward p (omega arith) (omega (arith, b.within)) (b.before p l))
    go (inr l) (inl m) = absurd (b.onward q (omega arith) (omega (arith, a.within)) (a.before q m))
    go (inr l) (inr m) = omega arith
