-- A part written into a list: what stands where after it, and on the way. Assumes nothing.
use mathlib.Core.Path.{◌≡◌, refl, ◌∙◌, ap}
use mathlib.Core.Logic.{◌⊎◌, inl, inr}
use mathlib.Core.List.{List, [], ◌∷◌, ◌++◌}
use Prim.Native.Nat.{ℕ, ◌+◌, ◌-◌, ◌<◌, ◌≤◌}
use native.Mathlib.Omega.{arith}
use native.Mathlib.Numerals.{add-one}
use lib.ListN.{length, get_or, set, take, drop, length-set, get_or-append}
use lib.Seq.{get_or-take, get_or-drop, get_or-append-add, length-take-le, paste, paste-zero, paste-suc}
use lib.Seq.{length-paste, length_paste_head, sets-eq}

-- what the first bytes of a part leave where they are written, one after the other
pub record Pasting (to₀ : List ℕ) (at : ℕ) (part : List ℕ) (i : ℕ) (to : List ℕ) : Type 0 where
  pub room : at + length part ≤ length to₀
  pub behind : i ≤ length part
  pub is : to ≡ paste to₀ at part i
  pub whole : length to ≡ length to₀

pub pasting-none : (to : List ℕ) (at : ℕ) (part : List ℕ) → at + length part ≤ length to → Pasting to at part 0 to
pasting-none to at part le =
    record { room = le; behind = omega arith; is = paste-zero to at part; whole = refl }

pub pasting-more : {to₀ : List ℕ} {at : ℕ} {part : List ℕ} {i : ℕ} {to : List ℕ} → Pasting to₀ at part i to
    → i < length part → (b : ℕ) → b ≡ get_or part i 0 → Pasting to₀ at part (i + 1) (set to (at + i) b)
pasting-more {to₀} {at} {part} {i} {to} p lt b e =
    record {
      room = p.room;
      behind = omega arith;
      is = rw (e, p.is, add-one) (paste-suc to₀ at part i 0 (omega (arith, p.room)) lt);
      whole = length-set to (at + i) b ∙ p.whole;
    }

pub pasting-all : {to₀ : List ℕ} {at : ℕ} {part : List ℕ} {i : ℕ} {to : List ℕ} → Pasting to₀ at part i to
    → length part ≤ i → to ≡ paste to₀ at part (length part)
pasting-all {to₀} {at} {part} {i} p le =
    let e : i ≡ length part = omega (arith, p.behind) in
    rw (← e) p.is

-- what stands where when all is written
pub record Pasted (to : List ℕ) (at : ℕ) (part to' : List ℕ) : Type 0 where
  pub whole : length to' ≡ length to
  pub here : (j : ℕ) → j < length part → get_or to' (at + j) 0 ≡ get_or part j 0
  pub others : (k : ℕ) → (k < at) ⊎ (at + length part ≤ k) → get_or to' k 0 ≡ get_or to k 0

module _ (to : List ℕ) (at : ℕ) (part : List ℕ) (room : at + length part ≤ length to) where
  abbrev front : List ℕ
  front = take at to ++ take (length part) part

  abbrev rest : List ℕ
  rest = drop (at + length part) to

  before : length (take at to) ≡ at
  before = length-take-le at to (omega arith)

  long : length front ≡ at + length part
  long = length_paste_head to at part (length part) (omega arith) (omega arith)

  inside : (j : ℕ) → j < length part → get_or (front ++ rest) (at + j) 0 ≡ get_or part j 0
  inside j lt =
      let e : length (take at to) + j ≡ at + j = omega (arith, before) in
      get_or-append front rest 0 (at + j) (omega (arith, long))
      ∙ rw e at (get_or-append-add (take at to) (take (length part) part) j 0)
      ∙ get_or-take (length part) part j 0 lt

  outside : (k : ℕ) → (k < at) ⊎ (at + length part ≤ k) → get_or (front ++ rest) k 0 ≡ get_or to k 0
  outside k (inl lt) =
      get_or-append front rest 0 k (omega (arith, long))
      ∙ get_or-append (take at to) (take (length part) part) 0 k (omega (arith, before))
      ∙ get_or-take at to k 0 lt
  outside k (inr le) =
      let e : length front + (k - (at + length part)) ≡ k = omega (arith, long) in
      let f : at + length part + (k - (at + length part)) ≡ k = omega arith in
      rw e at (get_or-append-add front rest (k - (at + length part)) 0)
      ∙ get_or-drop (at + length part) to (k - (at + length part)) 0
      ∙ ap (λ (k : ℕ). get_or to k 0) f

pub pasted : {to : List ℕ} {at : ℕ} {part to' : List ℕ} → at + length part ≤ length to
    → to' ≡ paste to at part (length part) → Pasted to at part to'
pasted {to} {at} {part} room is =
    record {
      whole = rw is (length-paste to at part (length part) room (omega arith));
      here = λ j lt. rw is (inside to at part room j lt);
      others = λ k side. rw is (outside to at part room k side);
    }

-- two bytes stored one after the other are a part written
pub stored : {to to' : List ℕ} {at x y : ℕ} → at + 2 ≤ length to → to' ≡ set (set to at x) (at + 1) y
    → Pasted to at (x ∷ y ∷ []) to'
stored {to} {to'} {at} {x} {y} le is = pasted le (is ∙ rw (add-one at) (sets-eq (x ∷ y ∷ []) to at le))
