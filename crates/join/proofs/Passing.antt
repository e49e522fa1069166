-- Words that a loop makes of numbers, put on a shelf one after the other. Assumes nothing.
use mathlib.Core.Path.{◌≡◌, refl, ◌∙◌, ap}
use mathlib.Core.List.{List, [], ◌++◌}
use Prim.Native.Nat.{ℕ, zero, suc, ◌+◌, ◌-◌, ◌<◌, ◌≤◌}
use native.Mathlib.Numerals.{add-one}
use native.Mathlib.Omega.{arith}
use Rattle.words.specs.Lists.{each, up_to}
use Rattle.words.specs.Words.{Word}
use Rattle.words.proofs.Each.{each_more, each_same}
use Rattle.join_shelf.specs.Shelved.{SomeShelved, Gathers}
use Rattle.std.specs.Prelude.{Option, None}
use Rattle.join_shelf.specs.declared.Stock.{Stock}
use Rattle.join_shelf.proofs.Laws.{gathers-none, gathers-full, gathers-as, gathers-both}

-- what a function makes of each number below `n` was put, one after the other
pub record Passing (f : ℕ → List Word) (room : List ℕ) (s : Option Stock) (n : ℕ) (room' : List ℕ) (s' : Option Stock) : Type 0 where
  pub made : Gathers (each f (up_to n)) room s s' room'

module _ {f : ℕ → List Word} {room : List ℕ} {s : Option Stock} where
  pub passing-start : Passing f room s 0 room s
  passing-start = record { made = gathers-none }

  module _ {n : ℕ} {room' : List ℕ} {s' : Option Stock}
      (p : Passing f room s n room' s') where
    pub passing-ready : SomeShelved room s → SomeShelved room' s'
    passing-ready m = (m.0 ++ each f (up_to n), p.made m.0 m.1)

    pub passing-next : {room'' : List ℕ} {s'' : Option Stock}
        → Gathers (f n) room' s' s'' room''
        → Passing f room s (n + 1) room'' s''
    passing-next b = record { made = rw (add-one n) (gathers-as (gathers-both p.made b) (each_more f n)) }

    pub passing-skip : (m : ℕ) → n ≤ m → ((k : ℕ) → n ≤ k → k < m → f k ≡ [])
        → Passing f room s m room' s'
    passing-skip m l h = record { made = gathers-as p.made (each_same f n m l h) }

    -- at the end
    pub passing-end : (m : ℕ) {E : List Word} → n ≡ m → each f (up_to m) ≡ E
        → Gathers E room s s' room'
    passing-end m e g = gathers-as p.made (ap (λ (k : ℕ). each f (up_to k)) e ∙ g)

  -- once there was no room, there is none for all that comes after
  module _ {n : ℕ} {room' : List ℕ} (p : Passing f room s n room' None) where
    passing-full : (k : ℕ) → Passing f room s (n + k) room' None
    passing-full zero = let e : n + 0 ≡ n = omega arith in rw e p
    passing-full (suc k) =
        let e : n + suc k ≡ n + k + 1 = omega arith in
        rw e (passing-next (passing-full k) (gathers-full (f (n + k)) refl))

    pub passing-out : (m : ℕ) {E : List Word} → n ≤ m → each f (up_to m) ≡ E → Gathers E room s None room'
    passing-out m l g =
        let e : n + (m - n) ≡ m = omega arith in
        passing-end (passing-full (m - n)) m e g
