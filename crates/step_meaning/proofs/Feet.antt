-- Feet and seats, words for what a link stands on, compare as links do. Assumes nothing.
use mathlib.Core.Path.{◌≡◌, refl, ap}
use mathlib.Core.Bool.{true}
use mathlib.Core.Option.{some, none}
use mathlib.Core.List.{[], ◌∷◌, head-eq_of_cons-eq, tail-eq_of_cons-eq}
use Prim.Native.Nat.{ℕ, suc}
use Rattle.words.specs.Lists.{Exact}
use Rattle.words.specs.Words.{Word}
use Rattle.words.proofs.Exact.{exact-as, exact_same, same-exact}
use Rattle.meaning.specs.Trails.{Link, on, pair_key}
use Rattle.meaning.proofs.Stands.{link_key-one}
use Rattle.session_meaning.specs.Sessions.{stands_on}
use Rattle.session_meaning.proofs.Tests.{stands-exact}
use Rattle.step_meaning.specs.Stepping.{foot, seat, has_foot}

pub foot-exact : (f : Word) (k : Link) → Exact (foot k ≡ f) (has_foot f k)
foot-exact f k = same-exact (foot k) f

-- the first number of a foot is the level
pub foot-level : (n : ℕ) (f : Word) (k : Link) → has_foot (n ∷ f) k ≡ true → k.level ≡ n
foot-level n f k h = head-eq_of_cons-eq ((foot-exact (n ∷ f) k).1 h)

-- links with one pair and one foot are the same
feet-one : (k l : Link) → k.here ≡ l.here → foot k ≡ foot l → k ≡ l
feet-one k l h e =
    let a = head-eq_of_cons-eq e in
    let b = tail-eq_of_cons-eq e in
    link_key-one k l (λ i. a i ∷ (h i).state ∷ (h i).marker ∷ b i)

-- what has its foot at the seat of a link stands on that link
pub seat-exact : (l k : Link) → Exact (k ≡ on k.here.state k.here.marker l) (has_foot (seat l) k)
seat-exact l k =
    exact-as (feet-one k (on k.here.state k.here.marker l) refl, ap foot) (foot-exact (seat l) k)

pub seat-stands : (l k : Link) → has_foot (seat l) k ≡ stands_on l k
seat-stands l k = exact_same (seat-exact l k) (stands-exact l k)

pub seat-level : (l k : Link) → has_foot (seat l) k ≡ true → k.level ≡ suc l.level
seat-level l k h = foot-level (suc l.level) (pair_key (some l.here)) k h

-- what has its foot at the bottom is at level 0, with nothing below
pub lowest-exact : (k : Link) → Exact ((k.level ≡ 0) × (k.below ≡ none)) (has_foot (0 ∷ []) k)
lowest-exact k = exact-as (to, λ h i. h.0 i ∷ pair_key (h.1 i)) (foot-exact (0 ∷ []) k)
  where
    to : foot k ≡ 0 ∷ [] → (k.level ≡ 0) × (k.below ≡ none)
    to e =
        let f = feet-one k (record { level = 0; here = k.here; below = none }) refl e in
        (ap (λ (l : Link). l.level) f, ap (λ (l : Link). l.below) f)

pub foot-own : (l : Link) → has_foot (foot l) l ≡ true
foot-own l = (foot-exact (foot l) l).0 refl
