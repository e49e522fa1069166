-- Things kept by a key, as the words of a shelf: their order and their rank, and that those which outgrow a shelf are
-- too many. Assumes nothing.
use mathlib.Core.Path.{◌≡◌, refl, ◌∙◌, ap}
use mathlib.Core.Bool.{cond}
use mathlib.Core.Logic.{◌⊎◌, inl, inr}
use mathlib.Core.List.Memᴰ
use mathlib.Core.List.{List, [], ◌∷◌, map}
use Prim.Native.Nat.{ℕ, suc, ◌*◌, ◌<◌, ◌≤◌}
use native.Mathlib.Nat.{mul-suc, mul-le-mul_left}
use native.Mathlib.Omega.{arith}
use lib.ListN.{length}
use Rattle.words.specs.Lists.{◌among◌}
use Rattle.words.specs.Words.{Word}
use Rattle.words.specs.Order.{Side, lower, same, upper, side, same_word, put_by, put, arranged, rank}
use Rattle.words.proofs.Lists.{below_or}
use Rattle.join_shelf.specs.Shelved.{shelf_cap, shelf_room, kept, total}
use Rattle.join_shelf.proofs.Lists.{kept-exact}
use Rattle.join_shelf.proofs.Laws.{Outgrown}

-- things arranged by a key are the kept words that are their keys

module _ {A : Type 0} (key : A → Word) where
  map-put : (x : A) (l : List A) → map key (put key x l) ≡ put (λ (w : Word). w) (key x) (map key l)
  map-put x [] = refl
  map-put x (y ∷ l) = go (side (key x) (key y)) (map-put x l)
    where
      go : (s : Side) → map key (put key x l) ≡ put (λ (w : Word). w) (key x) (map key l)
          → map key (put_by key s x y l (put key x l))
          ≡ put_by (λ (w : Word). w) s (key x) (key y) (map key l) (put (λ (w : Word). w) (key x) (map key l))
      go lower ih = refl
      go same ih = refl
      go upper ih = ap (λ (m : List Word). key y ∷ m) ih

  pub keys_kept : (l : List A) → map key (arranged key l) ≡ kept (map key l)
  keys_kept [] = refl
  keys_kept (x ∷ l) =
      map-put x (arranged key l) ∙ ap (put (λ (w : Word). w) (key x)) (keys_kept l)

  pub keys-rank : (l : List A) (x : A) → rank key l x ≡ rank (λ (w : Word). w) (map key l) (key x)
  keys-rank [] x = refl
  keys-rank (y ∷ l) x = ap (λ (n : ℕ). cond (same_word (key x) (key y)) 0 (suc n)) (keys-rank l x)

-- words that are all short outgrow a shelf only by their number
total-short : (most : ℕ) (l : List Word) → ((w : Word) → w among l → length w ≤ most) → total l ≤ most * length l
total-short most [] h = omega arith
total-short most (w ∷ l) h =
    let e = h w (Memᴰ.head refl) in
    let t = total-short most l (λ v m. h v (Memᴰ.tail m)) in
    omega (arith, mul-suc most (length l))

pub outgrown-short : (most count : ℕ) (made : List Word) → ((w : Word) → w among made → length w ≤ most)
    → count ≤ shelf_cap → most * count ≤ shelf_room → Outgrown made → count < length (kept made)
outgrown-short most count made h few room (inl o) = omega arith
outgrown-short most count made h few room (inr o) = go (below_or count (length (kept made)))
  where
    bytes : total (kept made) ≤ most * length (kept made)
    bytes = total-short most (kept made) (λ w m. h w ((kept-exact made w).0 m))

    go : (count < length (kept made)) ⊎ (length (kept made) ≤ count) → count < length (kept made)
    go (inl l) = l
    go (inr l) = absurd (omega (arith, bytes, mul-le-mul_left most l))
