-- The only rising list with given members, and the rank of a thing in a list. Assumes nothing.
use mathlib.Core.Path.{◌≡◌, refl, sym, ◌∙◌, ap}
use mathlib.Core.Logic.{◌⊎◌, inl, inr, ◌↔◌}
use mathlib.Core.List.Memᴰ
use mathlib.Core.List.{List, [], ◌∷◌}
use mathlib.Core.Bool.{Bool, true, false, cond, true≢false}
use Prim.Native.Nat.{suc, ◌<◌}
use native.Mathlib.Omega.{arith}
use lib.ListN.{length}
use Rattle.words.specs.Lists.{◌among◌}
use Rattle.words.specs.Words.{Word}
use Rattle.words.specs.Order.{Less, Side, lower, same, upper, side, Rises, put_by, put, arranged, same_word, rank}
use Rattle.words.proofs.Ordered.{less-trans, side-lower, side_same, side-upper, same_out, same_in, rises-same}

module _ {A : Type 0} (key : A → Word) where
  -- what is in it

  pub put-old : (x z : A) (l : List A) → z among l → z among put key x l
  put-old x z [] m = elim m [ ]
  put-old x z (y ∷ l) m = go (side (key x) (key y)) m (λ n. put-old x z l n)
    where
      go : (s : Side) → z among y ∷ l → (z among l → z among put key x l) → z among put_by key s x y l (put key x l)
      go lower m ih = Memᴰ.tail m
      go same m ih = m
      go upper (Memᴰ.head e) ih = Memᴰ.head e
      go upper (Memᴰ.tail m) ih = Memᴰ.tail (ih m)

  pub put-out : (x z : A) (l : List A) → z among put key x l → (z ≡ x) ⊎ (z among l)
  put-out x z [] (Memᴰ.head e) = inl e
  put-out x z [] (Memᴰ.tail m) = inr m
  put-out x z (y ∷ l) m = go (side (key x) (key y)) m (λ n. put-out x z l n)
    where
      go : (s : Side) → z among put_by key s x y l (put key x l) → (z among put key x l → (z ≡ x) ⊎ (z among l))
          → (z ≡ x) ⊎ (z among y ∷ l)
      go lower (Memᴰ.head e) ih = inl e
      go lower (Memᴰ.tail m) ih = inr m
      go same m ih = inr m
      go upper (Memᴰ.head e) ih = inr (Memᴰ.head e)
      go upper (Memᴰ.tail m) ih = deeper (ih m)
        where
          deeper : (z ≡ x) ⊎ (z among l) → (z ≡ x) ⊎ (z among y ∷ l)
          deeper (inl e) = inl e
          deeper (inr n) = inr (Memᴰ.tail n)

  pub arranged-out : (z : A) (l : List A) → z among arranged key l → z among l
  arranged-out z [] m = elim m [ ]
  arranged-out z (x ∷ l) m = go (put-out x z (arranged key l) m) (λ n. arranged-out z l n)
    where
      go : (z ≡ x) ⊎ (z among arranged key l) → (z among arranged key l → z among l) → z among x ∷ l
      go (inl e) ih = Memᴰ.head e
      go (inr n) ih = Memᴰ.tail (ih n)

  -- something with the key of what was put
  pub put-key : (x : A) (l : List A) → (z : A) × (z among put key x l) × (key x ≡ key z)
  put-key x [] = (x, Memᴰ.head refl, refl)
  put-key x (y ∷ l) = go (side (key x) (key y)) refl (put-key x l)
    where
      go : (s : Side) → side (key x) (key y) ≡ s → (z : A) × (z among put key x l) × (key x ≡ key z)
          → (z : A) × (z among put_by key s x y l (put key x l)) × (key x ≡ key z)
      go lower e ih = (x, Memᴰ.head refl, refl)
      go same e ih = (y, Memᴰ.head refl, side_same (key x) (key y) e)
      go upper e ih = (ih.0, Memᴰ.tail ih.1, ih.2)

  -- it rises
  pub put-rises : (x : A) (l : List A) → Rises key l → Rises key (put key x l)
  put-rises x [] r = (λ y m. elim m [ ], tt)
  put-rises x (y ∷ l) r = go (side (key x) (key y)) refl (put-rises x l r.1)
    where
      after : (s : Side) → Less (key x) (key y) → (z : A) → z among y ∷ l → Less (key x) (key z)
      after s h z (Memᴰ.head e) = rw e h
      after s h z (Memᴰ.tail m) = less-trans (key x) (key y) (key z) h (r.0 z m)

      before : Less (key y) (key x) → (z : A) → (z ≡ x) ⊎ (z among l) → Less (key y) (key z)
      before h z (inl e) = rw e h
      before h z (inr m) = r.0 z m

      go : (s : Side) → side (key x) (key y) ≡ s → Rises key (put key x l) → Rises key (put_by key s x y l (put key x l))
      go lower e ih = (after lower (side-lower (key x) (key y) e), r)
      go same e ih = r
      go upper e ih = (λ z m. before (side-upper (key x) (key y) e) z (put-out x z l m), ih)

  pub arranged-rises : (l : List A) → Rises key (arranged key l)
  arranged-rises [] = tt
  arranged-rises (x ∷ l) = put-rises x (arranged key l) (arranged-rises l)

  -- what has another key than the first is among the rest
  tail_of : (x y : A) (l : List A) → x among y ∷ l → same_word (key x) (key y) ≡ false → x among l
  tail_of x y l (Memᴰ.head e) n = absurd (true≢false (sym (same_in (ap key e)) ∙ n))
  tail_of x y l (Memᴰ.tail m) n = m

  module _ (one : (x y : A) → key x ≡ key y → x ≡ y) where
    put-new : (x : A) (l : List A) → x among put key x l
    put-new x l = let z = put-key x l in Memᴰ.cast (one x z.0 z.2) z.1

    pub arranged-in : (z : A) (l : List A) → z among l → z among arranged key l
    arranged-in z [] x' = elim x' [ ]
    arranged-in z (x ∷ l) (Memᴰ.head e) = rw e (put-new x (arranged key l))
    arranged-in z (x ∷ l) (Memᴰ.tail m) = put-old x z (arranged key l) (arranged-in z l m)

    -- it is the one list that rises and has the same in it
    pub arranged_is : (l m : List A) → Rises key m → ((z : A) → (z among m) ↔ (z among l)) → m ≡ arranged key l
    arranged_is l m r h =
        rises-same key m (arranged key l) r (arranged-rises l)
        (λ z i. arranged-in z l ((h z).0 i)) (λ z i. (h z).1 (arranged-out z l i))

    -- no two things in a list have one rank
    pub rank-one : (l : List A) (x y : A) → x among l → y among l → rank key l x ≡ rank key l y → x ≡ y
    rank-one [] x y m n e = elim m [ ]
    rank-one (z ∷ l) x y m n e =
        go (same_word (key x) (key z)) refl (same_word (key y) (key z)) refl e (rank-one l x y)
      where
        go : (b : Bool) → same_word (key x) (key z) ≡ b → (c : Bool) → same_word (key y) (key z) ≡ c
            → cond b 0 (suc (rank key l x)) ≡ cond c 0 (suc (rank key l y))
            → (x among l → y among l → rank key l x ≡ rank key l y → x ≡ y) → x ≡ y
        go true d true f e ih = one x z (same_out (key x) (key z) d) ∙ sym (one y z (same_out (key y) (key z) f))
        go true d false f e ih = absurd (omega arith)
        go false d true f e ih = absurd (omega arith)
        go false d false f e ih = ih (tail_of x z l m d) (tail_of y z l n f) (omega arith)

  -- a rank is below the length
  pub rank_below : (l : List A) (x : A) → x among l → rank key l x < length l
  rank_below [] x m = elim m [ ]
  rank_below (y ∷ l) x m = go (same_word (key x) (key y)) refl (rank_below l x)
    where
      go : (b : Bool) → same_word (key x) (key y) ≡ b → (x among l → rank key l x < length l)
          → cond b 0 (suc (rank key l x)) < suc (length l)
      go true e ih = omega arith
      go false e ih = let h = ih (tail_of x y l m e) in omega arith
