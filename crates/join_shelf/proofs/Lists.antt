-- What keeping words does to their list: two words compared by parts, a word put at its place, its rank, how many words
-- there are, and how many bytes they have. Assumes nothing.
use mathlib.Core.Path.{◌≡◌, refl, sym, ◌∙◌, ap, ap₂}
use mathlib.Core.Bool.{Bool, true, false, cond}
use mathlib.Core.Logic.{◌⊎◌, ◌↔◌, inl, inr}
use mathlib.Core.List.Memᴰ
use mathlib.Core.List.{List, [], ◌∷◌, ◌++◌, map, map-append}
use Prim.Native.Nat.{ℕ, zero, suc, ◌+◌, ◌<◌, ◌≤◌}
use native.Mathlib.Omega.{arith}
use lib.Dec.{eqb, ltb}
use lib.ListN.{length, take, drop, length-map}
use Rattle.words.specs.Lists.{◌among◌, up_to}
use Rattle.words.specs.Words.{Word}
use Rattle.words.specs.Order.{Less, Side, lower, same, upper, side, same_word, Rises, put_by, put, rank}
use Rattle.words.proofs.Lists.{map_same, up_to-out, length-up_to}
use Rattle.words.proofs.Ordered.{less-self, less-trans, side-lower, side_same, less-side, same_in, same_out}
use Rattle.words.proofs.Ordered.{rises-same}
use Rattle.words.proofs.Arranged.{put-old, put-out, put-key, put-rises, arranged-in, arranged-out, arranged_is}
use Rattle.words.proofs.Arranged.{arranged-rises}
use Rattle.join_shelf.specs.Shelved.{word_at, words_of, kept, total}

-- two words compared by parts: the bytes of the first part decide, then the rest

abbrev decided : Side → Side → Side
decided lower s = lower
decided same s = s
decided upper s = upper

side-parts : (h t w : Word) → side (h ++ t) w ≡ decided (side h (take (length h) w)) (side t (drop (length h) w))
side-parts [] t w = refl
side-parts (x ∷ h) t [] = refl
side-parts (x ∷ h) t (y ∷ w) = go (eqb x y) (ltb x y) (side-parts h t w)
  where
    go : (b c : Bool) → side (h ++ t) w ≡ decided (side h (take (length h) w)) (side t (drop (length h) w))
        → cond b (side (h ++ t) w) (cond c lower upper)
        ≡ decided (cond b (side h (take (length h) w)) (cond c lower upper)) (side t (drop (length h) w))
    go true c ih = ih
    go false true ih = refl
    go false false ih = refl

pub side-first : (h t w : Word) (s : Side) → s ≡ side h (take (length h) w)
    → decided s (side t (drop (length h) w)) ≡ side (h ++ t) w
side-first h t w s e = ap (λ (s : Side). decided s (side t (drop (length h) w))) e ∙ sym (side-parts h t w)

pub side-short : (h t w : Word) → length w < length h → side (h ++ t) w ≡ side h w
side-short [] t w l = absurd (omega arith)
side-short (x ∷ h) t [] l = refl
side-short (x ∷ h) t (y ∷ w) l =
    ap (λ (s : Side). cond (eqb x y) s (cond (ltb x y) lower upper)) (side-short h t w (omega arith))

-- a word put into a list

abbrev pub add : Word → List Word → List Word
add w l = put (λ (v : Word). v) w l

less-upper : (v w : Word) → Less w v → side v w ≡ upper
less-upper v w h = go (side v w) refl
  where
    go : (s : Side) → side v w ≡ s → s ≡ upper
    go lower e = absurd (less-self v (less-trans v w v (side-lower v w e) h))
    go same e = absurd (less-self v (rw (← side_same v w e) at h))
    go upper e = refl

module _ (w : Word) where
  -- it is there
  pub add-there : (l : List Word) → Rises (λ (v : Word). v) l → w among l → add w l ≡ l
  add-there l r m =
      rises-same (λ (v : Word). v) (add w l) l (put-rises (λ (v : Word). v) w l r) r
      (λ z n. go z (put-out (λ (v : Word). v) w z l n)) (λ z n. put-old (λ (v : Word). v) w z l n)
    where
      go : (z : Word) → (z ≡ w) ⊎ (z among l) → z among l
      go z (inl e) = Memᴰ.cast e m
      go z (inr n) = n

  -- it is new: one word more, with its bytes
  pub add-new : (l : List Word) → (w among l → ⊥)
      → (length (add w l) ≡ suc (length l)) × (total (add w l) ≡ length w + total l)
  add-new [] new = (refl, refl)
  add-new (y ∷ l) new = go (side w y) refl (add-new l (λ m. new (Memᴰ.tail m)))
    where
      go : (s : Side) → side w y ≡ s → (length (add w l) ≡ suc (length l)) × (total (add w l) ≡ length w + total l)
          → (length (put_by (λ (v : Word). v) s w y l (add w l)) ≡ suc (suc (length l)))
          × (total (put_by (λ (v : Word). v) s w y l (add w l)) ≡ length w + (length y + total l))
      go lower e ih = (refl, refl)
      go same e ih = absurd (new (Memᴰ.head (side_same w y e)))
      go upper e ih = (omega arith, omega arith)

  -- new or not, no word and no byte less
  pub add-grows : (l : List Word) → (length l ≤ length (add w l)) × (total l ≤ total (add w l))
  add-grows [] = (omega arith, omega arith)
  add-grows (y ∷ l) = go (side w y) (add-grows l)
    where
      go : (s : Side) → (length l ≤ length (add w l)) × (total l ≤ total (add w l))
          → (suc (length l) ≤ length (put_by (λ (v : Word). v) s w y l (add w l)))
          × (length y + total l ≤ total (put_by (λ (v : Word). v) s w y l (add w l)))
      go lower ih = (omega arith, omega arith)
      go same ih = (omega arith, omega arith)
      go upper ih = (omega arith, omega arith)

  add-in : (l : List Word) → w among add w l
  add-in l = let z = put-key (λ (v : Word). v) w l in Memᴰ.cast z.2 z.1

  -- what is kept of one word more
  pub kept_more : (made : List Word) → kept (made ++ w ∷ []) ≡ add w (kept made)
  kept_more made =
      sym
      (arranged_is (λ (v : Word). v) (λ x y e. e) (made ++ w ∷ []) (add w (kept made))
      (put-rises (λ (v : Word). v) w (kept made) (arranged-rises (λ (v : Word). v) made))
      (λ z. (λ m. to z (put-out (λ (v : Word). v) w z (kept made) m), λ m. fro z (Memᴰ.append_cases made m))))
    where
      to : (z : Word) → (z ≡ w) ⊎ (z among kept made) → z among made ++ w ∷ []
      to z (inl e) = Memᴰ.append_right made (Memᴰ.head e)
      to z (inr m) = Memᴰ.append_left (w ∷ []) (arranged-out (λ (v : Word). v) z made m)

      fro : (z : Word) → (z among made) ⊎ (z among w ∷ []) → z among add w (kept made)
      fro z (inl m) =
          put-old (λ (v : Word). v) w z (kept made) (arranged-in (λ (v : Word). v) (λ x y e. e) z made m)
      fro z (inr m) = Memᴰ.cast (Memᴰ.eq_of_singleton m) (add-in (kept made))

-- what is kept are the words put, and it rises

module _ (made : List Word) where
  pub kept-exact : (z : Word) → (z among kept made) ↔ (z among made)
  kept-exact z =
      (arranged-out (λ (v : Word). v) z made, arranged-in (λ (v : Word). v) (λ x y e. e) z made)

  pub kept-rises : Rises (λ (v : Word). v) (kept made)
  kept-rises = arranged-rises (λ (v : Word). v) made

-- words listed by place

pub words_count : (room : List ℕ) (n : ℕ) → length (words_of room n) ≡ n
words_count room n = length-map (up_to n) (word_at room) ∙ length-up_to n

map-front : {A : Type 0} (f : ℕ → A) (n : ℕ) → map f (up_to (suc n)) ≡ f 0 ∷ map (λ i. f (suc i)) (up_to n)
map-front f zero = refl
map-front {A} f (suc n) =
    map-append f (up_to (suc n)) (suc n ∷ [])
    ∙ ap (λ (l : List A). l ++ f (suc n) ∷ []) (map-front f n)
    ∙ ap (λ (l : List A). f 0 ∷ l) (sym (map-append (λ i. f (suc i)) (up_to n) (n ∷ [])))

module _ (w : Word) where
  -- it comes at a place
  pub add-between : (f g : ℕ → Word) (n p : ℕ) → p ≤ n → ((i : ℕ) → i < p → Less (f i) w) → (p < n → Less w (f p))
      → ((i : ℕ) → i < p → g i ≡ f i) → g p ≡ w → ((i : ℕ) → p ≤ i → i < n → g (suc i) ≡ f i)
      → add w (map f (up_to n)) ≡ map g (up_to (suc n))
  add-between f g zero p l a b before here after =
      let e : p ≡ 0 = omega arith in
      ap (λ (v : Word). v ∷ []) (sym here ∙ ap g e)
  add-between f g (suc n) zero l a b before here after =
      rw (map-front f n, less-side w (f 0) (b (omega arith)), ← map-front f n, map-front g (suc n))
      (ap₂ (λ (v : Word) (l : List Word). v ∷ l) (sym here)
      (map_same f (λ i. g (suc i)) (up_to (suc n)) (λ i m. sym (after i (omega arith) (up_to-out (suc n) i m)))))
  add-between f g (suc n) (suc p) l a b before here after =
      rw (map-front f n, less-upper w (f 0) (a 0 (omega arith)), map-front g (suc n))
      (ap₂ (λ (v : Word) (l : List Word). v ∷ l) (sym (before 0 (omega arith)))
      (add-between (λ i. f (suc i)) (λ i. g (suc i)) n p (omega arith) (λ i h. a (suc i) (omega arith))
      (λ h. b (omega arith)) (λ i h. before (suc i) (omega arith)) here
      (λ i h k. after (suc i) (omega arith) (omega arith))))

  -- its rank is the first place where it is
  pub rank-at : (f : ℕ → Word) (n p : ℕ) → p < n → w ≡ f p → ((i : ℕ) → i < p → w ≡ f i → ⊥)
      → rank (λ (v : Word). v) (map f (up_to n)) w ≡ p
  rank-at f zero p l e a = absurd (omega arith)
  rank-at f (suc n) zero l e a = rw (map-front f n, same_in e)
  rank-at f (suc n) (suc p) l e a =
      rw (map-front f n)
      (go (same_word w (f 0)) refl (rank-at (λ i. f (suc i)) n p (omega arith) e (λ i h. a (suc i) (omega arith))))
    where
      go : (b : Bool) → same_word w (f 0) ≡ b → rank (λ (v : Word). v) (map (λ i. f (suc i)) (up_to n)) w ≡ p
          → cond b 0 (suc (rank (λ (v : Word). v) (map (λ i. f (suc i)) (up_to n)) w)) ≡ suc p
      go true h ih = absurd (a 0 (omega arith) (same_out w (f 0) h))
      go false h ih = ap suc ih
