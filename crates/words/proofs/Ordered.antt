-- Laws of the order of words and of lists that rise strictly. Assumes nothing.
use mathlib.Core.Path.{◌≡◌, refl, sym, ◌∙◌, ap}
use mathlib.Core.Bool.{Bool, true, false, cond, false≢true}
use mathlib.Core.Logic.{◌⊎◌, inl, inr, ⊎_elim}
use mathlib.Core.List.Memᴰ
use mathlib.Core.List.{List, [], ◌∷◌, ◌++◌}
use mathlib.Core.List.{map, map-append}
use Prim.Native.Nat.{ℕ, zero, suc, ◌-◌, ◌<◌, ◌≤◌}
use native.Mathlib.Nat.{eq-zero-or-pos}
use native.Mathlib.Omega.{arith}
use lib.Dec.{eqb, ltb}
use borrow.Author.Tests.{eqb-true, eqb-false, ltb-true, ltb-false, eq-eqb}
use Rattle.words.specs.Lists.{◌among◌, each, only, up_to, Distinct}
use Rattle.words.specs.Words.{Word}
use Rattle.words.proofs.Lists.{passing-out, up_to-in, up_to-out, below_or}
use Rattle.words.specs.Order.{Less, Side, lower, same, upper, side, is_same, same_word, Rises}

pub less-self : (xs : Word) → Less xs xs → ⊥
less-self [] h = h
less-self (x ∷ xs) (inl h) = omega arith
less-self (x ∷ xs) (inr h) = less-self xs h.1

pub less-trans : (xs ys zs : Word) → Less xs ys → Less ys zs → Less xs zs
less-trans [] [] zs h k = absurd h
less-trans [] (y ∷ ys) [] h k = absurd k
less-trans [] (y ∷ ys) (z ∷ zs) h k = tt
less-trans (x ∷ xs) [] zs h k = absurd h
less-trans (x ∷ xs) (y ∷ ys) [] h k = absurd k
less-trans (x ∷ xs) (y ∷ ys) (z ∷ zs) (inl h) (inl k) = inl (omega arith)
less-trans (x ∷ xs) (y ∷ ys) (z ∷ zs) (inl h) (inr k) = let e = k.0 in inl (omega arith)
less-trans (x ∷ xs) (y ∷ ys) (z ∷ zs) (inr h) (inl k) = let e = h.0 in inl (omega arith)
less-trans (x ∷ xs) (y ∷ ys) (z ∷ zs) (inr h) (inr k) = inr (h.0 ∙ k.0, less-trans xs ys zs h.1 k.1)

-- what the side says
abbrev Says : Side → Word → Word → Type 0
Says lower xs ys = Less xs ys
Says same xs ys = xs ≡ ys
Says upper xs ys = Less ys xs

says_first : (x y : ℕ) (xs ys : Word) → eqb x y ≡ false → (b : Bool) → ltb x y ≡ b
    → Says (cond b lower upper) (x ∷ xs) (y ∷ ys)
says_first x y xs ys n true e = inl (ltb-true x y e)
says_first x y xs ys n false e = inl (let d = eqb-false x y n in omega (arith, ltb-false x y e))

says-next : (s : Side) (x y : ℕ) (xs ys : Word) → x ≡ y → Says s xs ys → Says s (x ∷ xs) (y ∷ ys)
says-next lower x y xs ys e h = inr (e, h)
says-next same x y xs ys e h = cc
says-next upper x y xs ys e h = inr (sym e, h)

says : (xs ys : Word) → Says (side xs ys) xs ys
says [] [] = refl
says [] (y ∷ ys) = tt
says (x ∷ xs) [] = tt
says (x ∷ xs) (y ∷ ys) = go (eqb x y) refl (says xs ys)
  where
    go : (b : Bool) → eqb x y ≡ b → Says (side xs ys) xs ys
        → Says (cond b (side xs ys) (cond (ltb x y) lower upper)) (x ∷ xs) (y ∷ ys)
    go true e h = says-next (side xs ys) x y xs ys (eqb-true x y e) h
    go false e h = says_first x y xs ys e (ltb x y) refl

pub side-lower : (xs ys : Word) → side xs ys ≡ lower → Less xs ys
side-lower xs ys e = rw e at (says xs ys)

pub side_same : (xs ys : Word) → side xs ys ≡ same → xs ≡ ys
side_same xs ys e = rw e at (says xs ys)

pub side-upper : (xs ys : Word) → side xs ys ≡ upper → Less ys xs
side-upper xs ys e = rw e at (says xs ys)

pub side-self : (xs : Word) → side xs xs ≡ same
side-self [] = refl
side-self (x ∷ xs) = rw (eq-eqb x x refl) (side-self xs)

pub same≢lower : same ≡ lower → ⊥
same≢lower e = let z : ◌≡◌ {A = ℕ} 0 1 = cc in omega arith

pub upper≢lower : upper ≡ lower → ⊥
upper≢lower e = let z : ◌≡◌ {A = ℕ} 0 1 = cc in omega arith

pub less-side : (xs ys : Word) → Less xs ys → side xs ys ≡ lower
less-side xs ys h = go (side xs ys) (says xs ys)
  where
    go : (s : Side) → Says s xs ys → s ≡ lower
    go lower k = refl
    go same k = absurd (less-self ys (rw k at h))
    go upper k = absurd (less-self xs (less-trans xs ys xs h k))

-- the test of sameness
pub same_out : (xs ys : Word) → same_word xs ys ≡ true → xs ≡ ys
same_out xs ys e = go (side xs ys) (says xs ys) e
  where
    go : (s : Side) → Says s xs ys → is_same s ≡ true → xs ≡ ys
    go lower h e = absurd (false≢true e)
    go same h e = h
    go upper h e = absurd (false≢true e)

pub same_in : {xs ys : Word} → xs ≡ ys → same_word xs ys ≡ true
same_in {ys} e = rw e (ap is_same (side-self ys))

module _ {A : Type 0} (key : A → Word) where
  tail-in : (x y : A) (l k : List A) → x ≡ y → Rises key (x ∷ l) → ((z : A) → z among x ∷ l → z among y ∷ k)
      → (z : A) → z among l → z among k
  tail-in x y l k e r f z m = go (Memᴰ.cases_cons (f z (Memᴰ.tail m)))
    where
      go : (z ≡ y) ⊎ (z among k) → z among k
      go (inl d) = absurd (less-self (key z) (ap-less (e ∙ sym d) (r.0 z m)))
        where
          ap-less : x ≡ z → Less (key x) (key z) → Less (key z) (key z)
          ap-less c h = rw c at h
      go (inr n) = n

  -- lists that rise strictly and have the same in them are the same
  pub rises-same : (l k : List A) → Rises key l → Rises key k
      → ((z : A) → z among l → z among k) → ((z : A) → z among k → z among l) → l ≡ k
  rises-same [] [] r s f g = refl
  rises-same [] (y ∷ k) r s f g = elim (g y (Memᴰ.head refl)) [ ]
  rises-same (x ∷ l) [] r s f g = elim (f x (Memᴰ.head refl)) [ ]
  rises-same (x ∷ l) (y ∷ k) r s f g =
      let m = Memᴰ.cases_cons (f x (Memᴰ.head refl)) in
      let e = heads m (Memᴰ.cases_cons (g y (Memᴰ.head refl))) in
      let t = rises-same l k r.1 s.1 (tail-in x y l k e r f) (tail-in y x k l (sym e) s g) in
      cc
    where
      heads : (x ≡ y) ⊎ (x among k) → (y ≡ x) ⊎ (y among l) → x ≡ y
      heads (inl e) d = e
      heads (inr m) (inl e) = sym e
      heads (inr m) (inr n) = absurd (less-self (key x) (less-trans (key x) (key y) (key x) (r.0 y n) (s.0 x m)))

  -- in a rising list a key is there once
  pub rises-one : (l : List A) → Rises key l → (x y : A) → x among l → y among l → key x ≡ key y → x ≡ y
  rises-one [] r x y x6 _ e = elim x6 [ ]
  rises-one (z ∷ l) r x y (Memᴰ.head a) (Memᴰ.head b) e = a ∙ sym b
  rises-one (z ∷ l) r x y (Memᴰ.head a) (Memᴰ.tail n) e =
      let k : key z ≡ key y = ap key (sym a) ∙ e in
      absurd (less-self (key y) (rw k at (r.0 y n)))
  rises-one (z ∷ l) r x y (Memᴰ.tail m) (Memᴰ.head b) e =
      let k : key z ≡ key x = ap key (sym b) ∙ sym e in
      absurd (less-self (key x) (rw k at (r.0 x m)))
  rises-one (z ∷ l) r x y (Memᴰ.tail m) (Memᴰ.tail n) e = rises-one l r.1 x y m n e

  pub rises-distinct : (l : List A) → Rises key l → Distinct l
  rises-distinct [] r = tt
  rises-distinct (x ∷ l) r = (λ m. less-self (key x) (r.0 x m), rises-distinct l r.1)

  pub rises-append : (l m : List A) → Rises key l → Rises key m
      → ((x y : A) → x among l → y among m → Less (key x) (key y)) → Rises key (l ++ m)
  rises-append [] m r s h = s
  rises-append (x ∷ l) m r s h =
      (λ y i. go y (Memᴰ.append_cases l i), rises-append l m r.1 s (λ a b i. h a b (Memᴰ.tail i)))
    where
      go : (y : A) → (y among l) ⊎ (y among m) → Less (key x) (key y)
      go y (inl i) = r.0 y i
      go y (inr i) = h x y (Memᴰ.head refl) i

  pub rises-parts : (l m : List A) → Rises key (l ++ m)
      → Rises key l × ((x y : A) → x among l → y among m → Less (key x) (key y))
  rises-parts [] m r = (tt, λ x y i j. elim i [ ])
  rises-parts (z ∷ l) m r =
      let p = rises-parts l m r.1 in
      ((λ y i. r.0 y (Memᴰ.append_left m i), p.0), λ x y i j. go x y (Memᴰ.cases_cons i) j p.1)
    where
      go : (x y : A) → (x ≡ z) ⊎ (x among l) → y among m
          → ((x y : A) → x among l → y among m → Less (key x) (key y)) → Less (key x) (key y)
      go x y (inl e) j ih = rw e (r.0 y (Memᴰ.append_right l j))
      go x y (inr i) j ih = ih x y i j

  -- those of a rising list that pass a test rise
  pub rises-passing : (test : A → Bool) (l : List A) → Rises key l → Rises key (each (λ x. only (test x) x) l)
  rises-passing test [] r = tt
  rises-passing test (x ∷ l) r = go (test x) (rises-passing test l r.1)
    where
      go : (b : Bool) → Rises key (each (λ x. only (test x) x) l)
          → Rises key (only b x ++ each (λ x. only (test x) x) l)
      go true s = (λ y m. r.0 y (passing-out test l m).0, s)
      go false s = s

  -- a list made of the numbers below `n`, in their order
  module _ (f : ℕ → A) where
    abbrev RisesBelow : ℕ → Type 0
    RisesBelow n = (i j : ℕ) → i < j → j < n → Less (key (f i)) (key (f j))

    pub rises-out : (n : ℕ) → Rises key (map f (up_to n)) → RisesBelow n
    rises-out zero r i j l h = absurd (omega arith)
    rises-out (suc n) r i j l h =
        let p = rises-parts (map f (up_to n)) (f n ∷ []) (rw (map-append f (up_to n) (n ∷ [])) at r) in
        go (below_or j n) (λ k. rises-out n p.0 i j l k) p.1
      where
        go : (j < n) ⊎ (n ≤ j) → (j < n → Less (key (f i)) (key (f j)))
            → ((x y : A) → x among map f (up_to n) → y among f n ∷ [] → Less (key x) (key y))
            → Less (key (f i)) (key (f j))
        go (inl k) ih p = ih k
        go (inr k) ih p =
            let e : j ≡ n = omega arith in
            rw e (p (f i) (f n) (Memᴰ.map f (up_to-in n i (omega arith))) (Memᴰ.head refl))

    pub rises-in : (n : ℕ) → RisesBelow n → Rises key (map f (up_to n))
    rises-in zero h = tt
    rises-in (suc n) h =
        rw (map-append f (up_to n) (n ∷ []))
        (rises-append (map f (up_to n)) (f n ∷ []) (rises-in n (λ i j l k. h i j l (omega arith)))
        (λ y m. elim m [ ], tt)
        (λ x y i m. go x y (Memᴰ.of_map f (up_to n) i) (Memᴰ.eq_of_singleton m)))
      where
        go : (x y : A) → (i : ℕ) × (i among up_to n) × (f i ≡ x) → y ≡ f n → Less (key x) (key y)
        go x y i e = rw (← i.2, e) (h i.0 n (up_to-out n i.0 i.1) (omega arith))

-- the first of two numbers is below, or it is the same and the rest decides
pub first_below : (x y : ℕ) {Q : Type 0} → x ≤ y → (x ≡ y → Q) → (x < y) ⊎ ((x ≡ y) × Q)
first_below x y h k =
    ⊎_elim (λ e. inr (omega arith, k (omega arith))) (λ l. inl (omega arith)) (eq-zero-or-pos (y - x))

pub first-same : (x y : ℕ) {Q : Type 0} → x ≡ y → (x < y) ⊎ ((x ≡ y) × Q) → Q
first-same x y e (inl h) = absurd (omega arith)
first-same x y e (inr h) = h.1

pub first-less : {m n : ℕ} → Less (m ∷ []) (n ∷ []) → m < n
first-less (inl h) = h
first-less (inr h) = absurd h.1

-- what a function that keeps the order makes of a rising list rises
module _ {A B : Type 0} (key : A → Word) (key' : B → Word) (f : A → B)
    (keeps : (x y : A) → Less (key x) (key y) → Less (key' (f x)) (key' (f y))) where
  pub rises-map : (l : List A) → Rises key l → Rises key' (map f l)
  rises-map [] r = tt
  rises-map (x ∷ l) r = (λ y m. go y (Memᴰ.of_map f l m), rises-map l r.1)
    where
      go : (y : B) → (z : A) × (z among l) × (f z ≡ y) → Less (key' (f x)) (key' y)
      go y z = rw (← z.2) (keeps x z.0 (r.0 z.0 z.1))
