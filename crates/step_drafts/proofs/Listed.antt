-- Things listed by place, from one place on; and what putting one more among them makes. Assumes nothing.
use mathlib.Core.Path.{◌≡◌, refl, sym, ◌∙◌, ap, ap₂, subst}
use mathlib.Core.Logic.{◌⊎◌, inl, inr}
use mathlib.Core.List.Memᴰ
use mathlib.Core.List.{List, [], ◌∷◌, map}
use Prim.Native.Nat.{ℕ, zero, suc, ◌+◌, ◌-◌, ◌<◌, ◌≤◌}
use native.Mathlib.Numerals.{add-one}
use native.Mathlib.Omega.{arith}
use lib.ListN.{length, get_or, drop, length-drop, drop_of_length-le, length-map}
use lib.Seq.{ext_get_or, get_or-drop, drop-cons}
use Rattle.words.specs.Lists.{◌among◌, up_to}
use Rattle.words.specs.Words.{Word}
use Rattle.words.specs.Order.{Less, Side, lower, same, upper, side, put_by, put}
use Rattle.words.proofs.Lists.{length-up_to, get_or-map-up_to, get_or-among, below_or}
use Rattle.words.proofs.Ordered.{less-self, less-trans, side-lower, side_same, side-self, less-side}

module _ {A : Type 0} where
  abbrev pub part : (ℕ → A) → ℕ → ℕ → List A
  part f a n = drop a (map f (up_to n))

  pub length-all : (f : ℕ → A) (n : ℕ) → length (map f (up_to n)) ≡ n
  length-all f n = length-map (up_to n) f ∙ length-up_to n

  pub part_length : (f : ℕ → A) (a n : ℕ) → length (part f a n) ≡ n - a
  part_length f a n = length-drop a (map f (up_to n)) ∙ ap (λ (k : ℕ). k - a) (length-all f n)

  pub part_at : (f : ℕ → A) (a n k : ℕ) (d : A) → a + k < n → get_or (part f a n) k d ≡ f (a + k)
  part_at f a n k d lt = get_or-drop a (map f (up_to n)) k d ∙ get_or-map-up_to f n (a + k) d lt

  pub part_same : (f g : ℕ → A) (a b n m : ℕ) → n - a ≡ m - b → ((k : ℕ) → a + k < n → f (a + k) ≡ g (b + k))
      → part f a n ≡ part g b m
  part_same f g a b n m e h =
      ext_get_or (f 0) (part f a n) (part g b m) (part_length f a n ∙ e ∙ sym (part_length g b m))
      (λ i l.
      let p : i < n - a = omega (arith, part_length f a n) in
      let s : a + i < n = omega arith in
      part_at f a n i (f 0) s ∙ h i s ∙ sym (part_at g b m i (f 0) (omega arith)))

  pub part-cons : (f : ℕ → A) (a n : ℕ) → a < n → part f a n ≡ f a ∷ part f (a + 1) n
  part-cons f a n lt =
      let d = f a in
      drop-cons (map f (up_to n)) a d (omega (arith, length-all f n))
      ∙ ap₂ (λ (x : A) (k : ℕ). x ∷ part f k n) (get_or-map-up_to f n a d lt) (sym (add-one a))

  pub part_none : (f : ℕ → A) (a n : ℕ) → n ≤ a → part f a n ≡ []
  part_none f a n le =
      let l : length (map f (up_to n)) ≤ a = omega (arith, length-all f n) in
      drop_of_length-le (map f (up_to n)) l

  pub part_in : (f : ℕ → A) (a n i : ℕ) → a ≤ i → i < n → f i among part f a n
  part_in f a n i ge lt =
      let e : a + (i - a) ≡ i = omega arith in
      subst (λ (x : A). x among part f a n) (part_at f a n (i - a) (f a) (omega arith) ∙ ap f e)
      (get_or-among (part f a n) (i - a) (f a) (omega (arith, part_length f a n)))

  pub part_out : (f : ℕ → A) (a n : ℕ) {z : A} → z among part f a n → (i : ℕ) × (a ≤ i) × (i < n) × (z ≡ f i)
  part_out f a n {z} m = go (n - a) a refl m
    where
      go : (s b : ℕ) → n - b ≡ s → z among part f b n → (i : ℕ) × (b ≤ i) × (i < n) × (z ≡ f i)
      go zero b e m = elim (subst (λ (l : List A). z among l) (part_none f b n (omega arith)) m) [ ]
      go (suc s) b e m =
          let lt : b < n = omega arith in
          at (Memᴰ.cases_cons (subst (λ (l : List A). z among l) (part-cons f b n lt) m))
          (go s (b + 1) (omega arith))
        where
          Found : ℕ → Type 0
          Found b = (i : ℕ) × (b ≤ i) × (i < n) × (z ≡ f i)

          at : (z ≡ f b) ⊎ (z among part f (b + 1) n) → (z among part f (b + 1) n → Found (b + 1)) → Found b
          at (inl h) ih = (b, omega arith, omega arith, h)
          at (inr h) ih =
              let r = ih h in
              let g = r.1 in
              (r.0, omega arith, r.2, r.3)

less-upper : (xs ys : Word) → Less ys xs → side xs ys ≡ upper
less-upper xs ys h = go (side xs ys) refl
  where
    go : (s : Side) → side xs ys ≡ s → s ≡ upper
    go lower e = absurd (less-self xs (less-trans xs ys xs (side-lower xs ys e) h))
    go same e = absurd (less-self xs (rw (← side_same xs ys e) at h))
    go upper e = refl

-- what is put among things that rise

module _ {A : Type 0} (key : A → Word) (x : A) where
  -- one more, where its key is not there
  pub put-longer : (l : List A) → ((y : A) → y among l → key x ≡ key y → ⊥) → length (put key x l) ≡ suc (length l)
  put-longer [] h = refl
  put-longer (y ∷ l) h = go (side (key x) (key y)) refl (put-longer l (λ z m. h z (Memᴰ.tail m)))
    where
      go : (s : Side) → side (key x) (key y) ≡ s → length (put key x l) ≡ suc (length l)
          → length (put_by key s x y l (put key x l)) ≡ suc (suc (length l))
      go lower e ih = refl
      go same e ih = absurd (h y (Memᴰ.head refl) (side_same (key x) (key y) e))
      go upper e ih = ap suc ih

  module _ (f : ℕ → A) (n p : ℕ) (below : (i : ℕ) → i < p → Less (key (f i)) (key x)) where
    -- those below it come first
    past : (Q : List A → List A → Type 0) → ((y : A) (k l : List A) → Q k l → Q (y ∷ k) (y ∷ l)) → p ≤ n
        → Q (put key x (part f p n)) (part f p n) → (m a : ℕ) → a + m ≡ p → Q (put key x (part f a n)) (part f a n)
    past Q more le here zero a e =
        let d : p ≡ a = omega arith in
        subst (λ (a : ℕ). Q (put key x (part f a n)) (part f a n)) d here
    past Q more le here (suc m) a e =
        let ih = past Q more le here m (a + 1) (omega arith) in
        rw (part-cons f a n (omega arith), less-upper (key x) (key (f a)) (below a (omega arith)))
        (more (f a) (put key x (part f (a + 1) n)) (part f (a + 1) n) ih)

    -- its key is there
    pub put-there : p < n → key x ≡ key (f p) → put key x (map f (up_to n)) ≡ map f (up_to n)
    put-there lt e =
        past (λ k l. k ≡ l) (λ y k l h. ap (λ (l : List A). y ∷ l) h) (omega arith)
        (rw (part-cons f p n lt, ← e, side-self (key x))) p 0 (omega arith)

    -- it comes at a place
    pub put-between : (g : ℕ → A) → p ≤ n → (p < n → Less (key x) (key (f p))) → ((i : ℕ) → i < p → g i ≡ f i) → g p ≡ x
        → ((i : ℕ) → p ≤ i → i < n → g (i + 1) ≡ f i) → put key x (map f (up_to n)) ≡ map g (up_to (n + 1))
    put-between g le above before here after = all p 0 (omega arith)
      where
        first : put key x (part f p n) ≡ x ∷ part f p n
        first = go (below_or p n)
          where
            go : (p < n) ⊎ (n ≤ p) → put key x (part f p n) ≡ x ∷ part f p n
            go (inl lt) = rw (part-cons f p n lt, less-side (key x) (key (f p)) (above lt))
            go (inr ge) = rw (part_none f p n ge)

        all : (m a : ℕ) → a + m ≡ p → put key x (part f a n) ≡ part g a (n + 1)
        all zero a e =
            let d : p ≡ a = omega arith in
            let rest = part_same f g p (p + 1) n (n + 1) (omega arith)
            (λ k l.
            let h : p + k + 1 ≡ p + 1 + k = omega arith in
            sym (after (p + k) (omega arith) l) ∙ ap g h) in
            subst (λ (a : ℕ). put key x (part f a n) ≡ part g a (n + 1)) d
            (first ∙ ap₂ (λ (y : A) (l : List A). y ∷ l) (sym here) rest
            ∙ sym (part-cons g p (n + 1) (omega arith)))
        all (suc m) a e =
            let ih = all m (a + 1) (omega arith) in
            rw (part-cons f a n (omega arith), less-upper (key x) (key (f a)) (below a (omega arith)))
            (ap₂ (λ (y : A) (l : List A). y ∷ l) (sym (before a (omega arith))) ih
            ∙ sym (part-cons g a (n + 1) (omega arith)))
