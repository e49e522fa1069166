-- What is among the lists that `each`, `only` and the tests speak of. Assumes nothing.
use mathlib.Core.Path.{◌≡◌, refl, sym, ◌∙◌, ap, ap₂}
use mathlib.Core.Logic.{◌⊎◌, inl, inr}
use mathlib.Core.Bool.{Bool, true, false, ◌&&◌, ◌||◌, not, false≢true}
use mathlib.Core.List.Memᴰ
use mathlib.Core.List.{List, [], ◌∷◌, ◌++◌, map, map-append, append_assoc}
use lib.ListN.{length, length-append, length-map, get_or, get_or-append, get_or-eq_default}
use lib.Seq.{get_or_at}
use Prim.Native.Nat.{ℕ, zero, suc, ◌<◌, ◌≤◌, ◌-◌}
use native.Mathlib.Nat.{eq-zero-or-pos}
use native.Mathlib.Omega.{arith}
use Rattle.words.specs.Lists.{◌among◌, each, only, every, any_of, is_empty, choices, up_to, Distinct}
use Rattle.words.specs.Words.{Word, Bytes}

-- tests

pub both : {a b : Bool} → a ≡ true → b ≡ true → (a && b) ≡ true
both e f = rw (e, f)

pub split : (a b : Bool) → (a && b) ≡ true → (a ≡ true) × (b ≡ true)
split true b e = (refl, e)
split false b e = absurd (false≢true e)

pub either : (a b : Bool) → (a || b) ≡ true → (a ≡ true) ⊎ (b ≡ true)
either true b e = inl e
either false b e = inr e

pub neither : (a b : Bool) → (a || b) ≡ false → (a ≡ false) × (b ≡ false)
neither true b e = absurd (false≢true (sym e))
neither false b e = (refl, e)

-- each

pub each_in : {A B : Type 0} (f : A → List B) {x : A} {y : B} (l : List A) → x among l → y among f x → y among each f l
each_in {A = A} {B = B} f {y = y} [] x3 n = elim x3 [ ]
each_in f (z ∷ l) (Memᴰ.head e) n = Memᴰ.append_left (each f l) (rw e at n)
each_in f (z ∷ l) (Memᴰ.tail m) n = Memᴰ.append_right (f z) (each_in f l m n)

pub each-out : {A B : Type 0} (f : A → List B) {y : B} (l : List A)
    → y among each f l → (x : A) × (x among l) × (y among f x)
each-out f [] m = elim m [ ]
each-out {A} f {y} (z ∷ l) m = go (Memᴰ.append_cases (f z) m) (λ n. each-out f l n)
  where
    go : (y among f z) ⊎ (y among each f l) → (y among each f l → (x : A) × (x among l) × (y among f x))
        → (x : A) × (x among z ∷ l) × (y among f x)
    go (inl n) ih = (z, Memᴰ.head refl, n)
    go (inr n) ih = let r = ih n in (r.0, Memᴰ.tail r.1, r.2)

pub each_append : {A B : Type 0} (f : A → List B) (l m : List A) → each f (l ++ m) ≡ each f l ++ each f m
each_append f [] m = refl
each_append f (x ∷ l) m = rw (each_append f l m) (sym (append_assoc (f x) (each f l) (each f m)))

-- functions that agree on a list make the same of it
pub each_map : {A B C : Type 0} (f : B → List C) (g : A → B) (l : List A) → each f (map g l) ≡ each (λ x. f (g x)) l
each_map f g [] = refl
each_map f g (x ∷ l) = ap (λ m. f (g x) ++ m) (each_map f g l)

pub map_same : {A B : Type 0} (f g : A → B) (l : List A) → ((x : A) → x among l → f x ≡ g x) → map f l ≡ map g l
map_same f g [] h = refl
map_same f g (x ∷ l) h = rw (h x (Memᴰ.head refl), map_same f g l (λ y m. h y (Memᴰ.tail m)))

-- only

pub only-in : {A : Type 0} {b : Bool} {x : A} → b ≡ true → x among only b x
only-in {b} e = rw e (Memᴰ.head refl)

pub only_out : {A : Type 0} (b : Bool) {x y : A} → y among only b x → (b ≡ true) × (y ≡ x)
only_out true (Memᴰ.head e) = (refl, e)
only_out true (Memᴰ.tail m) = elim m [ ]
only_out false m = elim m [ ]

pub only-some : {A : Type 0} (b : Bool) (x : A) → not (is_empty (only b x)) ≡ b
only-some true x = refl
only-some false x = refl

-- those of a list that pass a test

module _ {A : Type 0} (test : A → Bool) {x : A} (l : List A) where
  pub passing-in : x among l → test x ≡ true → x among each (λ y. only (test y) y) l
  passing-in m t = each_in (λ y. only (test y) y) l m (only-in t)

  pub passing-out : x among each (λ y. only (test y) y) l → (x among l) × (test x ≡ true)
  passing-out m =
      let y = each-out (λ y. only (test y) y) l m in
      let o = only_out (test y.0) y.2 in
      (Memᴰ.cast o.1 y.1, ap test o.1 ∙ o.0)

-- choices

module _ {A B C : Type 0} (test : A → B → Bool) (make : A → B → C) where
  pub record Chosen (X : List A) (Y : List B) (z : C) : Type 0 where
    pub one : A
    pub other : B
    pub first : one among X
    pub second : other among Y
    pub passes : test one other ≡ true
    pub is : z ≡ make one other

  pub choices-out : {z : C} (X : List A) (Y : List B) → z among choices test make X Y → Chosen X Y z
  choices-out X Y m =
      let x = each-out (λ x. each (λ y. only (test x y) (make x y)) Y) X m in
      let y = each-out (λ y. only (test x.0 y) (make x.0 y)) Y x.2 in
      let o = only_out (test x.0 y.0) y.2 in
      record { one = x.0; other = y.0; first = x.1; second = y.1; passes = o.0; is = o.1 }

  pub choices-in : {z : C} (X : List A) (Y : List B) → Chosen X Y z → z among choices test make X Y
  choices-in X Y c =
      each_in (λ x. each (λ y. only (test x y) (make x y)) Y) X c.first
      (each_in (λ y. only (test c.one y) (make c.one y)) Y c.second (Memᴰ.cast c.is (only-in c.passes)))

-- choices of what a function makes of a list are what a function makes of choices
module _ {A A' B C C' : Type 0} (f : A → A') (g : C → C') (test : A → B → Bool) (test' : A' → B → Bool)
    (make : A → B → C) (make' : A' → B → C')
    (same_test : (x : A) (y : B) → test' (f x) y ≡ test x y)
    (same-make : (x : A) (y : B) → test x y ≡ true → make' (f x) y ≡ g (make x y)) where
  only-map : (x : A) (y : B) → only (test' (f x) y) (make' (f x) y) ≡ map g (only (test x y) (make x y))
  only-map x y = ap (λ (b : Bool). only b (make' (f x) y)) (same_test x y) ∙ go (test x y) (same-make x y)
    where
      go : (b : Bool) → (b ≡ true → make' (f x) y ≡ g (make x y)) → only b (make' (f x) y) ≡ map g (only b (make x y))
      go true h = ap (λ (z : C'). z ∷ []) (h refl)
      go false h = refl

  each-only-map : (x : A) (Y : List B)
      → each (λ y. only (test' (f x) y) (make' (f x) y)) Y ≡ map g (each (λ y. only (test x y) (make x y)) Y)
  each-only-map x [] = refl
  each-only-map x (y ∷ Y) =
      ap₂ (λ (k l : List C'). k ++ l) (only-map x y) (each-only-map x Y)
      ∙ sym (map-append g (only (test x y) (make x y)) (each (λ y. only (test x y) (make x y)) Y))

  pub choices-map : (X : List A) (Y : List B) → choices test' make' (map f X) Y ≡ map g (choices test make X Y)
  choices-map [] Y = refl
  choices-map (x ∷ X) Y =
      ap₂ (λ (k l : List C'). k ++ l) (each-only-map x Y) (choices-map X Y)
      ∙ sym (map-append g (each (λ y. only (test x y) (make x y)) Y) (choices test make X Y))

-- no two the same

pub distinct-map : {A B : Type 0} (f : A → B) (l : List A) → Distinct l → ((x y : A) → f x ≡ f y → x ≡ y)
    → Distinct (map f l)
distinct-map f [] d one = tt
distinct-map f (x ∷ l) d one =
    (λ m. let y = Memᴰ.of_map f l m in d.0 (Memᴰ.cast (one x y.0 (sym y.2)) y.1), distinct-map f l d.1 one)

pub distinct_append : {A : Type 0} (l m : List A) → Distinct l → Distinct m → ((x : A) → x among l → x among m → ⊥)
    → Distinct (l ++ m)
distinct_append [] m d e h = e
distinct_append {A} (x ∷ l) m d e h =
    (λ i. go (Memᴰ.append_cases l i), distinct_append l m d.1 e (λ y i. h y (Memᴰ.tail i)))
  where
    go : (x among l) ⊎ (x among m) → ⊥
    go (inl i) = d.0 i
    go (inr i) = h x (Memᴰ.head refl) i

pub distinct-each : {A B : Type 0} (f : A → List B) (l : List A) → Distinct l → ((x : A) → Distinct (f x))
    → ((x y : A) (z : B) → z among f x → z among f y → x ≡ y) → Distinct (each f l)
distinct-each f [] d e h = tt
distinct-each f (x ∷ l) d e h =
    distinct_append (f x) (each f l) (e x) (distinct-each f l d.1 e h)
    (λ z i j. let y = each-out f l j in d.0 (Memᴰ.cast (h x y.0 z i y.2) y.1))

pub distinct-choices : {A B C : Type 0} (test : A → B → Bool) (make : A → B → C) (X : List A) (Y : List B)
    → Distinct X → Distinct Y → ((x v : A) (y w : B) → make x y ≡ make v w → (x ≡ v) × (y ≡ w))
    → Distinct (choices test make X Y)
distinct-choices {A} {B} {C} test make X Y d e one = distinct-each (λ x. row x) X d row-distinct rows_apart
  where
    row : A → List C
    row x = each (λ y. only (test x y) (make x y)) Y

    single : (b : Bool) (z : C) → Distinct (only b z)
    single true z = (λ m. elim m [ ], tt)
    single false z = tt

    is : (x : A) (y : B) (z : C) → z among only (test x y) (make x y) → z ≡ make x y
    is x y z i = (only_out (test x y) i).1

    row-distinct : (x : A) → Distinct (row x)
    row-distinct x =
        distinct-each (λ y. only (test x y) (make x y)) Y e (λ y. single (test x y) (make x y))
        (λ y w z i j. (one x x y w (sym (is x y z i) ∙ is x w z j)).1)

    rows_apart : (x v : A) (z : C) → z among row x → z among row v → x ≡ v
    rows_apart x v z i j =
        let y = each-out (λ y. only (test x y) (make x y)) Y i in
        let w = each-out (λ y. only (test v y) (make v y)) Y j in
        (one x v y.0 w.0 (sym (is x y.0 z y.2) ∙ is v w.0 z w.2)).0

-- a list without one of its things
without : {A : Type 0} (x : A) (k : List A) → x among k
    → (r : List A) × (length k ≡ suc (length r)) × ((z : A) → z among k → (z ≡ x) ⊎ (z among r))
without {A = A} x [] x'' = elim x'' [ ]
without {A} x (y ∷ k) (Memᴰ.head e) = (k, refl, λ z m. go z (Memᴰ.cases_cons m))
  where
    go : (z : A) → (z ≡ y) ⊎ (z among k) → (z ≡ x) ⊎ (z among k)
    go z (inl f) = inl (f ∙ sym e)
    go z (inr m) = inr m
without {A} x (y ∷ k) (Memᴰ.tail m) =
    let r = without x k m in
    (y ∷ r.0, ap suc r.1, λ z n. go r.0 r.2 z (Memᴰ.cases_cons n))
  where
    later : (r : List A) (z : A) → (z ≡ x) ⊎ (z among r) → (z ≡ x) ⊎ (z among y ∷ r)
    later r z (inl f) = inl f
    later r z (inr n) = inr (Memᴰ.tail n)

    go : (r : List A) → ((z : A) → z among k → (z ≡ x) ⊎ (z among r)) → (z : A) → (z ≡ y) ⊎ (z among k)
        → (z ≡ x) ⊎ (z among y ∷ r)
    go r h z (inl f) = inr (Memᴰ.head f)
    go r h z (inr n) = later r z (h z n)

-- a list that has all of another with no two the same is at least as long
pub fewer : {A : Type 0} (l k : List A) → Distinct l → ((z : A) → z among l → z among k) → length l ≤ length k
fewer [] k d f = omega arith
fewer {A} (x ∷ l) k d f =
    let r = without x k (f x (Memᴰ.head refl)) in
    let n = fewer l r.0 d.1 (λ z m. go r.0 z m (r.2 z (f z (Memᴰ.tail m)))) in
    omega (arith, r.1)
  where
    go : (r : List A) (z : A) → z among l → (z ≡ x) ⊎ (z among r) → z among r
    go r z m (inl e) = absurd (d.0 (Memᴰ.cast (sym e) m))
    go r z m (inr n) = n

-- every and any

pub every_in : {A : Type 0} (f : A → Bool) (l : List A) → ((x : A) → x among l → f x ≡ true) → every f l ≡ true
every_in f [] h = refl
every_in f (x ∷ l) h = both (h x (Memᴰ.head refl)) (every_in f l (λ y m. h y (Memᴰ.tail m)))

pub every-out : {A : Type 0} (f : A → Bool) (l : List A) → every f l ≡ true → (x : A) → x among l → f x ≡ true
every-out {A = A} f [] e x x4 = elim x4 [ ]
every-out f (y ∷ l) e x (Memᴰ.head d) = rw d (split (f y) (every f l) e).0
every-out f (y ∷ l) e x (Memᴰ.tail m) = every-out f l (split (f y) (every f l) e).1 x m

pub any-in : {A : Type 0} (f : A → Bool) {x : A} (l : List A) → x among l → f x ≡ true → any_of f l ≡ true
any-in {A = A} f [] x3 e = elim x3 [ ]
any-in f (y ∷ l) (Memᴰ.head d) e = rw (rw d at e)
any-in f (y ∷ l) (Memᴰ.tail m) e = go (f y) (any-in f l m e)
  where
    go : (b : Bool) → any_of f l ≡ true → (b || any_of f l) ≡ true
    go true h = refl
    go false h = h

pub any_out : {A : Type 0} (f : A → Bool) (l : List A) → any_of f l ≡ true → (x : A) × (x among l) × (f x ≡ true)
any_out f [] e = absurd (false≢true e)
any_out {A} f (y ∷ l) e = go (either (f y) (any_of f l) e) (any_out f l)
  where
    go : (f y ≡ true) ⊎ (any_of f l ≡ true) → (any_of f l ≡ true → (x : A) × (x among l) × (f x ≡ true))
        → (x : A) × (x among y ∷ l) × (f x ≡ true)
    go (inl h) ih = (y, Memᴰ.head refl, h)
    go (inr h) ih = let r = ih h in (r.0, Memᴰ.tail r.1, r.2)

-- up_to

pub up_to-in : (n q : ℕ) → q < n → q among up_to n
up_to-in zero q h = absurd (omega arith)
up_to-in (suc n) q h = go (eq-zero-or-pos (n - q)) (up_to-in n q)
  where
    go : (n - q ≡ 0) ⊎ (0 < n - q) → (q < n → q among up_to n) → q among up_to n ++ n ∷ []
    go (inl e) ih = Memᴰ.append_right (up_to n) (Memᴰ.head (omega arith))
    go (inr l) ih = Memᴰ.append_left (n ∷ []) (ih (omega arith))

pub up_to-out : (n q : ℕ) → q among up_to n → q < n
up_to-out zero q m = elim m [ ]
up_to-out (suc n) q m = go (Memᴰ.append_cases (up_to n) m) (up_to-out n q)
  where
    go : (q among up_to n) ⊎ (q among n ∷ []) → (q among up_to n → q < n) → q < suc n
    go (inl k) ih = let h = ih k in omega arith
    go (inr k) ih = let e = Memᴰ.eq_of_singleton k in omega arith

-- is_empty

pub length-up_to : (n : ℕ) → length (up_to n) ≡ n
length-up_to zero = refl
length-up_to (suc n) = length-append (up_to n) (n ∷ []) ∙ (let e = length-up_to n in omega arith)

pub empty-out : {A : Type 0} (l : List A) → is_empty l ≡ true → l ≡ []
empty-out [] e = refl
empty-out (x ∷ l) e = absurd (false≢true e)

pub empty-in : {A : Type 0} (l : List A) → ((x : A) → x among l → ⊥) → is_empty l ≡ true
empty-in [] f = refl
empty-in (x ∷ l) f = absurd (f x (Memᴰ.head refl))

pub first_of : {A : Type 0} (l : List A) → is_empty l ≡ false → (x : A) × (x among l)
first_of [] e = absurd (false≢true (sym e))
first_of (x ∷ l) e = (x, Memᴰ.head refl)

-- what stands at a place of a list is in it
pub get_or-among : {A : Type 0} (l : List A) (i : ℕ) (d : A) → i < length l → get_or l i d among l
get_or-among [] i d lt = absurd (omega arith)
get_or-among (x ∷ l) zero d lt = Memᴰ.head refl
get_or-among (x ∷ l) (suc i) d lt = Memᴰ.tail (get_or-among l i d (omega arith))

pub below_or : (k n : ℕ) → (k < n) ⊎ (n ≤ k)
below_or k n = go (eq-zero-or-pos (n - k))
  where
    go : (n - k ≡ 0) ⊎ (0 < n - k) → (k < n) ⊎ (n ≤ k)
    go (inl e) = inr (omega arith)
    go (inr p) = inl (omega arith)

-- of a list of bytes, the number at any place is one
pub get_or-byte : (l : Word) → Bytes l → (i : ℕ) → get_or l i 0 < 256
get_or-byte l h i = go (below_or i (length l))
  where
    go : (i < length l) ⊎ (length l ≤ i) → get_or l i 0 < 256
    go (inl lt) = h (get_or l i 0) (get_or-among l i 0 lt)
    go (inr le) = rw (get_or-eq_default l 0 le) (omega arith)

-- and a list with a byte at each place is one of bytes
pub byte-get_or : (l : Word) → ((i : ℕ) → get_or l i 0 < 256) → Bytes l
byte-get_or [] h b x'' = elim x'' [ ]
byte-get_or (x ∷ l) h b (Memᴰ.head e) = rw e (h 0)
byte-get_or (x ∷ l) h b (Memᴰ.tail m) = byte-get_or l (λ i. h (suc i)) b m

pub bytes-nil : Bytes []
bytes-nil b m = elim m [ ]

pub bytes-cons : {x : ℕ} {l : Word} → x < 256 → Bytes l → Bytes (x ∷ l)
bytes-cons lt h b (Memᴰ.head e) = rw e lt
bytes-cons lt h b (Memᴰ.tail m) = h b m

pub bytes-append : (l k : Word) → Bytes l → Bytes k → Bytes (l ++ k)
bytes-append l k f g b m = go (Memᴰ.append_cases l m)
  where
    go : (b among l) ⊎ (b among k) → b < 256
    go (inl i) = f b i
    go (inr i) = g b i

-- a list made of the numbers below `n`, by its places
pub get_or-map-up_to : {A : Type 0} (f : ℕ → A) (n k : ℕ) (d : A) → k < n → get_or (map f (up_to n)) k d ≡ f k
get_or-map-up_to f zero k d lt = absurd (omega arith)
get_or-map-up_to f (suc n) k d lt = rw (map-append f (up_to n) (n ∷ [])) (go (below_or k n) (λ h. get_or-map-up_to f n k d h))
  where
    long : length (map f (up_to n)) ≡ n
    long = length-map (up_to n) f ∙ length-up_to n

    go : (k < n) ⊎ (n ≤ k) → (k < n → get_or (map f (up_to n)) k d ≡ f k) → get_or (map f (up_to n) ++ f n ∷ []) k d ≡ f k
    go (inl h) ih = get_or-append (map f (up_to n)) (f n ∷ []) d k (omega (arith, long)) ∙ ih h
    go (inr h) ih =
        let e : n ≡ k = omega arith in
        rw (← e) (get_or_at (map f (up_to n)) (f n) [] d n long)
