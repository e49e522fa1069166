-- Laws of the longest common beginning. Assumes nothing.
use mathlib.Core.Path.{◌≡◌, refl, sym, ◌∙◌, ap, subst}
use mathlib.Core.Bool.{Bool, true, false, cond}
use mathlib.Core.List.Memᴰ
use mathlib.Core.List.{List, [], ◌∷◌, ◌++◌, map}
use mathlib.Core.List.{append_assoc, append-nil, append_cancel_left, cons≢nil, head-eq_of_cons-eq, tail-eq_of_cons-eq}
use mathlib.Core.Logic.{◌↔◌}
use Prim.Native.Nat.{ℕ}
use lib.Dec.{eqb}
use lib.ListN.{length, take, drop}
use lib.Seq.{take-append_seam, drop-append_seam}
use borrow.Author.Tests.{eqb-true, eq-eqb}
use Rattle.words.specs.Lists.{◌among◌}
use Rattle.words.specs.Words.{Word, Begins, shared, common_of, common}

pub begins : {xs ys : Word} (t : Word) → xs ++ t ≡ ys → Begins xs ys
begins t e = record { rest = t; joins = e }

pub begins-head : {x y : ℕ} {xs ys : Word} → Begins (x ∷ xs) (y ∷ ys) → x ≡ y
begins-head p = head-eq_of_cons-eq p.joins

pub begins-tail : {x y : ℕ} {xs ys : Word} → Begins (x ∷ xs) (y ∷ ys) → Begins xs ys
begins-tail p = begins p.rest (tail-eq_of_cons-eq p.joins)

pub begins-not : {x : ℕ} {xs : Word} → Begins (x ∷ xs) [] → ⊥
begins-not p = cons≢nil p.joins

pub shared-left : (xs ys : Word) → Begins (shared xs ys) xs
shared-left [] ys = begins [] refl
shared-left (x ∷ xs) [] = begins (x ∷ xs) refl
shared-left (x ∷ xs) (y ∷ ys) = go (eqb x y) (shared-left xs ys)
  where
    go : (b : Bool) → Begins (shared xs ys) xs → Begins (cond b (x ∷ shared xs ys) []) (x ∷ xs)
    go true p = begins p.rest (ap (λ (l : Word). x ∷ l) p.joins)
    go false p = begins (x ∷ xs) refl

pub shared-right : (xs ys : Word) → Begins (shared xs ys) ys
shared-right [] ys = begins ys refl
shared-right (x ∷ xs) [] = begins [] refl
shared-right (x ∷ xs) (y ∷ ys) = go (eqb x y) refl (shared-right xs ys)
  where
    go : (b : Bool) → eqb x y ≡ b → Begins (shared xs ys) ys → Begins (cond b (x ∷ shared xs ys) []) (y ∷ ys)
    go true e p = let h = eqb-true x y e in begins p.rest (cc)
    go false e p = begins (y ∷ ys) refl

pub shared-greatest : (zs xs ys : Word) → Begins zs xs → Begins zs ys → Begins zs (shared xs ys)
shared-greatest [] xs ys p q = begins (shared xs ys) refl
shared-greatest (z ∷ zs) [] ys p q = absurd (begins-not p)
shared-greatest (z ∷ zs) (x ∷ xs) [] p q = absurd (begins-not q)
shared-greatest (z ∷ zs) (x ∷ xs) (y ∷ ys) p q =
    let r = shared-greatest zs xs ys (begins-tail p) (begins-tail q) in
    let e : x ≡ y = sym (begins-head p) ∙ begins-head q in
    let t : eqb x y ≡ true = eq-eqb x y e in
    begins r.rest (rw t (cc (begins-head p)))

pub shared-append : (zs xs ys : Word) → shared (zs ++ xs) (zs ++ ys) ≡ zs ++ shared xs ys
shared-append [] xs ys = refl
shared-append (z ∷ zs) xs ys = rw (eq-eqb z z refl, shared-append zs xs ys)

pub begins-trans : {xs ys zs : Word} → Begins xs ys → Begins ys zs → Begins xs zs
begins-trans {xs} p q =
    begins (p.rest ++ q.rest)
    (sym (append_assoc xs p.rest q.rest) ∙ ap (λ (l : Word). l ++ q.rest) p.joins ∙ q.joins)

pub begins-same : (xs ys : Word) → Begins xs ys → Begins ys xs → xs ≡ ys
begins-same [] [] p q = refl
begins-same [] (y ∷ ys) p q = absurd (begins-not q)
begins-same (x ∷ xs) [] p q = absurd (begins-not p)
begins-same (x ∷ xs) (y ∷ ys) p q =
    let t = begins-same xs ys (begins-tail p) (begins-tail q) in
    cc (begins-head p)

-- what comes after one beginning of both
pub begins-ahead : (z : Word) {xs ys : Word} → Begins xs ys → Begins (z ++ xs) (z ++ ys)
begins-ahead z {xs} p = begins p.rest (append_assoc z xs p.rest ∙ ap (λ (l : Word). z ++ l) p.joins)

-- a beginning and the word less that beginning make up the word
pub begins-drop : {xs ys : Word} → Begins xs ys → xs ++ drop (length xs) ys ≡ ys
begins-drop {xs} p = rw (← p.joins) (ap (λ (l : Word). xs ++ l) (drop-append_seam xs p.rest))

pub begins-take : {xs ys : Word} → Begins xs ys → take (length xs) ys ≡ xs
begins-take {xs} p = rw (← p.joins) (take-append_seam xs p.rest)

-- what is longer does not begin it
longer-not : (x : ℕ) (xs : Word) → Begins (xs ++ x ∷ []) xs → ⊥
longer-not x xs p =
    cons≢nil
    (append_cancel_left xs (x ∷ p.rest) []
    (sym (append_assoc xs (x ∷ []) p.rest) ∙ p.joins ∙ sym (append-nil xs)))

-- of a list of words: it begins each of them,
pub common-begins : {w : Word} (l : List Word) → w among l → Begins (common l) w
common-begins [] m = elim m [ ]
common-begins (x ∷ []) m = rw (Memᴰ.eq_of_singleton m) (begins [] (append-nil x))
common-begins (x ∷ y ∷ l) (Memᴰ.head e) = rw e (shared-left x (common_of y l))
common-begins (x ∷ y ∷ l) (Memᴰ.tail m) = begins-trans (shared-right x (common_of y l)) (common-begins (y ∷ l) m)

-- and what begins each of them, where there is one, begins it
pub common-longest : {v z : Word} (l : List Word) → v among l → ((w : Word) → w among l → Begins z w)
    → Begins z (common l)
common-longest [] m h = elim m [ ]
common-longest (x ∷ []) m h = h x (Memᴰ.head refl)
common-longest {z = z} (x ∷ y ∷ l) m h =
    shared-greatest z x (common_of y l) (h x (Memᴰ.head refl))
    (common-longest (y ∷ l) (Memᴰ.head refl) (λ w i. h w (Memᴰ.tail i)))

-- less what they have in common, words do not all begin with one number
pub common-off : {v : Word} (l : List Word) → v among l → (b : ℕ)
    → ((w : Word) → w among l → Begins (b ∷ []) (drop (length (common l)) w)) → ⊥
common-off l m b h =
    longer-not b (common l)
    (common-longest l m
    (λ w i. subst (Begins (common l ++ b ∷ [])) (begins-drop (common-begins l i)) (begins-ahead (common l) (h w i))))

-- what is in it is in a word of the list
pub common-among : {b : ℕ} (l : List Word) → b among common l → (w : Word) × (w among l) × (b among w)
common-among [] m = elim m [ ]
common-among {b} (w ∷ l) m =
    let p = common-begins (w ∷ l) (Memᴰ.head refl) in
    (w, Memᴰ.head refl, subst (λ (v : Word). b among v) p.joins (Memᴰ.append_left p.rest m))

-- a common part in front comes out
pub common-ahead : {v : Word} (z : Word) (l : List Word) → v among l → common (map (λ w. z ++ w) l) ≡ z ++ common l
common-ahead z [] m = elim m [ ]
common-ahead z (x ∷ []) m = refl
common-ahead z (x ∷ y ∷ l) m =
    ap (shared (z ++ x)) (common-ahead z (y ∷ l) (Memᴰ.head refl)) ∙ shared-append z x (common_of y l)

-- where all are one word, it is that word
pub common-all : {w : Word} (l : List Word) → w among l → ((v : Word) → v among l → v ≡ w) → common l ≡ w
common-all {w} l m h =
    begins-same (common l) w (common-begins l m) (common-longest l m (λ v i. begins [] (append-nil w ∙ sym (h v i))))

-- only which words are there matters, not their order or repetition
pub common-same : (l k : List Word) → ((w : Word) → (w among l) ↔ (w among k)) → common l ≡ common k
common-same [] [] h = refl
common-same [] (x ∷ k) h = elim ((h x).1 (Memᴰ.head refl)) [ ]
common-same (x ∷ l) [] h = elim ((h x).0 (Memᴰ.head refl)) [ ]
common-same (x ∷ l) (y ∷ k) h =
    begins-same (common (x ∷ l)) (common (y ∷ k))
    (common-longest (y ∷ k) (Memᴰ.head refl) (λ w m. common-begins (x ∷ l) ((h w).1 m)))
    (common-longest (x ∷ l) (Memᴰ.head refl) (λ w m. common-begins (y ∷ k) ((h w).0 m)))
