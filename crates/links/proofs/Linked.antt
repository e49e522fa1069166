-- What writing links and lengths leaves, byte by byte, and what is then read. Assumes nothing.
use mathlib.Core.Path.{◌≡◌, refl, sym, ◌∙◌}
use mathlib.Core.Logic.{◌⊎◌, inl, inr, ⊎_elim}
use mathlib.Core.Bool.{Bool, true, false, cond}
use mathlib.Core.Option.{some, none}
use mathlib.Core.List.{List, [], ◌∷◌}
use Prim.Native.Nat.{ℕ, ◌+◌, ◌/◌, ◌%◌, ◌<◌, ◌≤◌}
use native.Mathlib.Nat.{add-zero}
use native.Mathlib.Numerals.{add-one, add-two, add-three, add-four}
use native.Mathlib.Omega.{arith}
use lib.Dec.{eqb}
use borrow.Author.Tests.{eqb-true}
use lib.ListN.{length, get_or}
use lib.Seq.{sets, sets-eq}
use Rattle.words.proofs.Pasted.{Pasted, pasted, stored}
use Rattle.words.specs.LittleEndian.{byte}
use Rattle.session_meaning.specs.Bytes.{link_start, length_start, pair, below_from, link_from}
use Rattle.session_meaning.specs.Bytes.{NoneBelow, below_bytes, link_bytes}
use Rattle.session_meaning.specs.Numbers.{head_size}
use Rattle.links.specs.declared.Link.{Link}
use Rattle.links.specs.Heads.{five_of, meant, Read, with_link}

-- a link is known by its five bytes, a length by its two
pub link-same : (a b : List ℕ) (p q : ℕ) → ((j : ℕ) → j < 5 → byte a (p + j) ≡ byte b (q + j))
    → link_from a p ≡ link_from b q
link-same a b p q h =
    let z : byte a p ≡ byte b q = simp add-zero at (h 0 (omega arith)) in
    let s = h 1 (omega arith) in
    let m = h 2 (omega arith) in
    let t = h 3 (omega arith) in
    let n = h 4 (omega arith) in
    λ k.
    record {
      level = z k;
      here = pair (s k) (m k);
      below = cond (eqb (z k) 0) none (some (pair (t k) (n k)));
    }

-- the bytes of a link and its length were written, and no others
pub record Linked (bytes : List ℕ) (i : ℕ) (l : Link) (n : ℕ) (bytes' : List ℕ) : Type 0 where
  pub whole : length bytes' ≡ length bytes
  pub link : (j : ℕ) → j < 5 → byte bytes' (link_start i + j) ≡ get_or (five_of l) j 0
  pub long : (j : ℕ) → j < 2 → byte bytes' (length_start i + j) ≡ get_or (n % 256 ∷ n / 256 ∷ []) j 0
  pub others : (k : ℕ) → (k < link_start i) ⊎ (link_start (i + 1) ≤ k) → (k < length_start i) ⊎ (length_start (i + 1) ≤ k)
      → byte bytes' k ≡ byte bytes k

pub linked : {bytes bytes' : List ℕ} {i n : ℕ} (l : Link) → head_size ≤ length bytes → i < 64
    → bytes' ≡ with_link bytes i l n → Linked bytes i l n bytes'
linked {bytes} {bytes'} {i} {n} l whole lt e =
    record {
      whole = two.whole ∙ one.whole;
      link = λ j h. two.others (link_start i + j) (inl (omega arith)) ∙ one.here j h;
      long = two.here;
      others = λ k a b.
          two.others k (⊎_elim inl (λ h. inr (omega arith)) b) ∙ one.others k (⊎_elim inl (λ h. inr (omega arith)) a);
    }
  where
    five : List ℕ
    five = sets bytes (link_start i) (five_of l)

    one : Pasted bytes (link_start i) (five_of l) five
    one = pasted (omega arith) (sets-eq (five_of l) bytes (link_start i) (omega arith))

    two : Pasted five (length_start i) (n % 256 ∷ n / 256 ∷ []) bytes'
    two = stored (omega (arith, one.whole)) (e ∙ simp (add-one, add-two, add-three, add-four) refl)

-- what a link read by value stands for
pub read-meant : {bytes : List ℕ} {k : ℕ} {l : Link} → Read bytes k l → link_from bytes k ≡ meant l
read-meant r =
    λ k.
    record {
      level = sym r.level k;
      here = pair (sym r.state k) (sym r.marker k);
      below = cond (eqb (sym r.level k) 0) none (some (pair (sym r.state-below k) (sym r.marker-below k)));
    }

pub read-bytes : {bytes : List ℕ} {k : ℕ} {l : Link} → NoneBelow bytes k → Read bytes k l
    → five_of l ≡ link_bytes (link_from bytes k)
read-bytes {bytes} {k} {l} below r =
    (λ j. r.level j ∷ r.state j ∷ r.marker j ∷ r.state-below j ∷ r.marker-below j ∷ [])
    ∙ go (eqb (byte bytes k) 0) (λ t. eqb-true (byte bytes k) 0 t)
  where
    go : (b : Bool) → (b ≡ true → byte bytes k ≡ 0)
        → byte bytes k ∷ byte bytes (k + 1) ∷ byte bytes (k + 2) ∷ byte bytes (k + 3) ∷ byte bytes (k + 4) ∷ []
        ≡ byte bytes k ∷ byte bytes (k + 1) ∷ byte bytes (k + 2) ∷ below_bytes (cond b none (some (below_from bytes k)))
    go true z = let x = below (z refl) in rw (x.0, x.1)
    go false z = refl
