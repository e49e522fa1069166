-- The rules that look at links, one after the other: what is known of those passed. Assumes nothing.
use mathlib.Core.Path.{◌≡◌, refl, subst}
use mathlib.Core.List.{List}
use Prim.Native.Nat.{ℕ, zero, suc, ◌+◌, ◌<◌}
use native.Mathlib.Omega.{arith}
use borrow.Author.Tests.{eq-eqb, ne_eqb}
use Rattle.words.specs.LittleEndian.{byte}
use Rattle.meaning.specs.Table.{Table}
use Rattle.session_meaning.specs.Bytes.{piece_start, link_count, length_at}
use Rattle.session_meaning.specs.Numbers.{foot_at, key_at, head_at, LinkFits, Links}

-- the first byte of a piece, by its length
pub head-empty : (bytes : List ℕ) (i : ℕ) → length_at bytes i ≡ 0 → head_at bytes i ≡ 256
head-empty bytes i e = rw (eq-eqb (length_at bytes i) 0 e)

pub head_first : (bytes : List ℕ) (i : ℕ) → (length_at bytes i ≡ 0 → ⊥) → head_at bytes i ≡ byte bytes (piece_start i)
head_first bytes i n = rw (ne_eqb (length_at bytes i) 0 n)

-- the links before `i` fit and rise, and the next is to be at least this
pub record Risen (T : Table) (bytes : List ℕ) (i least : ℕ) : Type 0 where
  pub fit : (k : ℕ) → k < i → LinkFits T bytes k
  pub rise : (k : ℕ) → k + 1 < i → key_at bytes k < key_at bytes (k + 1)
  pub none : i ≡ 0 → least ≡ 0
  pub last : (k : ℕ) → k + 1 ≡ i → least ≡ key_at bytes k + 1

-- one that is less shows that they don't rise
pub risen-not : {T : Table} {bytes : List ℕ} {i least : ℕ} → Risen T bytes i least → i < link_count bytes
    → (key : ℕ) → key ≡ key_at bytes i → key < least → Links T bytes → ⊥
risen-not {i = zero} r l key is lt h = let e = r.none refl in omega arith
risen-not {bytes = bytes} {i = suc k} r l key is lt h =
    let e = r.last k (omega arith) in
    let n : k + 1 ≡ suc k = omega arith in
    let a = subst (λ (j : ℕ). key_at bytes k < key_at bytes j) n (h.rise k (omega arith)) in
    omega arith

-- the pieces on the links before `n` with one foot begin with `first`, which is 256 where there are none
pub record Heads (bytes : List ℕ) (foot first n : ℕ) : Type 0 where
  pub all : (k : ℕ) → k < n → foot_at bytes k ≡ foot → (head_at bytes k ≡ first) × (first < 256)
  pub one : first < 256 → (k : ℕ) × (k < n) × (foot_at bytes k ≡ foot) × (head_at bytes k ≡ first)
