-- Words of zeros only: what they make together, and words whose parts are such. Assumes nothing.
use mathlib.Core.List.{List}
use lib.Seq.{get_or-drop}
use mathlib.Core.Path.{◌≡◌, refl, sym, ◌∙◌, ap}
use mathlib.Core.Logic.{◌↔◌, ◌⊎◌, inl, inr}
use mathlib.Core.Bool.{Bool, true, ◌&&◌}
use Prim.Native.Nat.{ℕ, zero, suc, ◌+◌, ◌-◌, ◌*◌, ◌≤◌, ◌<◌}
use native.Mathlib.Omega.{arith}
use lib.Bits.{bit_or}
use lib.Dec.{eqb}
use lib.ListN.{length, get_or, take, drop, length-take, get_or-eq_default}
use Rattle.std.specs.Simd.{first_chunks}
use Rattle.words.specs.Lists.{Exact}
use Rattle.words.specs.Words.{Word}
use Rattle.words.specs.Together.{together, AllZero, blank}
use Rattle.words.proofs.Lists.{below_or, both, split}
use Rattle.words.proofs.Exact.{exact-as, eqb-exact}
use Rattle.words.proofs.Below.{or-below, together-below, part_at}

pub together-zero : (w : Word) → (together 0 w ≡ 0) ↔ AllZero w
together-zero w = (to, fro)
  where
    to : together 0 w ≡ 0 → AllZero w
    to e =
        let b = (together-below 0 w).0 (omega arith) in
        record { each = λ k lt. let h = b.each k lt in omega arith }

    fro : AllZero w → together 0 w ≡ 0
    fro z =
        let h = (together-below 0 w).1 (record { each = λ k lt. let e = z.each k lt in omega arith }) in
        omega arith

pub zero-exact : (w : Word) → Exact (AllZero w) (eqb (together 0 w) 0)
zero-exact w = exact-as (together-zero w) (eqb-exact (together 0 w) 0)

-- behind its end too there is nothing else
zero-at : (w : Word) → AllZero w → (k : ℕ) → get_or w k 0 ≡ 0
zero-at w z k = go (below_or k (length w))
  where
    go : (k < length w) ⊎ (length w ≤ k) → get_or w k 0 ≡ 0
    go (inl lt) = z.each k lt
    go (inr le) = get_or-eq_default w 0 le

-- a part, by the places of the whole
pub zero-part : (w : Word) (s n : ℕ) → AllZero (take n (drop s w)) ↔ ((k : ℕ) → s ≤ k → k < s + n → get_or w k 0 ≡ 0)
zero-part w s n = (to, fro)
  where
    to : AllZero (take n (drop s w)) → (k : ℕ) → s ≤ k → k < s + n → get_or w k 0 ≡ 0
    to z k le lt =
        let e : k ≡ s + (k - s) = omega arith in
        ap (λ (k : ℕ). get_or w k 0) e ∙ sym (part_at w s n (k - s) (omega arith)) ∙ zero-at (take n (drop s w)) z (k - s)

    fro : ((k : ℕ) → s ≤ k → k < s + n → get_or w k 0 ≡ 0) → AllZero (take n (drop s w))
    fro h =
        record {
          each = λ k lt.
              let l : k < n = omega (arith, length-take n (drop s w)) in
              part_at w s n k l ∙ h (s + k) (omega arith) (omega arith);
        }

pub zero_in : (w : Word) (s n : ℕ) → AllZero w → AllZero (take n (drop s w))
zero_in w s n z = (zero-part w s n).1 (λ k g l. zero-at w z k)

-- a first and a last part that leave nothing between them
two-zero : (w : Word) (n s m : ℕ) → length w ≤ s + m → s ≤ n
    → AllZero w ↔ (AllZero (take n w) × AllZero (take m (drop s w)))
two-zero w n s m whole meet = (
  λ z. (zero_in w 0 n z, zero_in w s m z),
  λ h. record { each = λ k lt. go h k lt (below_or k n) },
)
  where
    go : AllZero (take n w) × AllZero (take m (drop s w)) → (k : ℕ) → k < length w → (k < n) ⊎ (n ≤ k) → get_or w k 0 ≡ 0
    go h k lt (inl l) = (zero-part w 0 n).0 h.0 k (omega arith) (omega arith)
    go h k lt (inr g) = (zero-part w s m).0 h.1 k (omega arith) (omega arith)

or-zero : (a b : ℕ) → (bit_or a b ≡ 0) ↔ ((a ≡ 0) × (b ≡ 0))
or-zero a b = (
  λ e. let h = (or-below 0 a b).0 (omega arith) in (omega arith, omega arith),
  λ e. let h = (or-below 0 a b).1 (omega arith, omega arith) in omega arith,
)

pub ends-exact : (w : Word) (n : ℕ) {a b : ℕ} → n ≤ length w → length w ≤ 2 * n → a ≡ together 0 (take n w)
    → b ≡ together 0 (take (length w - (length w - n)) (drop (length w - n) w)) → Exact (AllZero w) (eqb (bit_or a b) 0)
ends-exact w n {a} {b} part meet e f =
    let two = two-zero w n (length w - n) (length w - (length w - n)) (omega arith) (omega arith) in
    exact-as (
      λ h. let o = (or-zero a b).0 h in two.1 ((together-zero _).0 (sym e ∙ o.0), (together-zero _).0 (sym f ∙ o.1)),
      λ z. let t = two.0 z in (or-zero a b).1 (e ∙ (together-zero _).1 t.0, f ∙ (together-zero _).1 t.1),
    )
    (eqb-exact (bit_or a b) 0)

-- a block before others
module _ (n m : ℕ) (w : Word) {b : Bool} (ih : (b ≡ true) ↔ AllZero (take (m * n) (drop n w))) where
  block-in : (eqb (together 0 (take n w)) 0 && b) ≡ true → AllZero (take (suc m * n) w)
  block-in e =
      let t = split (eqb (together 0 (take n w)) 0) b e in
      let one = (zero-part w 0 n).0 ((zero-exact (take n w)).1 t.0) in
      let more = (zero-part w n (m * n)).0 (ih.0 t.1) in
      (zero-part w 0 (suc m * n)).1 (λ k g l. go one more k l (below_or k n))
    where
      go : ((k : ℕ) → 0 ≤ k → k < 0 + n → get_or w k 0 ≡ 0) → ((k : ℕ) → n ≤ k → k < n + m * n → get_or w k 0 ≡ 0)
          → (k : ℕ) → k < 0 + suc m * n → (k < n) ⊎ (n ≤ k) → get_or w k 0 ≡ 0
      go one more k l (inl h) = one k (omega arith) (omega arith)
      go one more k l (inr h) = more k h (omega arith)

  block-out : AllZero (take (suc m * n) w) → (eqb (together 0 (take n w)) 0 && b) ≡ true
  block-out z =
      let all = (zero-part w 0 (suc m * n)).0 z in
      both
      ((zero-exact (take n w)).0 ((zero-part w 0 n).1 (λ k g l. all k (omega arith) (omega arith))))
      (ih.1 ((zero-part w n (m * n)).1 (λ k g l. all k (omega arith) (omega arith))))

blocks-zero : (n m : ℕ) (w : Word) → (blank (first_chunks n m w) ≡ true) ↔ AllZero (take (m * n) w)
blocks-zero n zero w =
    (λ e. record { each = λ k lt. absurd (omega (arith, length-take (0 * n) w)) }, λ z. refl)
blocks-zero n (suc m) w =
    let ih = blocks-zero n m (drop n w) in
    (block-in n m w ih, block-out n m w ih)

-- the first `m` blocks of `n` behind a place
pub blocks-exact : (w : Word) {v : Word} {l : List Word} {b : Bool} (s n m : ℕ) → v ≡ drop s w → l ≡ first_chunks n m v
    → b ≡ blank l → Exact (AllZero (take (m * n) (drop s w))) b
blocks-exact w s n m e front d = rw (d, front, e) (λ z. (blocks-zero n m _).1 z, λ h. (blocks-zero n m _).0 h)

-- a first part that is 0, and the rest
pub rest-exact : (w : Word) {v : Word} {b : Bool} (s : ℕ) → AllZero (take s w) → v ≡ drop s w → Exact (AllZero v) b → Exact (AllZero w) b
rest-exact w {v} s first is e = exact-as (to, fro) e
  where
    at : (k : ℕ) → get_or v k 0 ≡ get_or w (s + k) 0
    at k = rw is (get_or-drop s w k 0)

    go : AllZero v → (k : ℕ) → (k < s) ⊎ (s ≤ k) → get_or w k 0 ≡ 0
    go z k (inl h) = (zero-part w 0 s).0 first k (omega arith) (omega arith)
    go z k (inr h) =
        let e : k ≡ s + (k - s) = omega arith in
        ap (λ (k : ℕ). get_or w k 0) e ∙ sym (at (k - s)) ∙ zero-at v z (k - s)

    to : AllZero v → AllZero w
    to z = record { each = λ k lt. go z k (below_or k s) }

    fro : AllZero w → AllZero v
    fro z = record { each = λ k lt. at k ∙ zero-at w z (s + k) }
