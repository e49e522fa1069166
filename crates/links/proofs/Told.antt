-- Each contract of `links` allows one answer, or one head left. Assumes nothing.
use mathlib.Core.Path.{◌≡◌, refl, sym, ap, ◌∙◌}
use mathlib.Core.Logic.{◌⊎◌, inl, inr}
use mathlib.Core.List.{List}
use Prim.Native.Nat.{ℕ, ◌+◌, ◌-◌, ◌/◌, ◌%◌, ◌<◌, ◌≤◌}
use native.Mathlib.Omega.{arith}
use lib.Seq.{ext_get_or}
use Rattle.std.specs.Prelude.{Option, Some, None}
use Rattle.words.proofs.Lists.{below_or}
use Rattle.session_meaning.specs.Bytes.{link_start, length_start}
use Rattle.session_meaning.specs.Numbers.{FirstAt}
use Rattle.session_meaning.proofs.Held.{within}
use Rattle.std.specs.declared.cmp.Ordering.{Ordering}
use Rattle.std.specs.declared.cmp.Ordering.TheVariants.{Less, Equal, Greater}
use Rattle.words.specs.LittleEndian.{byte}
use Rattle.links.specs.declared.Link.{Link}
use Rattle.links.specs.Heads.{Read, Stands, Compared, Gapped, FoundAt}

pub read-unique : {bytes : List ℕ} {k : ℕ} {l m : Link} → Read bytes k l → Read bytes k m → l ≡ m
read-unique r s =
    let a = r.level ∙ sym s.level in
    let b = r.state ∙ sym s.state in
    let c = r.marker ∙ sym s.marker in
    let d = r.state-below ∙ sym s.state-below in
    let e = r.marker-below ∙ sym s.marker-below in
    λ i. record { level = a i; state = b i; marker = c i; state_below = d i; marker_below = e i }

stands-unique : (r s : Ordering) (a b : ℕ) → Stands r a b → Stands s a b → r ≡ s
stands-unique Less Less a b p q = refl
stands-unique Less Equal a b p q = absurd (omega arith)
stands-unique Less Greater a b p q = absurd (omega arith)
stands-unique Equal Less a b p q = absurd (omega arith)
stands-unique Equal Equal a b p q = refl
stands-unique Equal Greater a b p q = absurd (omega arith)
stands-unique Greater Less a b p q = absurd (omega arith)
stands-unique Greater Equal a b p q = absurd (omega arith)
stands-unique Greater Greater a b p q = refl

pub compared-unique : {bytes : List ℕ} {i : ℕ} {l : Link} {r s : Ordering} → Compared bytes i l r → Compared bytes i l s
    → r ≡ s
compared-unique {r = r} {s = s} p q = stands-unique r s _ _ p.stands q.stands

pub first-unique : {at : ℕ → ℕ} {n number r s : ℕ} → FirstAt at n number r → FirstAt at n number s → r ≡ s
first-unique {at} {n} {number} {r} {s} p q = go (below_or r s) (below_or s r)
  where
    go : (r < s) ⊎ (s ≤ r) → (s < r) ⊎ (r ≤ s) → r ≡ s
    go (inl l) o = absurd (q.before r l (p.found (omega (arith, q.within))))
    go (inr g) (inl l) = absurd (p.before s l (q.found (omega (arith, p.within))))
    go (inr g) (inr h) = omega arith

pub found-unique : (at : ℕ → ℕ) (n number : ℕ) (r s : Option ℕ) → FoundAt at n number r → FoundAt at n number s
    → r ≡ s
found-unique at n number None None p q = refl
found-unique at n number None (Some i) p q = absurd (omega (arith, first-unique p q.0, q.1))
found-unique at n number (Some i) None p q = absurd (omega (arith, first-unique p.0 q, p.1))
found-unique at n number (Some i) (Some j) p q = ap Some (first-unique p.0 q.0)

pub gapped-unique : {a b c : List ℕ} {n at : ℕ} → n < 64 → Gapped a n at b → Gapped a n at c → b ≡ c
gapped-unique {a} {b} {c} {n} {at} lt p q = ext_get_or 0 b c (p.whole ∙ sym q.whole) (λ k l. same k)
  where
    same : (k : ℕ) → byte b k ≡ byte c k
    same k =
        go (within (link_start (at + 1)) (link_start (n + 1)) k)
        (within (length_start (at + 1)) (length_start (n + 1)) k)
      where
        go : ((link_start (at + 1) ≤ k) × (k < link_start (n + 1)))
            ⊎ ((k < link_start (at + 1)) ⊎ (link_start (n + 1) ≤ k))
            → ((length_start (at + 1) ≤ k) × (k < length_start (n + 1)))
            ⊎ ((k < length_start (at + 1)) ⊎ (length_start (n + 1) ≤ k)) → byte b k ≡ byte c k
        go (inl (x, y)) o =
            let i = (k - 7) / 5 in
            let j = (k - 7) % 5 in
            let e : link_start (i + 1) + j ≡ k = omega arith in
            rw (← e)
            (p.link i (omega arith) (omega arith) j (omega arith)
            ∙ sym (q.link i (omega arith) (omega arith) j (omega arith)))
        go (inr x) (inl (y, z)) =
            let i = (k - 324) / 2 in
            let j = (k - 324) % 2 in
            let e : length_start (i + 1) + j ≡ k = omega arith in
            rw (← e)
            (p.long i (omega arith) (omega arith) j (omega arith)
            ∙ sym (q.long i (omega arith) (omega arith) j (omega arith)))
        go (inr x) (inr y) = p.others k x y ∙ sym (q.others k x y)
