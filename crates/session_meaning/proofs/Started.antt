-- The bytes of a session that begins: zeros, and then two bytes set for each state. Assumes nothing.
use mathlib.Core.Path.{◌≡◌, refl, sym, ◌∙◌}
use mathlib.Core.Logic.{◌⊎◌, inl, inr, ⊎_elim}
use mathlib.Core.List.{List, [], ◌∷◌, ◌++◌}
use Prim.Native.Nat.{ℕ, zero, suc, ◌+◌, ◌-◌, ◌/◌, ◌%◌, ◌<◌, ◌≤◌}
use native.Mathlib.Omega.{arith}
use native.Mathlib.Nat.{eq-zero-or-pos}
use native.Mathlib.Numerals.{add-one}
use borrow.Author.Tests.{lt-ltb, le-ltb}
use lib.ListN.{length, replicate, get_or, set, take, length-map, length-append, length-replicate, length-set}
use lib.ListN.{get_or-map, get_or-append, get_or-eq_default, get_or-replicate}
use lib.Seq.{ext_get_or, get_or-set_same, get_or-set_other, get_or_at, length-take-le, take-suc}
use Rattle.words.proofs.Lists.{below_or}
use Rattle.meaning.specs.Answers.{links_cap}
use Rattle.sets.specs.Sets.{members}
use Rattle.sets.proofs.Members.{members-le, Visit, Turn}
use Rattle.session_meaning.specs.Sessions.{starts, started}
use Rattle.session_meaning.specs.Bytes.{link_start, size, link_bytes, entry_of, byte_of, bytes_of}
use Rattle.session_meaning.proofs.Encoded.{byte-of, whole_of, get_or-zeros}

pub same_or : (k n : ℕ) → (k ≡ n) ⊎ (k ≡ n → ⊥)
same_or k n = go (eq-zero-or-pos (k - n + (n - k)))
  where
    go : (k - n + (n - k) ≡ 0) ⊎ (0 < k - n + (n - k)) → (k ≡ n) ⊎ (k ≡ n → ⊥)
    go (inl z) = inl (omega arith)
    go (inr p) = inr (λ e. omega arith)

-- a place that is not used is that of state 0
entry-of : (l : List ℕ) (i : ℕ) → entry_of (started l) i ≡ starts (get_or l i 0)
entry-of l i = get_or-map starts l i 0

-- the five bytes of a link at level 0
abbrev five : ℕ → List ℕ
five q = link_bytes (starts q).link

-- what stands at a place: the depth and the count, a byte of a link, or 0

head-of : (l : List ℕ) (k : ℕ) → k < 2 → byte_of (started l) k ≡ get_or (0 ∷ length l ∷ []) k 0
head-of l k lt = rw (lt-ltb k 2 lt, length-map l starts)

link-of : (l : List ℕ) (k : ℕ) → 2 ≤ k → k < 322
    → byte_of (started l) k ≡ get_or (five (get_or l ((k - 2) / 5) 0)) ((k - 2) % 5) 0
link-of l k le lt = rw (le-ltb k 2 le, lt-ltb k 322 lt, entry-of l ((k - 2) / 5))

rest_of : (l : List ℕ) (k : ℕ) → 322 ≤ k → byte_of (started l) k ≡ 0
rest_of l k le = go (below_or k 450)
  where
    go : (k < 450) ⊎ (450 ≤ k) → byte_of (started l) k ≡ 0
    go (inl lt) =
        rw (le-ltb k 2 (omega arith), le-ltb k 322 le, lt-ltb k 450 lt, entry-of l ((k - 322) / 2))
        (get_or-zeros 2 ((k - 322) % 2))
    go (inr ge) =
        rw (le-ltb k 2 (omega arith), le-ltb k 322 le, le-ltb k 450 ge, entry-of l ((k - 450) / 512))
        (get_or-zeros 0 ((k - 450) % 512))

-- where no state is there, all is 0
pub cleared : (n : ℕ) → n ≡ size → replicate n 0 ≡ bytes_of (started [])
cleared n e =
    let long = length-replicate {A = ℕ} n 0 in
    ext_get_or 0 (replicate n 0) (bytes_of (started [])) (long ∙ e ∙ sym (whole_of (started [])))
    (λ k lt.
    get_or-replicate n k 0 0 (omega (arith, long))
    ∙ sym (go k (below_or k 2) (below_or k 322))
    ∙ sym (byte-of (started []) k (omega (arith, long))))
  where
    go : (k : ℕ) → (k < 2) ⊎ (2 ≤ k) → (k < 322) ⊎ (322 ≤ k) → byte_of (started []) k ≡ 0
    go k (inl a) b = head-of [] k a ∙ get_or-zeros 2 k
    go k (inr a) (inl b) = link-of [] k a b ∙ get_or-zeros 5 ((k - 2) % 5)
    go k (inr a) (inr b) = rest_of [] k b

-- one state more
module _ (l : List ℕ) (q : ℕ) where
  abbrev more : List ℕ
  more = l ++ q ∷ []

  length_more : length more ≡ length l + 1
  length_more = length-append l (q ∷ [])

  -- at another place the states are as they were
  get_or-more : (i : ℕ) → (i ≡ length l → ⊥) → get_or l i 0 ≡ get_or more i 0
  get_or-more i n = go (below_or i (length l))
    where
      go : (i < length l) ⊎ (length l ≤ i) → get_or l i 0 ≡ get_or more i 0
      go (inl lt) = sym (get_or-append l (q ∷ []) 0 i lt)
      go (inr le) = get_or-eq_default l 0 le ∙ sym (get_or-eq_default more 0 (omega (arith, length_more)))

  five-other : (p r j : ℕ) → (j ≡ 1 → p ≡ r) → get_or (five p) j 0 ≡ get_or (five r) j 0
  five-other p r zero e = refl
  five-other p r (suc zero) e = e refl
  five-other p r (suc (suc j)) e = refl

  other : (k : ℕ) → (k ≡ 1 → ⊥) → (k ≡ link_start (length l) + 1 → ⊥) → byte_of (started l) k ≡ byte_of (started more) k
  other k a b = go (below_or k 2) (below_or k 322)
    where
      go : (k < 2) ⊎ (2 ≤ k) → (k < 322) ⊎ (322 ≤ k) → byte_of (started l) k ≡ byte_of (started more) k
      go (inl lt) c = let z : k ≡ 0 = omega arith in rw z
      go (inr ge) (inl lt) =
          link-of l k ge lt
          ∙ five-other (get_or l ((k - 2) / 5) 0) (get_or more ((k - 2) / 5) 0) ((k - 2) % 5)
          (λ e. get_or-more ((k - 2) / 5) (λ h. b (omega arith)))
          ∙ sym (link-of more k ge lt)
      go (inr ge) (inr le) = rest_of l k le ∙ sym (rest_of more k le)

  module _ (room : length l < links_cap) where
    abbrev at : ℕ
    at = link_start (length l) + 1

    abbrev B : List ℕ
    B = set (bytes_of (started l)) 1 (length l + 1)

    abbrev C : List ℕ
    C = set B at q

    whole : length B ≡ size
    whole = length-set (bytes_of (started l)) 1 (length l + 1) ∙ whole_of (started l)

    -- the count, the state, and the others
    count-byte : get_or C 1 0 ≡ byte_of (started more) 1
    count-byte =
        get_or-set_other B at 1 q 0 (λ e. omega arith)
        ∙ get_or-set_same (bytes_of (started l)) 1 (length l + 1) 0 (omega (arith, whole_of (started l)))
        ∙ sym (head-of more 1 (omega arith) ∙ length_more)

    state-byte : get_or C at 0 ≡ byte_of (started more) at
    state-byte = get_or-set_same B at q 0 (omega (arith, whole)) ∙ sym there
      where
        there : byte_of (started more) at ≡ q
        there =
            let d : (at - 2) / 5 ≡ length l = omega arith in
            let m : (at - 2) % 5 ≡ 1 = omega arith in
            link-of more at (omega arith) (omega arith) ∙ rw (d, m) (get_or_at l q [] 0 (length l) refl)

    other_byte : (k : ℕ) → k < size → (k ≡ 1 → ⊥) → (k ≡ at → ⊥) → get_or C k 0 ≡ byte_of (started more) k
    other_byte k lt a b =
        get_or-set_other B at k q 0 b
        ∙ get_or-set_other (bytes_of (started l)) 1 k (length l + 1) 0 a
        ∙ byte-of (started l) k lt
        ∙ other k a b

    pub start-more : C ≡ bytes_of (started more)
    start-more =
        let long = length-set B at q ∙ whole in
        ext_get_or 0 C (bytes_of (started more)) (long ∙ sym (whole_of (started more)))
        (λ k lt. let h : k < size = omega (arith, long) in go k h ∙ sym (byte-of (started more) k h))
      where
        go : (k : ℕ) → k < size → get_or C k 0 ≡ byte_of (started more) k
        go k lt =
            ⊎_elim (λ e. rw e count-byte)
            (λ a. ⊎_elim (λ e. rw e state-byte) (λ b. other_byte k lt a b) (same_or k at)) (same_or k 1)

-- a visit of the states of a set: those behind have their links
pub record Starting (states i rest : ℕ) (session : List ℕ) : Type 0 where
  pub visit : Visit states i rest
  pub is : session ≡ bytes_of (started (take i (members states)))

pub starting-more : {states i rest q after : ℕ} {session session' : List ℕ} → Starting states i rest session
    → Turn states i q after → session' ≡ set (set session 1 (i + 1)) (link_start i + 1) q
    → Starting states (i + 1) after session'
starting-more {states} {i} {q = q} s t d =
    let l = members states in
    let n : length (take i l) ≡ i = length-take-le i l s.visit.behind in
    let e = start-more (take i l) q (omega (arith, n, t.within, members-le states)) in
    let f : take (i + 1) l ≡ take i l ++ q ∷ [] = rw (add-one, ← t.is) (take-suc l i 0 t.within) in
    record { visit = t.onward; is = d ∙ rw (s.is, f) (rw n at e) }
