-- What is held at the places of links and pieces: written there, kept beside it, and all together. Assumes nothing.
use mathlib.Core.Path.{◌≡◌, refl, sym, ◌∙◌}
use mathlib.Core.Logic.{◌⊎◌, inl, inr}
use mathlib.Core.List.{List, [], ◌∷◌}
use Prim.Native.Nat.{ℕ, zero, suc, ◌+◌, ◌-◌, ◌*◌, ◌/◌, ◌%◌, ◌<◌, ◌≤◌}
use native.Mathlib.Omega.{arith}
use native.Mathlib.Nat.{mul-suc, mul-le-mul_left}
use borrow.Author.Tests.{lt-ltb, le-ltb}
use lib.ListN.{length, get_or}
use lib.Seq.{ext_get_or}
use Rattle.words.specs.Words.{Word}
use Rattle.words.specs.LittleEndian.{byte}
use Rattle.words.proofs.Lists.{below_or}
use Rattle.meaning.specs.Answers.{links_cap}
use Rattle.session_meaning.specs.Sessions.{Session}
use Rattle.session_meaning.specs.Bytes.{link_start, length_start, piece_start, size, link_count, length_at}
use Rattle.session_meaning.specs.Bytes.{Kept}
use Rattle.session_meaning.specs.Bytes.{no_entry, entry_of, link_bytes}
use Rattle.session_meaning.specs.Bytes.{byte_of, bytes_of}
use Rattle.session_meaning.specs.Numbers.{Tidy, Holds, Same, Outside, Put}
use Rattle.session_meaning.proofs.Encoded.{byte-of, whole_of, get_or-zeros}
use Rattle.session_meaning.proofs.Clear.{unused-behind}

-- a place is between two others or outside them
pub within : (s t k : ℕ) → ((s ≤ k) × (k < t)) ⊎ ((k < s) ⊎ (t ≤ k))
within s t k = go (below_or k s) (below_or k t)
  where
    go : (k < s) ⊎ (s ≤ k) → (k < t) ⊎ (t ≤ k) → ((s ≤ k) × (k < t)) ⊎ ((k < s) ⊎ (t ≤ k))
    go (inl l) o = inr (inl l)
    go (inr g) (inl l) = inl (g, l)
    go (inr g) (inr h) = inr (inr h)

module _ {a e : List ℕ} {i : ℕ} {five : List ℕ} {word : Word} (p : Put a i five word e) (range : i < links_cap) where
  -- it is known what was left
  pub put-unique : {e' : List ℕ} → Put a i five word e' → e ≡ e'
  put-unique {e'} q = ext_get_or 0 e e' (p.whole ∙ sym q.whole) (λ k lt. at k)
    where
      Here : ℕ → ℕ → ℕ → Type 0
      Here s t k = ((s ≤ k) × (k < t)) ⊎ ((k < s) ⊎ (t ≤ k))

      at : (k : ℕ) → byte e k ≡ byte e' k
      at k =
          go (within (link_start i) (link_start (i + 1)) k) (within (length_start i) (length_start (i + 1)) k)
          (within (piece_start i) (piece_start (i + 1)) k)
        where
          same : (s j : ℕ) → s + j ≡ k → byte e (s + j) ≡ byte e' (s + j) → byte e k ≡ byte e' k
          same s j f h = rw f at h

          go : Here (link_start i) (link_start (i + 1)) k → Here (length_start i) (length_start (i + 1)) k
              → Here (piece_start i) (piece_start (i + 1)) k → byte e k ≡ byte e' k
          go (inl (x, y)) b c =
              let j = k - link_start i in
              same (link_start i) j (omega arith) (p.here.link j (omega arith) ∙ sym (q.here.link j (omega arith)))
          go (inr a) (inl (x, y)) c =
              let j = k - length_start i in
              same (length_start i) j (omega arith) (p.here.long j (omega arith) ∙ sym (q.here.long j (omega arith)))
          go (inr a) (inr b) (inl (x, y)) =
              let j = k - piece_start i in
              same (piece_start i) j (omega arith)
              (p.here.piece j (omega arith) ∙ sym (q.here.piece j (omega arith)))
          go (inr a) (inr b) (inr c) =
              let o : Outside i k = record { link = a; long = b; piece = c } in
              p.others k o ∙ sym (q.others k o)

  -- all other links and pieces are the same
  pub put-others : (k : ℕ) → k < links_cap → (k ≡ i → ⊥) → Same a e k
  put-others k lt n =
      record {
        link = λ j h.
            p.others (link_start k + j)
            (record { link = by 2 5 j h; long = inl (omega arith); piece = inl (omega arith) });
        long = λ j h.
            p.others (length_start k + j)
            (record { link = inr (omega arith); long = by 322 2 j h; piece = inl (omega arith) });
        piece = λ j h.
            p.others (piece_start k + j)
            (record { link = inr (omega arith); long = inr (omega arith); piece = by 450 512 j h });
      }
    where
      by : (s w j : ℕ) → j < w → (s + w * k + j < s + w * i) ⊎ (s + w * (i + 1) ≤ s + w * k + j)
      by s w j h = go (below_or k i) (below_or i k)
        where
          go : (k < i) ⊎ (i ≤ k) → (i < k) ⊎ (k ≤ i) → (s + w * k + j < s + w * i) ⊎ (s + w * (i + 1) ≤ s + w * k + j)
          go (inl l) o = inl (omega (arith, mul-suc w k, mul-le-mul_left w l))
          go (inr g) (inl l) = inr (omega (arith, mul-suc w i, mul-le-mul_left w l))
          go (inr g) (inr h) = absurd (n (omega arith))

-- what is the same is held as it was, and is as tidy
pub held_same : {a b : List ℕ} {i : ℕ} {five : List ℕ} {word : Word} → Same a b i → Holds a i five word
    → Holds b i five word
held_same s h =
    record {
      link = λ j lt. s.link j lt ∙ h.link j lt;
      long = λ j lt. s.long j lt ∙ h.long j lt;
      piece = λ j lt. s.piece j lt ∙ h.piece j lt;
    }

pub same-all : (a : List ℕ) (i : ℕ) → Same a a i
same-all a i = record { link = λ j lt. refl; long = λ j lt. refl; piece = λ j lt. refl }

pub same_then : {a b c : List ℕ} {i : ℕ} → Same a b i → Same b c i → Same a c i
same_then s t =
    record {
      link = λ j lt. t.link j lt ∙ s.link j lt;
      long = λ j lt. t.long j lt ∙ s.long j lt;
      piece = λ j lt. t.piece j lt ∙ s.piece j lt;
    }

pub tidy-same : {a b : List ℕ} {i : ℕ} → Same a b i → Tidy a i → Tidy b i
tidy-same {a} {b} {i} s t =
    let z : length_start i + 0 ≡ length_start i = omega arith in
    let x : byte b (length_start i) ≡ byte a (length_start i) = rw z at (s.long 0 (omega arith)) in
    let y : byte b (length_start i + 1) ≡ byte a (length_start i + 1) = s.long 1 (omega arith) in
    record {
      short = omega (arith, t.short);
      behind = record {
        zero = λ k le lt.
            let e : piece_start i + (k - piece_start i) ≡ k = omega arith in
            rw e at (s.piece (k - piece_start i) (omega arith)) ∙ t.behind.zero k (omega arith) lt;
      };
    }

-- a session with tidy places
module _ {bytes : List ℕ} (kept : Kept bytes) (i : ℕ) (range : i < links_cap) where
  pub none_kept : link_count bytes ≤ i → Holds bytes i (link_bytes no_entry.link) []
  none_kept le =
      record {
        link = λ j lt. kept.unused.links (link_start i + j) (omega arith) (omega arith) ∙ sym (get_or-zeros 5 j);
        long = λ j lt. kept.unused.lengths (length_start i + j) (omega arith) (omega arith) ∙ sym (get_or-zeros 2 j);
        piece = λ j lt. kept.unused.rest (piece_start i + j) (omega arith) (omega arith);
      }

  pub tidy-kept : Tidy bytes i
  tidy-kept = go (below_or i (link_count bytes))
    where
      go : (i < link_count bytes) ⊎ (link_count bytes ≤ i) → Tidy bytes i
      go (inl lt) = record { short = kept.short i lt; behind = (unused-behind bytes kept.unused).each i lt }
      go (inr le) =
          let z : length_at bytes i ≡ 0 =
          omega (
            arith,
            kept.unused.lengths (length_start i) (omega arith) (omega arith),
            kept.unused.lengths (length_start i + 1) (omega arith) (omega arith),
          ) in
          record {
            short = omega arith;
            behind = record { zero = λ k g l. kept.unused.rest k (omega arith) (omega arith) };
          }

-- bytes that hold the entries of a session at all places are its bytes
pub held_all : {bytes : List ℕ} (S : Session) → length bytes ≡ size → byte bytes 0 ≡ S.depth
    → byte bytes 1 ≡ length S.entries
    → ((i : ℕ) → i < links_cap → Holds bytes i (link_bytes (entry_of S i).link) (entry_of S i).piece) → bytes ≡ bytes_of S
held_all {bytes} S whole depth count all =
    ext_get_or 0 bytes (bytes_of S) (whole ∙ sym (whole_of S))
    (λ k lt.
    let h : k < size = omega arith in
    go k h (below_or k 2) (below_or k 322) (below_or k 450) ∙ sym (byte-of S k h))
  where
    head : (k : ℕ) → k < 2 → byte bytes k ≡ get_or (S.depth ∷ length S.entries ∷ []) k 0
    head zero lt = depth
    head (suc zero) lt = count
    head (suc (suc k)) lt = absurd (omega arith)

    go : (k : ℕ) → k < size → (k < 2) ⊎ (2 ≤ k) → (k < 322) ⊎ (322 ≤ k) → (k < 450) ⊎ (450 ≤ k)
        → byte bytes k ≡ byte_of S k
    go k lt (inl a) b c = rw (lt-ltb k 2 a) (head k a)
    go k lt (inr a) (inl b) c =
        let e : link_start ((k - 2) / 5) + (k - 2) % 5 ≡ k = omega arith in
        rw (le-ltb k 2 a, lt-ltb k 322 b)
        (rw e at ((all ((k - 2) / 5) (omega arith)).link ((k - 2) % 5) (omega arith)))
    go k lt (inr a) (inr b) (inl c) =
        let e : length_start ((k - 322) / 2) + (k - 322) % 2 ≡ k = omega arith in
        rw (le-ltb k 2 a, le-ltb k 322 b, lt-ltb k 450 c)
        (rw e at ((all ((k - 322) / 2) (omega arith)).long ((k - 322) % 2) (omega arith)))
    go k lt (inr a) (inr b) (inr c) =
        let e : piece_start ((k - 450) / 512) + (k - 450) % 512 ≡ k = omega arith in
        rw (le-ltb k 2 a, le-ltb k 322 b, le-ltb k 450 c)
        (rw e at ((all ((k - 450) / 512) (omega arith)).piece ((k - 450) % 512) (omega arith)))
