-- Places between two others that hold 0, and what they have to do with places that are not used. Assumes nothing.
use mathlib.Core.Path.{◌≡◌, ap, ◌∙◌}
use mathlib.Core.Bool.{Bool}
use mathlib.Core.List.{List}
use Prim.Native.Nat.{ℕ, ◌+◌, ◌-◌, ◌<◌, ◌≤◌}
use native.Mathlib.Omega.{arith}
use lib.ListN.{take, drop}
use Rattle.words.specs.Lists.{Exact}
use Rattle.words.specs.Together.{AllZero}
use Rattle.words.proofs.Exact.{exact-as}
use Rattle.words.proofs.Cleared.{zero-part}
use Rattle.words.specs.LittleEndian.{byte}
use Rattle.session_meaning.specs.Bytes.{length_start, piece_start, size, link_count, Unused}
use Rattle.session_meaning.specs.Numbers.{links_end, lengths_end, piece_end, pieces_end, Clear, ClearBehind}

pub clear-exact : {bytes x : List ℕ} {s e : ℕ} {b : Bool} → x ≡ take (e - s) (drop s bytes) → Exact (AllZero x) b
    → Exact (Clear bytes s e) b
clear-exact {bytes} {x} {s} {e} h t =
    exact-as (
      λ z. record { zero = λ k g l. (zero-part bytes s (e - s)).0 z k g (omega arith) },
      λ c. (zero-part bytes s (e - s)).1 (λ k g l. c.zero k g (omega arith)),
    )
    (rw h at t)

module _ (bytes : List ℕ) where
  pub unused-behind : Unused bytes → ClearBehind bytes (link_count bytes)
  unused-behind u = record { each = λ i lt. record { zero = at i lt } }
    where
      at : (i : ℕ) → i < link_count bytes → (k : ℕ) → piece_end bytes i ≤ k → k < piece_start (i + 1) → byte bytes k ≡ 0
      at i lt k g l =
          let e : k ≡ piece_start i + (k - piece_start i) = omega arith in
          ap (byte bytes) e ∙ u.pieces i lt (k - piece_start i) (omega arith) (omega arith)

  pub clear-unused : Clear bytes (links_end bytes) (length_start 0)
      → Clear bytes (lengths_end bytes) (piece_start 0) → ClearBehind bytes (link_count bytes)
      → Clear bytes (pieces_end bytes) size → Unused bytes
  clear-unused a b c d =
      record {
        links = a.zero;
        lengths = b.zero;
        pieces = λ i lt j g l. (c.each i lt).zero (piece_start i + j) (omega arith) (omega arith);
        rest = d.zero;
      }
