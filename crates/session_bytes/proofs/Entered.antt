-- An entry written in parts: its link and length, its piece, and then zeros to the end of the piece before. Assumes
-- nothing.
use mathlib.Core.Path.{◌≡◌, refl, sym, ◌∙◌, ap}
use mathlib.Core.Logic.{◌⊎◌, inl, inr}
use mathlib.Core.List.{List}
use Prim.Native.Nat.{ℕ, ◌+◌, ◌-◌, ◌<◌, ◌≤◌}
use native.Mathlib.Omega.{arith}
use lib.ListN.{length, replicate, get_or, length-replicate, get_or-eq_default}
use lib.Seq.{paste}
use Rattle.words.specs.Words.{Word}
use Rattle.words.proofs.Lists.{below_or}
use Rattle.words.proofs.Pasted.{Pasted, pasted}
use Rattle.words.specs.LittleEndian.{byte}
use Rattle.session_meaning.specs.Bytes.{link_start, length_start, piece_start, piece_room, size, length_at}
use Rattle.session_meaning.specs.Numbers.{piece_end, CanPut, Outside, Put}
use Rattle.session_meaning.proofs.Encoded.{get_or-zeros}
use Rattle.links.specs.declared.Link.{Link}
use Rattle.links.specs.Heads.{five_of, with_link}
use Rattle.links.proofs.Linked.{Linked, linked}

pub record Parts (a : List ℕ) (i : ℕ) (l : Link) (word : Word) (d : List ℕ) : Type 0 where
  pub b : List ℕ
  pub head : Linked a i l (length word) b
  pub piece : Pasted b (piece_start i) word d
  pub whole : length d ≡ length a

pub parts-made : {a b d : List ℕ} {i : ℕ} {l : Link} {word : Word} → length a ≡ size → CanPut a i word
    → b ≡ with_link a i l (length word) → d ≡ paste b (piece_start i) word (length word) → Parts a i l word d
parts-made {a} {b} {d} {i} {l} {word} whole ready e f =
    let head : Linked a i l (length word) b = linked l (omega arith) (omega arith) e in
    let piece : Pasted b (piece_start i) word d = pasted (omega (arith, head.whole)) f in
    record { b = b; head = head; piece = piece; whole = piece.whole ∙ head.whole }

module _ {a d e : List ℕ} {i : ℕ} {l : Link} {word : Word} (ready : CanPut a i word)
    (parts : Parts a i l word d)
    (zeros : Pasted d (piece_start i + length word) (replicate (length_at a i - length word) 0) e) where
  abbrev head : Linked a i l (length word) parts.b
  head = parts.head

  abbrev piece : Pasted parts.b (piece_start i) word d
  piece = parts.piece

  many : length (replicate {A = ℕ} (length_at a i - length word) 0) ≡ length_at a i - length word
  many = length-replicate {A = ℕ} (length_at a i - length word) 0

  -- the last two parts touch nothing outside the piece
  before-piece : (k : ℕ) → k < piece_start i → byte e k ≡ byte parts.b k
  before-piece k lt = zeros.others k (inl (omega arith)) ∙ piece.others k (inl lt)

  behind-piece : (k : ℕ) → piece_end a i ≤ k → piece_start i + length word ≤ k → byte e k ≡ byte a k
  behind-piece k le ge =
      zeros.others k (inr (omega (arith, many)))
      ∙ piece.others k (inr ge)
      ∙ head.others k (inr (omega arith)) (inr (omega arith))

  here-piece : (j : ℕ) → j < piece_room → byte e (piece_start i + j) ≡ get_or word j 0
  here-piece j lt = go (below_or j (length word)) (below_or j (length_at a i))
    where
      go : (j < length word) ⊎ (length word ≤ j) → (j < length_at a i) ⊎ (length_at a i ≤ j)
          → byte e (piece_start i + j) ≡ get_or word j 0
      go (inl l) s = zeros.others (piece_start i + j) (inl (omega arith)) ∙ piece.here j l
      go (inr g) (inl l) =
          let f : piece_start i + j ≡ piece_start i + length word + (j - length word) = omega arith in
          ap (byte e) f
          ∙ zeros.here (j - length word) (omega (arith, many))
          ∙ get_or-zeros (length_at a i - length word) (j - length word)
          ∙ sym (get_or-eq_default word 0 g)
      go (inr g) (inr h) =
          behind-piece (piece_start i + j) (omega arith) (omega arith)
          ∙ ready.tidy.behind.zero (piece_start i + j) (omega arith) (omega arith)
          ∙ sym (get_or-eq_default word 0 g)

  other : (k : ℕ) → Outside i k → byte e k ≡ byte a k
  other k o = go o.piece
    where
      go : (k < piece_start i) ⊎ (piece_start (i + 1) ≤ k) → byte e k ≡ byte a k
      go (inl l) =
          before-piece k l ∙ head.others k o.link o.long
      go (inr g) = behind-piece k (omega (arith, ready.tidy.short)) (omega arith)

  put-made : Put a i (five_of l) word e
  put-made =
      record {
        whole = zeros.whole ∙ parts.whole;
        here = record {
          link = λ j h.
              before-piece (link_start i + j) (omega arith) ∙ head.link j h;
          long = λ j h. before-piece (length_start i + j) (omega arith) ∙ head.long j h;
          piece = here-piece;
        };
        others = other;
      }

-- where the piece before was no longer, and where it was
pub put-over : {a d : List ℕ} {i : ℕ} {l : Link} {word : Word} {old : ℕ} → CanPut a i word
    → old ≡ length_at a i → old ≤ length word → Parts a i l word d → Put a i (five_of l) word d
put-over {a} {d} {i} {l} {word} ready e le parts =
    let none : length (replicate {A = ℕ} (length_at a i - length word) 0) ≡ length_at a i - length word =
    length-replicate {A = ℕ} (length_at a i - length word) 0 in
    put-made ready parts
    (record { whole = refl; here = λ j lt. absurd (omega arith); others = λ k side. refl })

pub put-behind : {a d e : List ℕ} {i : ℕ} {l : Link} {word : Word} {old : ℕ} → length a ≡ size
    → CanPut a i word → old ≡ length_at a i → length word ≤ old → Parts a i l word d
    → e ≡ paste d (piece_start i + length word) (replicate (old - length word) 0) (old - length word)
    → Put a i (five_of l) word e
put-behind {a} {d} {e} {i} {l} {word} {old} whole ready f le parts is =
    let many : length (replicate {A = ℕ} (old - length word) 0) ≡ old - length word =
    length-replicate {A = ℕ} (old - length word) 0 in
    let room : piece_start i + length word + length (replicate {A = ℕ} (old - length word) 0) ≤ length d =
    omega (arith, parts.whole, ready.tidy.short) in
    let zeros : Pasted d (piece_start i + length word) (replicate (old - length word) 0) e = pasted room (rw many is) in
    put-made ready parts (rw f at zeros)
