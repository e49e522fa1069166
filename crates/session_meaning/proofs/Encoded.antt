-- The bytes of a session stand for it. Assumes nothing.
use mathlib.Core.Path.{◌≡◌, refl, sym, ◌∙◌, ap}
use mathlib.Core.Logic.{◌⊎◌, inl, inr, ◌↔◌}
use mathlib.Core.Bool.{cond}
use mathlib.Core.Option.{Option, some, none}
use mathlib.Core.List.Memᴰ
use mathlib.Core.List.{List, [], ◌∷◌, map}
use Prim.Native.Nat.{ℕ, zero, suc, ◌+◌, ◌*◌, ◌-◌, ◌/◌, ◌%◌, ◌<◌, ◌≤◌}
use native.Mathlib.Omega.{arith}
use native.Mathlib.Nat.{mul_comm}
use lib.Arith.{digits_div, digits_mod}
use lib.Dec.{eqb}
use borrow.Author.Tests.{lt-ltb, le-ltb, eq-eqb, ne_eqb}
use lib.ListN.{length, replicate, get_or, drop, length-map, length-drop, get_or-eq_default}
use lib.Seq.{ext_get_or, get_or-take, get_or-drop, length-take-le}
use Rattle.words.specs.Lists.{◌among◌, up_to}
use Rattle.words.specs.Words.{Word, Bytes}
use Rattle.words.proofs.Lists.{length-up_to, below_or, get_or-among, get_or-byte, bytes-nil, bytes-cons, get_or-map-up_to}
use Rattle.words.specs.LittleEndian.{byte}
use Rattle.meaning.specs.Trails.{Pair}
use Rattle.meaning.specs.Answers.{links_cap}
use Rattle.session_meaning.specs.Sessions.{Entry, Session}
use Rattle.session_meaning.specs.Bytes.{link_start, length_start, piece_start, piece_room, size, link_count, length_at}
use Rattle.session_meaning.specs.Bytes.{link_at}
use Rattle.session_meaning.specs.Bytes.{piece_at, entry_at, session_of, Kept, no_entry, entry_of, below_at, below_bytes}
use Rattle.session_meaning.specs.Bytes.{link_bytes, length_bytes, cell, byte_of, bytes_of}
use Rattle.session_meaning.proofs.Bytes.{none-some}

cell_at : (s w : ℕ) (things : ℕ → List ℕ) (i j : ℕ) → j < w → cell s w things (s + w * i + j) ≡ get_or (things i) j 0
cell_at s w things i j lt =
    let e : s + w * i + j - s ≡ i * w + j = omega (arith, mul_comm w i) in
    rw (e, digits_div i lt, digits_mod i lt) refl

pub byte-of : (S : Session) (k : ℕ) → k < size → byte (bytes_of S) k ≡ byte_of S k
unfolding bytes_of
byte-of S k lt = get_or-map-up_to (byte_of S) size k 0 lt

small_all : (S : Session) → ((k : ℕ) → byte_of S k < 256) → Bytes (bytes_of S)
unfolding bytes_of
small_all S h b m = let x = Memᴰ.of_map (byte_of S) (up_to size) m in rw (← x.2) (h x.0)

pub whole_of : (S : Session) → length (bytes_of S) ≡ size
unfolding bytes_of
whole_of S = length-map (up_to size) (byte_of S) ∙ length-up_to size

-- a session whose numbers are bytes and whose pieces have room
pub record Fits (S : Session) : Type 0 where
  pub depth : S.depth < 256
  pub count : length S.entries ≤ links_cap
  pub bytes : (e : Entry) → e among S.entries → Bytes (link_bytes e.link)
  pub below : (e : Entry) → e among S.entries → (e.link.level ≡ 0) ↔ (e.link.below ≡ none)
  pub short : (e : Entry) → e among S.entries → length e.piece ≤ piece_room
  pub piece : (e : Entry) → e among S.entries → Bytes e.piece

pub small-zeros : (n : ℕ) → Bytes (replicate n 0)
small-zeros zero = bytes-nil
small-zeros (suc n) = bytes-cons (omega arith) (small-zeros n)

cell-small : (s w : ℕ) (things : ℕ → List ℕ) (k : ℕ) → ((i : ℕ) → Bytes (things i)) → cell s w things k < 256
cell-small s w things k h = get_or-byte (things ((k - s) / w)) (h ((k - s) / w)) ((k - s) % w)

pub get_or-zeros : (n i : ℕ) → ◌≡◌ {A = ℕ} (get_or (replicate n 0) i 0) 0
get_or-zeros zero i = refl
get_or-zeros (suc n) zero = refl
get_or-zeros (suc n) (suc i) = get_or-zeros n i

module _ (S : Session) (ok : Fits S) where
  abbrev B : List ℕ
  B = bytes_of S

  depth-of : byte B 0 ≡ S.depth
  depth-of = byte-of S 0 (omega arith)

  count_of : link_count B ≡ length S.entries
  count_of = byte-of S 1 (omega arith)

  link-of : (i j : ℕ) → i < links_cap → j < 5 → byte B (link_start i + j) ≡ get_or (link_bytes (entry_of S i).link) j 0
  link-of i j lt le =
      let a = le-ltb (link_start i + j) 2 (omega arith) in
      let b = lt-ltb (link_start i + j) (length_start 0) (omega arith) in
      byte-of S (link_start i + j) (omega arith)
      ∙ rw (a, b) (cell_at 2 5 (λ i. link_bytes (entry_of S i).link) i j le)

  length-of : (i j : ℕ) → i < links_cap → j < 2
      → byte B (length_start i + j) ≡ get_or (length_bytes (entry_of S i).piece) j 0
  length-of i j lt le =
      let a = le-ltb (length_start i + j) 2 (omega arith) in
      let b = le-ltb (length_start i + j) (length_start 0) (omega arith) in
      let c = lt-ltb (length_start i + j) (piece_start 0) (omega arith) in
      byte-of S (length_start i + j) (omega arith)
      ∙ rw (a, b, c) (cell_at (length_start 0) 2 (λ i. length_bytes (entry_of S i).piece) i j le)

  piece_of : (i j : ℕ) → i < links_cap → j < piece_room → byte B (piece_start i + j) ≡ get_or (entry_of S i).piece j 0
  piece_of i j lt le =
      let a = le-ltb (piece_start i + j) 2 (omega arith) in
      let b = le-ltb (piece_start i + j) (length_start 0) (omega arith) in
      let c = le-ltb (piece_start i + j) (piece_start 0) (omega arith) in
      byte-of S (piece_start i + j) (omega arith)
      ∙ rw (a, b, c) (cell_at (piece_start 0) piece_room (λ i. (entry_of S i).piece) i j le)

  there : (i : ℕ) → i < length S.entries → entry_of S i among S.entries
  there i lt = get_or-among S.entries i no_entry lt

  -- what was written is read

  level-back : (i : ℕ) → i < links_cap → byte B (link_start i) ≡ (entry_of S i).link.level
  level-back i lt = let z : link_start i + 0 ≡ link_start i = omega arith in rw z at (link-of i 0 lt (omega arith))

  below-back : (i : ℕ) → i < length S.entries
      → cond (eqb (byte B (link_start i)) 0) none (some (below_at B i))
      ≡ (entry_of S i).link.below
  below-back i lt =
      let le : i < links_cap = omega (arith, ok.count) in
      let p = link-of i 3 le (omega arith) in
      let q = link-of i 4 le (omega arith) in
      go (entry_of S i).link.below refl (ok.below (entry_of S i) (there i lt)) (level-back i le) p q
    where
      go : (o : Option Pair) → (entry_of S i).link.below ≡ o
          → ((entry_of S i).link.level ≡ 0) ↔ ((entry_of S i).link.below ≡ none)
          → byte B (link_start i) ≡ (entry_of S i).link.level
          → byte B (link_start i + 3) ≡ get_or (below_bytes (entry_of S i).link.below) 0 0
          → byte B (link_start i + 4) ≡ get_or (below_bytes (entry_of S i).link.below) 1 0
          → cond (eqb (byte B (link_start i)) 0) none (some (below_at B i)) ≡ (entry_of S i).link.below
      go none e f l p q = rw (eq-eqb (byte B (link_start i)) 0 (l ∙ f.1 e)) (sym e)
      go (some r) e f l p q =
          let n = ne_eqb (byte B (link_start i)) 0 (λ h. none-some (sym (f.0 (sym l ∙ h)) ∙ e)) in
          let x : byte B (link_start i + 3) ≡ r.state = p ∙ ap (λ (o : Option Pair). get_or (below_bytes o) 0 0) e in
          let y : byte B (link_start i + 4) ≡ r.marker = q ∙ ap (λ (o : Option Pair). get_or (below_bytes o) 1 0) e in
          rw (n, x, y) (sym e)

  link-back : (i : ℕ) → i < length S.entries → link_at B i ≡ (entry_of S i).link
  link-back i lt =
      let le : i < links_cap = omega (arith, ok.count) in
      let a = level-back i le in
      let b = link-of i 1 le (omega arith) in
      let c = link-of i 2 le (omega arith) in
      let d = below-back i lt in
      λ k. record { level = a k; here = record { state = b k; marker = c k }; below = d k }

  length_back : (i : ℕ) → i < links_cap → length_at B i ≡ length (entry_of S i).piece
  length_back i lt =
      let z : length_start i + 0 ≡ length_start i = omega arith in
      let a = rw z at (length-of i 0 lt (omega arith)) in
      let b = length-of i 1 lt (omega arith) in
      omega arith

  piece_back : (i : ℕ) → i < length S.entries → piece_at B i ≡ (entry_of S i).piece
  piece_back i lt =
      let le : i < links_cap = omega (arith, ok.count) in
      let x = (entry_of S i).piece in
      let n = length_back i le in
      let m = ok.short (entry_of S i) (there i lt) in
      let k = length-take-le (length_at B i) (drop (piece_start i) B)
      (omega (arith, length-drop (piece_start i) B, whole_of S)) in
      ext_get_or 0 (piece_at B i) x (k ∙ n)
      (λ j h.
      get_or-take (length_at B i) (drop (piece_start i) B) j 0 (omega arith)
      ∙ get_or-drop (piece_start i) B j 0
      ∙ piece_of i j le (omega arith))

  pub session-back : session_of B ≡ S
  session-back =
      let e = entries in
      λ k. record { depth = depth-of k; entries = e k }
    where
      back : (i : ℕ) → i < length S.entries → entry_at B i ≡ entry_of S i
      back i lt = let a = link-back i lt in let b = piece_back i lt in λ k. record { link = a k; piece = b k }

      entries : map (entry_at B) (up_to (link_count B)) ≡ S.entries
      entries =
          let long = length-map (up_to (link_count B)) (entry_at B) ∙ length-up_to (link_count B) ∙ count_of in
          ext_get_or no_entry (map (entry_at B) (up_to (link_count B))) S.entries long
          (λ i lt.
          let h : i < length S.entries = omega (arith, long) in
          get_or-map-up_to (entry_at B) (link_count B) i no_entry (omega (arith, count_of)) ∙ back i h)

  -- and places that are not used hold 0

  entry-all : (P : Entry → Type 0) → ((e : Entry) → e among S.entries → P e) → P no_entry → (i : ℕ) → P (entry_of S i)
  entry-all P h last i = go (below_or i (length S.entries))
    where
      go : (i < length S.entries) ⊎ (length S.entries ≤ i) → P (entry_of S i)
      go (inl lt) = h (entry_of S i) (there i lt)
      go (inr le) = rw (get_or-eq_default S.entries no_entry le) last

  small_of : (k : ℕ) → byte_of S k < 256
  small_of k = go (below_or k 2) (below_or k 322) (below_or k 450)
    where
      links-small : (i : ℕ) → Bytes (link_bytes (entry_of S i).link)
      links-small = entry-all (λ e. Bytes (link_bytes e.link)) ok.bytes (small-zeros 5)

      two-small : (x : Word) → length x ≤ piece_room → Bytes (length_bytes x)
      two-small x le = bytes-cons (omega arith) (bytes-cons (omega arith) bytes-nil)

      lengths-small : (i : ℕ) → Bytes (length_bytes (entry_of S i).piece)
      lengths-small =
          entry-all (λ e. Bytes (length_bytes e.piece)) (λ e m. two-small e.piece (ok.short e m))
          (two-small [] (omega arith))

      go : (k < 2) ⊎ (2 ≤ k) → (k < 322) ⊎ (322 ≤ k) → (k < 450) ⊎ (450 ≤ k) → byte_of S k < 256
      go (inl a) b c =
          let n : length S.entries < 256 = omega (arith, ok.count) in
          rw (lt-ltb k 2 a)
          (get_or-byte (S.depth ∷ length S.entries ∷ []) (bytes-cons ok.depth (bytes-cons n bytes-nil)) k)
      go (inr a) (inl b) c =
          rw (le-ltb k 2 a, lt-ltb k 322 b) (cell-small 2 5 (λ i. link_bytes (entry_of S i).link) k links-small)
      go (inr a) (inr b) (inl c) =
          rw (le-ltb k 2 a, le-ltb k 322 b, lt-ltb k 450 c)
          (cell-small 322 2 (λ i. length_bytes (entry_of S i).piece) k lengths-small)
      go (inr a) (inr b) (inr c) =
          rw (le-ltb k 2 a, le-ltb k 322 b, le-ltb k 450 c)
          (cell-small 450 512 (λ i. (entry_of S i).piece) k
          (entry-all (λ e. Bytes e.piece) ok.piece bytes-nil))

  nothing : (i : ℕ) → length S.entries ≤ i → entry_of S i ≡ no_entry
  nothing i le = get_or-eq_default S.entries no_entry le

  pub kept_of : Kept B
  kept_of =
      record {
        whole = whole_of S;
        small = small_all S small_of;
        count = omega (arith, count_of, ok.count);
        below = λ i lt h. unfilled i (omega (arith, count_of)) h;
        short = λ i lt. fits i (omega (arith, count_of));
        unused = record {
          links = λ k le lt. unused-link k (omega (arith, count_of)) lt;
          lengths = λ k le lt. unused-length k (omega (arith, count_of)) lt;
          pieces = λ i lt j le h. past i (omega (arith, count_of)) j le h;
          rest = λ k le lt. unused-piece k (omega (arith, count_of)) lt;
        };
      }
    where
      unfilled : (i : ℕ) → i < length S.entries → byte B (link_start i) ≡ 0
          → (byte B (link_start i + 3) ≡ 0) × (byte B (link_start i + 4) ≡ 0)
      unfilled i lt h =
          let le : i < links_cap = omega (arith, ok.count) in
          let e = (ok.below (entry_of S i) (there i lt)).0 (sym (level-back i le) ∙ h) in (
            link-of i 3 le (omega arith) ∙ ap (λ (o : Option Pair). get_or (below_bytes o) 0 0) e,
            link-of i 4 le (omega arith) ∙ ap (λ (o : Option Pair). get_or (below_bytes o) 1 0) e,
          )

      fits : (i : ℕ) → i < length S.entries → length_at B i ≤ piece_room
      fits i lt =
          omega (arith, length_back i (omega (arith, ok.count)), ok.short (entry_of S i) (there i lt))

      past : (i : ℕ) → i < length S.entries → (j : ℕ) → length_at B i ≤ j → j < piece_room
          → byte B (piece_start i + j) ≡ 0
      past i lt j le h =
          let k : i < links_cap = omega (arith, ok.count) in
          piece_of i j k h ∙ get_or-eq_default (entry_of S i).piece 0 (omega (arith, length_back i k))

      unused-link : (k : ℕ) → link_start (length S.entries) ≤ k → k < 322 → byte B k ≡ 0
      unused-link k le lt =
          let e = nothing ((k - 2) / 5) (omega arith) in
          byte-of S k (omega arith)
          ∙ rw (le-ltb k 2 (omega arith), lt-ltb k 322 lt, e) (get_or-zeros 5 ((k - 2) % 5))

      unused-length : (k : ℕ) → length_start (length S.entries) ≤ k → k < 450 → byte B k ≡ 0
      unused-length k le lt =
          let e = nothing ((k - 322) / 2) (omega arith) in
          byte-of S k (omega arith)
          ∙ rw (le-ltb k 2 (omega arith), le-ltb k 322 (omega arith), lt-ltb k 450 lt, e) (get_or-zeros 2 ((k - 322) % 2))

      unused-piece : (k : ℕ) → piece_start (length S.entries) ≤ k → k < size → byte B k ≡ 0
      unused-piece k le lt =
          let e = nothing ((k - 450) / 512) (omega arith) in
          byte-of S k lt
          ∙ rw (le-ltb k 2 (omega arith), le-ltb k 322 (omega arith), le-ltb k 450 (omega arith), e)
          (get_or-zeros 0 ((k - 450) % 512))
