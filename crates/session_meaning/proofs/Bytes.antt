-- Bytes that stand for one session are the same bytes. Assumes nothing.
use mathlib.Core.Path.{◌≡◌, refl, sym, ◌∙◌, ap, subst}
use mathlib.Core.Logic.{◌⊎◌, inl, inr}
use mathlib.Core.Bool.{Bool, true, false, cond}
use mathlib.Core.Option.{Option, some, none, some-injective}
use mathlib.Core.List.Memᴰ
use mathlib.Core.List.{List, ◌∷◌, map, head-eq_of_cons-eq, tail-eq_of_cons-eq}
use Prim.Native.Nat.{ℕ, zero, suc, ◌+◌, ◌*◌, ◌-◌, ◌/◌, ◌%◌, ◌<◌, ◌≤◌}
use native.Mathlib.Omega.{arith}
use lib.Dec.{eqb}
use borrow.Author.Tests.{eqb-true}
use lib.ListN.{length, get_or, drop, length-map, length-drop}
use native.Mathlib.Nat.{div-add-mod, mod-lt, mul-le-mul_left}
use lib.Seq.{ext_get_or, get_or-take, get_or-drop, length-take-le}
use Rattle.words.specs.Lists.{◌among◌, up_to}
use Rattle.words.specs.Words.{Word}
use Rattle.words.proofs.Lists.{up_to-in, length-up_to, below_or, get_or-byte}
use Rattle.words.specs.LittleEndian.{byte}
use Rattle.meaning.specs.Trails.{Pair, Link}
use Rattle.meaning.specs.Answers.{links_cap}
use Rattle.session_meaning.specs.Sessions.{Entry, Session}
use Rattle.session_meaning.specs.Bytes.{link_start, length_start, piece_start, piece_room, size, link_count, length_at}
use Rattle.session_meaning.specs.Bytes.{below_at}
use Rattle.session_meaning.specs.Bytes.{link_at, piece_at, entry_at, session_of, Kept}

-- what is made alike of a list is made alike of each thing in it
map-one : {A B : Type 0} (f g : A → B) (l : List A) {x : A} → map f l ≡ map g l → x among l → f x ≡ g x
map-one {A = A} {B = B} f g mathlib.Core.List.[] e x4 = elim x4 [ ]
map-one f g (y ∷ l) e (Memᴰ.head h) = ap f h ∙ head-eq_of_cons-eq e ∙ ap g (sym h)
map-one f g (y ∷ l) e (Memᴰ.tail m) = map-one f g l (tail-eq_of_cons-eq e) m

pub none-some : {p : Pair} → none ≡ some p → ⊥
none-some h = subst filled (sym h) tt
  where
    filled : Option Pair → Type 0
    filled none = ⊥
    filled (some p) = Unit {0}

-- there are as many entries as the count says
pub counted : (A : List ℕ) → length (session_of A).entries ≡ link_count A
counted A = length-map (up_to (link_count A)) (entry_at A) ∙ length-up_to (link_count A)

-- a piece is as long as its length says, and has the bytes of its places
pub long : (A : List ℕ) → length A ≡ size → link_count A ≤ links_cap → (i : ℕ) → i < link_count A → length_at A i ≤ piece_room
    → length (piece_at A i) ≡ length_at A i
long A whole few i lt short =
    length-take-le (length_at A i) (drop (piece_start i) A) (omega (arith, length-drop (piece_start i) A))

pub in-piece : (A : List ℕ) (i j : ℕ) → j < length_at A i → get_or (piece_at A i) j 0 ≡ byte A (piece_start i + j)
in-piece A i j lt = get_or-take (length_at A i) (drop (piece_start i) A) j 0 lt ∙ get_or-drop (piece_start i) A j 0

module _ (B C : List ℕ) (b : Kept B) (c : Kept C) (e : session_of B ≡ session_of C) where
  depth-byte : byte B 0 ≡ byte C 0
  depth-byte = ap (λ (S : Session). S.depth) e

  count-byte : link_count B ≡ link_count C
  count-byte =
      let f = ap (λ (S : Session). length S.entries) e in
      sym (counted B) ∙ f ∙ counted C

  entry-same : (i : ℕ) → i < link_count B → entry_at B i ≡ entry_at C i
  entry-same i lt =
      let f : map (entry_at B) (up_to (link_count B)) ≡ map (entry_at C) (up_to (link_count B)) =
      ap (λ (S : Session). S.entries) e ∙ ap (λ (n : ℕ). map (entry_at C) (up_to n)) (sym count-byte) in
      map-one (entry_at B) (entry_at C) (up_to (link_count B)) f (up_to-in (link_count B) i lt)

  link-same : (i : ℕ) → i < link_count B → link_at B i ≡ link_at C i
  link-same i lt = ap (λ (e : Entry). e.link) (entry-same i lt)

  piece-same : (i : ℕ) → i < link_count B → piece_at B i ≡ piece_at C i
  piece-same i lt = ap (λ (e : Entry). e.piece) (entry-same i lt)

  length-same : (i : ℕ) → i < link_count B → length_at B i ≡ length_at C i
  length-same i lt =
      let n = count-byte in
      sym (kept-long B b i lt) ∙ ap length (piece-same i lt) ∙ kept-long C c i (omega arith)
    where
      kept-long : (A : List ℕ) → Kept A → (i : ℕ) → i < link_count A → length (piece_at A i) ≡ length_at A i
      kept-long A k i lt = long A k.whole k.count i lt (k.short i lt)

  -- the bytes of a link that is used
  below-same : (i : ℕ) → i < link_count B
      → (byte B (link_start i + 3) ≡ byte C (link_start i + 3)) × (byte B (link_start i + 4) ≡ byte C (link_start i + 4))
  below-same i lt =
      let n = count-byte in
      let l : byte B (link_start i) ≡ byte C (link_start i) = ap (λ (l : Link). l.level) (link-same i lt) in
      go (eqb (byte B (link_start i)) 0) (eqb (byte C (link_start i)) 0) (λ t. eqb-true (byte B (link_start i)) 0 t)
      (λ t. eqb-true (byte C (link_start i)) 0 t) (ap (λ (l : Link). l.below) (link-same i lt)) l (omega arith)
    where
      go : (s t : Bool) → (s ≡ true → byte B (link_start i) ≡ 0) → (t ≡ true → byte C (link_start i) ≡ 0)
          → cond s none (some (below_at B i)) ≡ cond t none (some (below_at C i))
          → byte B (link_start i) ≡ byte C (link_start i) → i < link_count C
          → (byte B (link_start i + 3) ≡ byte C (link_start i + 3))
          × (byte B (link_start i + 4) ≡ byte C (link_start i + 4))
      go true true f g h l m =
          let x = b.below i lt (f refl) in
          let y = c.below i m (g refl) in
          (x.0 ∙ sym y.0, x.1 ∙ sym y.1)
      go true false f g h l m = absurd (none-some h)
      go false true f g h l m = absurd (none-some (sym h))
      go false false f g h l m =
          let p = some-injective (below_at B i) (below_at C i) h in
          (ap (λ (p : Pair). p.state) p, ap (λ (p : Pair). p.marker) p)

  -- the five bytes of a link, the two of a length, the places of a piece

  link-byte : (i j : ℕ) → i < link_count B → j < 5 → byte B (link_start i + j) ≡ byte C (link_start i + j)
  link-byte i zero lt le =
      let z : link_start i + 0 ≡ link_start i = omega arith in
      rw z (ap (λ (l : Link). l.level) (link-same i lt))
  link-byte i (suc zero) lt le = ap (λ (l : Link). l.here.state) (link-same i lt)
  link-byte i (suc (suc zero)) lt le = ap (λ (l : Link). l.here.marker) (link-same i lt)
  link-byte i (suc (suc (suc zero))) lt le = (below-same i lt).0
  link-byte i (suc (suc (suc (suc zero)))) lt le = (below-same i lt).1
  link-byte i (suc (suc (suc (suc (suc j))))) lt le = absurd (omega arith)

  length-byte : (i j : ℕ) → i < link_count B → j < 2 → byte B (length_start i + j) ≡ byte C (length_start i + j)
  length-byte i zero lt le =
      let n = length-same i lt in
      let z : length_start i + 0 ≡ length_start i = omega arith in
      rw z (omega (arith, get_or-byte B b.small (length_start i), get_or-byte C c.small (length_start i)))
  length-byte i (suc zero) lt le =
      let n = length-same i lt in
      omega (arith, get_or-byte B b.small (length_start i), get_or-byte C c.small (length_start i))
  length-byte i (suc (suc j)) lt le = absurd (omega arith)

  piece_byte : (i j : ℕ) → i < link_count B → j < piece_room → byte B (piece_start i + j) ≡ byte C (piece_start i + j)
  piece_byte i j lt le = go (below_or j (length_at B i))
    where
      go : (j < length_at B i) ⊎ (length_at B i ≤ j) → byte B (piece_start i + j) ≡ byte C (piece_start i + j)
      go (inl k) =
          let n = length-same i lt in
          sym (in-piece B i j k) ∙ ap (λ (w : Word). get_or w j 0) (piece-same i lt) ∙ in-piece C i j (omega arith)
      go (inr k) =
          let n = length-same i lt in
          let m = count-byte in
          b.unused.pieces i lt j k le ∙ sym (c.unused.pieces i (omega arith) j (omega arith) le)

  -- things of `w` bytes from `s` on: where those that are used are the same, and the rest, all is
  part_same : (s w : ℕ) (start : ℕ → ℕ) → 0 < w → ((i : ℕ) → start i ≡ s + w * i)
      → ((i j : ℕ) → i < link_count B → j < w → byte B (start i + j) ≡ byte C (start i + j))
      → (k : ℕ) → s ≤ k → (start (link_count B) ≤ k → byte B k ≡ byte C k) → byte B k ≡ byte C k
  part_same s w start pos at used k le rest = go (below_or ((k - s) / w) (link_count B))
    where
      here : start ((k - s) / w) + (k - s) % w ≡ k
      here = omega (arith, div-add-mod (k - s) w, at ((k - s) / w))

      go : ((k - s) / w < link_count B) ⊎ (link_count B ≤ (k - s) / w) → byte B k ≡ byte C k
      go (inl lt) =
          subst (λ (k : ℕ). byte B k ≡ byte C k) here (used ((k - s) / w) ((k - s) % w) lt (mod-lt (k - s) pos))
      go (inr ge) =
          let m = mul-le-mul_left w ge in
          rest (omega (arith, here, at ((k - s) / w), at (link_count B)))

  pub bytes_same : B ≡ C
  bytes_same =
      ext_get_or 0 B C (b.whole ∙ sym c.whole)
      (λ k lt. go k lt (below_or k 1) (below_or k 2) (below_or k (length_start 0)) (below_or k (piece_start 0)))
    where
      go : (k : ℕ) → k < length B → (k < 1) ⊎ (1 ≤ k) → (k < 2) ⊎ (2 ≤ k) → (k < length_start 0) ⊎ (length_start 0 ≤ k)
          → (k < piece_start 0) ⊎ (piece_start 0 ≤ k) → byte B k ≡ byte C k
      go k lt (inl x) y z u = let e : k ≡ 0 = omega arith in rw e depth-byte
      go k lt (inr w) (inl x) z u = let e : k ≡ 1 = omega arith in rw e count-byte
      go k lt (inr w) (inr x) (inl z) u =
          part_same 2 5 link_start (omega arith) (λ i. refl) link-byte k x
          (λ le. let n = count-byte in b.unused.links k le z ∙ sym (c.unused.links k (omega arith) z))
      go k lt (inr w) (inr x) (inr z) (inl u) =
          part_same (length_start 0) 2 length_start (omega arith) (λ i. refl) length-byte k z
          (λ le. let n = count-byte in b.unused.lengths k le u ∙ sym (c.unused.lengths k (omega arith) u))
      go k lt (inr w) (inr x) (inr z) (inr u) =
          part_same (piece_start 0) piece_room piece_start (omega arith) (λ i. refl) piece_byte k u
          (λ le.
          let n = count-byte in
          let m : k < size = omega (arith, b.whole) in
          b.unused.rest k le m ∙ sym (c.unused.rest k (omega arith) m))
