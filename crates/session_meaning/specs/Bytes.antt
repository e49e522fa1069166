-- Which byte of a session says what: depth, count, five bytes for each link, two for the length of each piece, and 512
-- places for each piece, one after the other.
use Rattle.std.specs.Prelude.{◌≡◌, cond, List, [], ◌∷◌, map, ℕ, ◌+◌, ◌-◌, ◌*◌, ◌/◌, ◌%◌, ◌<◌, ◌≤◌, eqb, ltb, length, get_or, take, drop}
use Rattle.std.proofs.Math.Option.{Option, some, none}
use Rattle.words.specs.Lists.{up_to}
use Rattle.words.specs.Words.{Word, Bytes}
use Rattle.words.specs.LittleEndian.{byte, two}
use Rattle.meaning.specs.Table.{Table}
use Rattle.meaning.specs.Trails.{Pair, Link}
use Rattle.meaning.specs.Answers.{links_cap}
use Rattle.session_meaning.specs.Sessions.{Entry, entry, Session, Sound}

-- where the five bytes of a link stand: behind depth and count
abbrev pub link_start : ℕ → ℕ
link_start i = 2 + 5 * i

-- where the two bytes of a piece's length stand: behind 64 links
abbrev pub length_start : ℕ → ℕ
length_start i = 322 + 2 * i

-- where a piece stands: behind 64 lengths, 512 places for each
abbrev pub piece_start : ℕ → ℕ
piece_start i = 450 + 512 * i

-- no piece is longer than the highest waiting cap, 512
abbrev pub piece_room : ℕ
piece_room = 512

-- how many bytes a session has: 450 and 64 times 512
abbrev pub size : ℕ
size = 33218

-- how many links there are, byte 1
abbrev pub link_count : List ℕ → ℕ
link_count bytes = byte bytes 1

-- the length of a piece
abbrev pub length_at : List ℕ → ℕ → ℕ
length_at bytes i = two bytes (length_start i)

-- a pair, by its parts
abbrev pub pair : ℕ → ℕ → Pair
pair q m = record { state = q; marker = m }

-- the pair below, of the five bytes of a link from a place on
abbrev pub below_from : List ℕ → ℕ → Pair
below_from bytes k = pair (byte bytes (k + 3)) (byte bytes (k + 4))

-- a link by its five bytes: level, pair, and the pair below, "none at level 0"
abbrev pub link_from : List ℕ → ℕ → Link
link_from bytes k =
    record {
      level = byte bytes k;
      here = pair (byte bytes (k + 1)) (byte bytes (k + 2));
      below = cond (eqb (byte bytes k) 0) none (some (below_from bytes k));
    }

-- the pair below, of a link by its number
abbrev pub below_at : List ℕ → ℕ → Pair
below_at bytes i = below_from bytes (link_start i)

-- a link by its number
abbrev pub link_at : List ℕ → ℕ → Link
link_at bytes i = link_from bytes (link_start i)

-- "none at level 0": the two bytes of the pair below are not used there
abbrev pub NoneBelow : List ℕ → ℕ → Type 0
NoneBelow bytes k = byte bytes k ≡ 0 → (byte bytes (k + 3) ≡ 0) × (byte bytes (k + 4) ≡ 0)

-- a piece by its number: "Pieces are kept in the order of their links"
abbrev pub piece_at : List ℕ → ℕ → Word
piece_at bytes i = take (length_at bytes i) (drop (piece_start i) bytes)

-- a link with its piece, by its number
abbrev pub entry_at : List ℕ → ℕ → Entry
entry_at bytes i = entry (link_at bytes i) (piece_at bytes i)

-- the session that the bytes stand for
abbrev pub session_of : List ℕ → Session
session_of bytes = record { depth = byte bytes 0; entries = map (entry_at bytes) (up_to (link_count bytes)) }

-- "places not used hold 0": of links, of lengths, of pieces behind their lengths, of pieces
pub record Unused (bytes : List ℕ) : Type 0 where
  pub links : (k : ℕ) → link_start (link_count bytes) ≤ k → k < length_start 0 → byte bytes k ≡ 0
  pub lengths : (k : ℕ) → length_start (link_count bytes) ≤ k → k < piece_start 0 → byte bytes k ≡ 0
  pub pieces : (i : ℕ) → i < link_count bytes → (j : ℕ) → length_at bytes i ≤ j → j < piece_room
      → byte bytes (piece_start i + j) ≡ 0
  pub rest : (k : ℕ) → piece_start (link_count bytes) ≤ k → k < size → byte bytes k ≡ 0

-- "Pieces are kept in the order of their links, and places not used hold 0"
pub record Kept (bytes : List ℕ) : Type 0 where
  pub whole : length bytes ≡ size
  pub small : Bytes bytes
  pub count : link_count bytes ≤ links_cap
  pub below : (i : ℕ) → i < link_count bytes → NoneBelow bytes (link_start i)
  pub short : (i : ℕ) → i < link_count bytes → length_at bytes i ≤ piece_room
  pub unused : Unused bytes

-- "which soundness checks too": the bytes are kept so, and their session is sound for a table
pub record SoundBytes (T : Table) (bytes : List ℕ) : Type 0 where
  pub kept : Kept bytes
  pub sound : Sound T (session_of bytes)

-- what stands where no entry is: bytes that are 0
abbrev pub no_entry : Entry
no_entry = entry (record { level = 0; here = pair 0 0; below = none }) []

-- the entry of a session by its number, none past the last
abbrev pub entry_of : Session → ℕ → Entry
entry_of S i = get_or S.entries i no_entry

-- the two bytes of the pair below
abbrev pub below_bytes : Option Pair → List ℕ
below_bytes none = 0 ∷ 0 ∷ []
below_bytes (some p) = p.state ∷ p.marker ∷ []

-- the five bytes of a link
abbrev pub link_bytes : Link → List ℕ
link_bytes l = l.level ∷ l.here.state ∷ l.here.marker ∷ below_bytes l.below

-- the two bytes of a piece's length, little-endian
abbrev pub length_bytes : Word → List ℕ
length_bytes x = length x % 256 ∷ length x / 256 ∷ []

-- of things of `w` bytes that stand one after the other from `s` on, the byte at `k`
abbrev pub cell : ℕ → ℕ → (ℕ → List ℕ) → ℕ → ℕ
cell s w things k = get_or (things ((k - s) / w)) ((k - s) % w) 0

-- the byte of a session at a place: depth, count, links, lengths, pieces
abbrev pub byte_of : Session → ℕ → ℕ
byte_of S k =
    cond (ltb k (link_start 0)) (get_or (S.depth ∷ length S.entries ∷ []) k 0)
    (cond (ltb k (length_start 0)) (cell (link_start 0) 5 (λ i. link_bytes (entry_of S i).link) k)
    (cond (ltb k (piece_start 0)) (cell (length_start 0) 2 (λ i. length_bytes (entry_of S i).piece) k)
    (cell (piece_start 0) piece_room (λ i. (entry_of S i).piece) k)))

-- the bytes of a session: "one session only" for its trails, and one list of bytes for that
unfoldable pub bytes_of : Session → List ℕ
bytes_of S = map (byte_of S) (up_to size)
