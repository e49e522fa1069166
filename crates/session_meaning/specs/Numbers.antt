-- Links as numbers, and what the functions inside ask and answer: a reader of the public calls can pass over it.
use Rattle.std.specs.Prelude.{◌≡◌, Bool, cond, ◌⊎◌, List, map, ℕ, ◌+◌, ◌*◌, ◌/◌, ◌<◌, ◌≤◌, eqb, length, get_or, drop}
use Rattle.words.specs.Lists.{up_to}
use Rattle.words.specs.Words.{Word, Bytes}
use Rattle.words.specs.LittleEndian.{byte}
use Rattle.meaning.specs.Table.{Table}
use Rattle.meaning.specs.Trails.{Link}
use Rattle.meaning.specs.Answers.{links_cap}
use Rattle.session_meaning.specs.Sessions.{Ranges, stands_on}
use Rattle.session_meaning.specs.Soundly.{Load, most, loads_of, longest}
use Rattle.session_meaning.specs.Bytes.{link_start, length_start, piece_start, piece_room, size, link_count, length_at}
use Rattle.session_meaning.specs.Bytes.{below_from, link_from, link_at, NoneBelow, session_of, length_bytes, Unused}

-- a head, which a session and the room of a step begin with, is what stands before the pieces: depth, count, links and
-- lengths
abbrev pub head_size : ℕ
head_size = 450

-- how many pairs of two bytes there are, and how many links of five
abbrev pub pairs : ℕ
pairs = 65536

abbrev pub keys : ℕ
keys = 1099511627776

-- what the type of a session says of its bytes
pub record Lent (bytes : List ℕ) : Type 0 where
  pub whole : length bytes ≡ size
  pub small : Bytes bytes

-- a link's level, state and marker as one number, the level counted from 1; and what it stands on, in the same way: a
-- link stands on another where its foot is the other's seat, and a link at level 0 has foot 0
abbrev pub seat_from : List ℕ → ℕ → ℕ
seat_from bytes k =
    let l = link_from bytes k in
    ((l.level + 1) * 256 + l.here.state) * 256 + l.here.marker

abbrev pub foot_from : List ℕ → ℕ → ℕ
foot_from bytes k = ((link_from bytes k).level * 256 + (below_from bytes k).state) * 256 + (below_from bytes k).marker

-- its five bytes as one number, the level first
abbrev pub key_from : List ℕ → ℕ → ℕ
key_from bytes k =
    let l = link_from bytes k in
    let b = below_from bytes k in
    (((l.level * 256 + l.here.state) * 256 + l.here.marker) * 256 + b.state) * 256 + b.marker

abbrev pub seat_at : List ℕ → ℕ → ℕ
seat_at bytes i = seat_from bytes (link_start i)

abbrev pub foot_at : List ℕ → ℕ → ℕ
foot_at bytes i = foot_from bytes (link_start i)

abbrev pub key_at : List ℕ → ℕ → ℕ
key_at bytes i = key_from bytes (link_start i)

-- the first byte of its piece; 256 where that is empty
abbrev pub head_at : List ℕ → ℕ → ℕ
head_at bytes i = cond (eqb (length_at bytes i) 0) 256 (byte bytes (piece_start i))

-- what a link must be, whatever the others are
pub record LinkFits (T : Table) (bytes : List ℕ) (i : ℕ) : Type 0 where
  pub level : (link_at bytes i).level ≤ byte bytes 0
  pub ranges : Ranges T (link_at bytes i)
  pub below : NoneBelow bytes (link_start i)
  pub short : length_at bytes i ≤ piece_room

-- all links are that, and rise
pub record Links (T : Table) (bytes : List ℕ) : Type 0 where
  pub fit : (i : ℕ) → i < link_count bytes → LinkFits T bytes i
  pub rise : (i : ℕ) → i + 1 < link_count bytes → key_at bytes i < key_at bytes (i + 1)

-- the place where a level's links start; and the level of the links with one foot
abbrev pub start_of : List ℕ → ℕ → ℕ
start_of starts l = get_or starts l 0

abbrev pub level_of : ℕ → ℕ
level_of foot = foot / pairs

-- a head whose links stand by level: no level is over 32, and nothing is below level 0
pub record Graded (bytes : List ℕ) : Type 0 where
  pub whole : head_size ≤ length bytes
  pub few : link_count bytes ≤ 64
  pub low : (j : ℕ) → j < link_count bytes → (link_at bytes j).level ≤ 32
  pub bottom : (j : ℕ) → j < link_count bytes → NoneBelow bytes (link_start j)
  pub rise : (i j : ℕ) → i < j → j < link_count bytes → (link_at bytes i).level ≤ (link_at bytes j).level

-- and each stands between the start of its level and that of the next
pub record Levelled (bytes starts : List ℕ) : Type 0 where
  pub graded : Graded bytes
  pub small : Bytes bytes
  pub within : (l : ℕ) → start_of starts l ≤ link_count bytes
  pub after : (j : ℕ) → j < link_count bytes → start_of starts (link_at bytes j).level ≤ j
  pub before : (j : ℕ) → j < link_count bytes → j < start_of starts ((link_at bytes j).level + 1)

-- a link is at level 0, or stands on one that is there
abbrev pub RootedAt : List ℕ → ℕ → Type 0
RootedAt bytes i = (foot_at bytes i ≡ 0) ⊎ ((j : ℕ) × (j < link_count bytes) × (seat_at bytes j ≡ foot_at bytes i))

-- the first byte of a piece is a byte, and that of the pieces before it, where there are any
abbrev pub Agrees : ℕ → ℕ → Type 0
Agrees first head = (head < 256) × (first < 256 → head ≡ first)

-- of the first `n` places the first at which there is a number; `n` where it is at none
pub record FirstAt (at : ℕ → ℕ) (n number r : ℕ) : Type 0 where
  pub within : r ≤ n
  pub before : (k : ℕ) → k < r → at k ≡ number → ⊥
  pub found : r < n → at r ≡ number

-- the pieces on the links with one foot have a common first byte
abbrev pub Common : List ℕ → ℕ → Type 0
Common bytes foot =
    (b : ℕ) × ((j : ℕ) → j < link_count bytes → foot_at bytes j ≡ foot → (head_at bytes j ≡ b) × (b < 256))

-- a link below the depth carries others, whose pieces have none
abbrev pub CarriesAt : List ℕ → ℕ → Type 0
CarriesAt bytes i = ((link_at bytes i).level ≡ byte bytes 0) ⊎ (Common bytes (seat_at bytes i) → ⊥)

-- "every link lies on a full trail", and no pieces on one pair, nor those at level 0, have a common first byte
pub record Grouped (bytes : List ℕ) : Type 0 where
  pub bottom : Common bytes 0 → ⊥
  pub rooted : (i : ℕ) → i < link_count bytes → RootedAt bytes i
  pub carries : (i : ℕ) → i < link_count bytes → CarriesAt bytes i

-- what rests on links that fit: their groups, the longest waiting output, and the places not used
pub record Rests (T : Table) (bytes : List ℕ) : Type 0 where
  pub groups : Grouped bytes
  pub waiting : longest (session_of bytes).entries ≤ T.waiting_cap
  pub unused : Unused bytes

-- what weighing asks of a head: pieces under 1,024 bytes, so that 64 of them have room in 16 bits, and no marker at
-- level 0
pub record Weighable (bytes : List ℕ) : Type 0 where
  pub short : (i : ℕ) → i < link_count bytes → length_at bytes i < 1024
  pub plain : (i : ℕ) → i < link_count bytes → (link_at bytes i).level ≡ 0 → (link_at bytes i).here.marker ≡ 0

-- the links of a head with the lengths of their pieces
abbrev pub weight_at : List ℕ → ℕ → Load
weight_at bytes i = record { link = link_at bytes i; bytes = length_at bytes i }

abbrev pub weights : List ℕ → List Load
weights bytes = map (weight_at bytes) (up_to (link_count bytes))

-- what waits from each link upward, at most, of the links from a place on; and from one link
unfoldable pub loads_from : List ℕ → ℕ → List Load
loads_from bytes i = loads_of (drop i (weights bytes))

unfoldable pub load_at : List ℕ → ℕ → ℕ
load_at bytes i = length_at bytes i + most (stands_on (link_at bytes i)) (loads_from bytes (i + 1))

-- the loads of the links from a place on stand at their places
pub record Weighed (bytes loads : List ℕ) (from : ℕ) : Type 0 where
  pub each : (i : ℕ) → from ≤ i → i < link_count bytes → get_or loads i 0 ≡ load_at bytes i

-- a test for the links with one foot; the most that waits from those at a place or after it
abbrev pub Picks : List ℕ → ℕ → (Link → Bool) → Type 0
Picks bytes foot test = (i : ℕ) → i < link_count bytes → test (link_at bytes i) ≡ eqb (foot_at bytes i) foot

pub record Heaviest (bytes : List ℕ) (foot from most_bytes : ℕ) : Type 0 where
  pub is : (test : Link → Bool) → Picks bytes foot test → most_bytes ≡ most test (loads_from bytes from)

-- where the links, their lengths, a piece and all pieces end
abbrev pub links_end : List ℕ → ℕ
links_end bytes = link_start (link_count bytes)

abbrev pub lengths_end : List ℕ → ℕ
lengths_end bytes = length_start (link_count bytes)

abbrev pub piece_end : List ℕ → ℕ → ℕ
piece_end bytes i = piece_start i + length_at bytes i

abbrev pub pieces_end : List ℕ → ℕ
pieces_end bytes = piece_start (link_count bytes)

-- the bytes from one place up to another hold 0
pub record Clear (bytes : List ℕ) (s e : ℕ) : Type 0 where
  pub zero : (k : ℕ) → s ≤ k → k < e → byte bytes k ≡ 0

-- the places behind the first `n` pieces do
pub record ClearBehind (bytes : List ℕ) (n : ℕ) : Type 0 where
  pub each : (i : ℕ) → i < n → Clear bytes (piece_end bytes i) (piece_start (i + 1))

-- the count and the lengths of the pieces are no greater than there are places for
pub record Measured (bytes : List ℕ) : Type 0 where
  pub count : link_count bytes ≤ links_cap
  pub short : (i : ℕ) → i < link_count bytes → length_at bytes i ≤ piece_room

-- a piece is no longer than there are places for, and behind it stands 0
pub record Tidy (bytes : List ℕ) (i : ℕ) : Type 0 where
  pub short : length_at bytes i ≤ piece_room
  pub behind : Clear bytes (piece_end bytes i) (piece_start (i + 1))

-- a word can be put at the places of a link's piece
pub record CanPut (bytes : List ℕ) (i : ℕ) (word : Word) : Type 0 where
  pub range : i < links_cap
  pub short : length word ≤ piece_room
  pub tidy : Tidy bytes i

-- the places of a link and its piece hold five bytes and a word, with 0 behind it; two sessions hold the same there
pub record Holds (bytes : List ℕ) (i : ℕ) (five : List ℕ) (word : Word) : Type 0 where
  pub link : (j : ℕ) → j < 5 → byte bytes (link_start i + j) ≡ get_or five j 0
  pub long : (j : ℕ) → j < 2 → byte bytes (length_start i + j) ≡ get_or (length_bytes word) j 0
  pub piece : (j : ℕ) → j < piece_room → byte bytes (piece_start i + j) ≡ get_or word j 0

pub record Same (bytes bytes' : List ℕ) (i : ℕ) : Type 0 where
  pub link : (j : ℕ) → j < 5 → byte bytes' (link_start i + j) ≡ byte bytes (link_start i + j)
  pub long : (j : ℕ) → j < 2 → byte bytes' (length_start i + j) ≡ byte bytes (length_start i + j)
  pub piece : (j : ℕ) → j < piece_room → byte bytes' (piece_start i + j) ≡ byte bytes (piece_start i + j)

-- a place is not one of those of a link, its length and its piece
pub record Outside (i k : ℕ) : Type 0 where
  pub link : (k < link_start i) ⊎ (link_start (i + 1) ≤ k)
  pub long : (k < length_start i) ⊎ (length_start (i + 1) ≤ k)
  pub piece : (k < piece_start i) ⊎ (piece_start (i + 1) ≤ k)

-- five bytes and a word were put at the places of a link and its piece, and all other bytes are as they were
pub record Put (bytes : List ℕ) (i : ℕ) (five : List ℕ) (word : Word) (bytes' : List ℕ) : Type 0 where
  pub whole : length bytes' ≡ length bytes
  pub here : Holds bytes' i five word
  pub others : (k : ℕ) → Outside i k → byte bytes' k ≡ byte bytes k
