-- A link as five bytes by value, and what is left where links and lengths are written. A head is what a session begins
-- with (`session_meaning/specs/Bytes`): depth, count, 64 links of five bytes, 64 lengths of two.
use Rattle.std.specs.Prelude.{◌≡◌, ◌⊎◌, cond, List, [], ◌∷◌, ℕ, ◌+◌, ◌*◌, ◌<◌, ◌≤◌, eqb, length, set, Option, Some, None}
use Rattle.std.proofs.Math.Option.{some, none}
use Rattle.meaning.specs.Trails as trails
use Rattle.session_meaning.specs.Bytes.{link_start, length_start, pair}
use Rattle.session_meaning.specs.Numbers.{head_size, key_at, links_end, lengths_end, Clear, FirstAt}
use Rattle.std.specs.declared.cmp.Ordering.{Ordering}
use Rattle.std.specs.declared.cmp.Ordering.TheVariants.{Less, Equal, Greater}
use Rattle.words.specs.LittleEndian.{byte, with_two}
use Rattle.links.specs.declared.Link.{Link}

-- its bytes, in the order in which they stand; and their number
abbrev pub five_of : Link → List ℕ
five_of l = l.level ∷ l.state ∷ l.marker ∷ l.state_below ∷ l.marker_below ∷ []

abbrev pub key_of : Link → ℕ
key_of l = (((l.level * 256 + l.state) * 256 + l.marker) * 256 + l.state_below) * 256 + l.marker_below

-- the link that they stand for
abbrev pub meant : Link → trails.Link
meant l =
    record {
      level = l.level;
      here = pair l.state l.marker;
      below = cond (eqb l.level 0) none (some (pair l.state_below l.marker_below));
    }

-- the five bytes of a link, from a place on
pub record Read (bytes : List ℕ) (k : ℕ) (l : Link) : Type 0 where
  pub level : l.level ≡ byte bytes k
  pub state : l.state ≡ byte bytes (k + 1)
  pub marker : l.marker ≡ byte bytes (k + 2)
  pub state-below : l.state_below ≡ byte bytes (k + 3)
  pub marker-below : l.marker_below ≡ byte bytes (k + 4)

-- where a number stands to another; and the link at a place to another link
abbrev pub Stands : Ordering → ℕ → ℕ → Type 0
Stands Less a b = a < b
Stands Equal a b = a ≡ b
Stands Greater a b = b < a

pub record Compared (bytes : List ℕ) (i : ℕ) (l : Link) (r : Ordering) : Type 0 where
  pub stands : Stands r (key_at bytes i) (key_of l)

-- a length was written, and nothing else; a link and a length were
abbrev pub with_length : List ℕ → ℕ → ℕ → List ℕ
with_length bytes i n = with_two bytes (length_start i) n

abbrev pub with_link : List ℕ → ℕ → Link → ℕ → List ℕ
with_link bytes i l n =
    let a = set bytes (link_start i) l.level in
    let b = set a (link_start i + 1) l.state in
    let c = set b (link_start i + 2) l.marker in
    let d = set c (link_start i + 3) l.state_below in
    with_length (set d (link_start i + 4) l.marker_below) i n

-- the links and lengths at places from `at` up to `n` stand one place later, and all other bytes are as they were
pub record Gapped (bytes : List ℕ) (n at : ℕ) (bytes' : List ℕ) : Type 0 where
  pub whole : length bytes' ≡ length bytes
  pub link : (k : ℕ) → at ≤ k → k < n → (j : ℕ) → j < 5
      → byte bytes' (link_start (k + 1) + j) ≡ byte bytes (link_start k + j)
  pub long : (k : ℕ) → at ≤ k → k < n → (j : ℕ) → j < 2
      → byte bytes' (length_start (k + 1) + j) ≡ byte bytes (length_start k + j)
  pub others : (k : ℕ) → (k < link_start (at + 1)) ⊎ (link_start (n + 1) ≤ k)
      → (k < length_start (at + 1)) ⊎ (length_start (n + 1) ≤ k) → byte bytes' k ≡ byte bytes k

-- the places of links and of lengths that are not used hold 0
pub record RestClear (bytes : List ℕ) : Type 0 where
  pub links : Clear bytes (links_end bytes) (length_start 0)
  pub lengths : Clear bytes (lengths_end bytes) head_size

-- of the first `n` places the first at which there is a number, if it is at one
abbrev pub FoundAt : (ℕ → ℕ) → ℕ → ℕ → Option ℕ → Type 0
FoundAt at n number (Some r) = FirstAt at n number r × (r < n)
FoundAt at n number None = FirstAt at n number n
