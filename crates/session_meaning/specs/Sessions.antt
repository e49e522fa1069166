-- Sessions: document 01, "Sessions". A record of depth and links with pieces, what it stands for, when it is sound.
use Rattle.std.specs.Prelude.{◌≡◌, ◌↔◌, Bool, List, [], ◌∷◌, ◌++◌, map, ℕ, zero, suc, ◌<◌, ◌≤◌, length}
use Rattle.words.specs.Lists.{◌among◌, each, only, choices}
use Rattle.words.specs.Words.{Word, Bytes, Begins}
use Rattle.words.specs.Order.{Rises, same_word}
use Rattle.meaning.specs.Table.{Table}
use Rattle.meaning.specs.Trails.{Trail, ground, over, height, Link, on, link_of, links, link_key}
use Rattle.meaning.specs.Living.{Place, place}
use Rattle.meaning.specs.Answers.{links_cap, Moment}

-- "on each link a piece of output"
pub record Entry : Type 0 where
  pub link : Link
  pub piece : Word

-- "A session holds depth, links, and on each link a piece of output"
pub record Session : Type 0 where
  pub depth : ℕ
  pub entries : List Entry

-- a link with its piece, by its parts
abbrev pub entry : Link → Word → Entry
entry l x = record { link = l; piece = x }

-- a session has a link, with this piece
abbrev pub Has : Session → Link → Word → Type 0
Has S l x = entry l x among S.entries

-- "the pieces along a trail join to the output still waiting"
abbrev pub Spells : Session → Trail → Word → Type 0
Spells S (ground q) w = Has S (link_of (ground q)) w
Spells S (over q m t) w = (v : Word) × (x : Word) × Spells S t v × Has S (link_of (over q m t)) x × (w ≡ v ++ x)

-- a full trail, "from level 0 to the depth", with its waiting output
pub record Waits (S : Session) (t : Trail) (w : Word) : Type 0 where
  pub full : height t ≡ S.depth
  pub spells : Spells S t w

-- "common first byte": all words of a kind begin with one byte
abbrev pub AllBegin : (Word → Type 0) → Type 0
AllBegin P = (b : ℕ) × ((w : Word) → P w → Begins (b ∷ []) w)

-- "states and markers are in range, marker 0 exactly at level 0"
pub record Ranges (T : Table) (l : Link) : Type 0 where
  pub state : l.here.state < T.states
  pub marker : l.here.marker ≤ T.markers
  pub zero : (l.here.marker ≡ 0) ↔ (l.level ≡ 0)

-- "every link lies on a full trail from level 0 to the depth"
abbrev pub Lies : Session → Type 0
Lies S = (l : Link) (x : Word) → Has S l x → (t : Trail) × (w : Word) × Waits S t w × (l among links t)

-- "for each pair below the depth, the pieces on the links that stand on it have no common first byte"
abbrev pub Apart : Session → Type 0
Apart S =
    (l : Link) (x : Word) → Has S l x → l.level < S.depth → AllBegin (λ y. (q : ℕ) × (m : ℕ) × Has S (on q m l) y) → ⊥

-- "links rise strictly by level, then state and marker, then state and marker below"
abbrev pub RisesByLink : List Entry → Type 0
RisesByLink E = Rises (λ e. link_key e.link) E

-- "It is sound for a table when: depth is within the cap; there are 1 to 64 links, no two the same; states and markers
-- are in range, marker 0 exactly at level 0; every link lies on a full trail from level 0 to the depth; no trail's
-- waiting output is longer than the cap; and the waiting outputs have no common first byte. Two more rules" are `rise`,
-- which also says that no two links are the same, and `apart`; and pieces are of bytes
pub record Sound (T : Table) (S : Session) : Type 0 where
  pub depth : S.depth ≤ T.depth_cap
  pub count : (1 ≤ length S.entries) × (length S.entries ≤ links_cap)
  pub ranges : (l : Link) (x : Word) → Has S l x → Ranges T l
  pub lies : Lies S
  pub short : (t : Trail) (w : Word) → Waits S t w → length w ≤ T.waiting_cap
  pub bottom : AllBegin (λ w. (t : Trail) × Waits S t w) → ⊥
  pub rise : RisesByLink S.entries
  pub apart : Apart S
  pub bytes : (l : Link) (x : Word) → Has S l x → Bytes x

-- whether a link has nothing below
abbrev pub on_bottom : Link → Bool
on_bottom k = same_word (link_key k) (link_key (link_of (ground k.here.state)))

-- whether a link stands on the pair of another
abbrev pub stands_on : Link → Link → Bool
stands_on l k = same_word (link_key k) (link_key (on k.here.state k.here.marker l))

-- the place of a link at level 0
abbrev pub lowest : Entry → Place
lowest e = place (ground e.link.here.state) e.piece

-- a place one level up, by a link that stands on its top
abbrev pub raised : Place → Entry → Place
raised p e = place (over e.link.here.state e.link.here.marker p.trail) (p.output ++ e.piece)

-- the trails from level 0 to a level with their waiting outputs, listed, from those of the level under it
abbrev pub trails_at : List Entry → ℕ → List Place
trails_at E zero = each (λ e. only (on_bottom e.link) (lowest e)) E
trails_at E (suc i) = choices (λ p e. stands_on (link_of p.trail) e.link) raised (trails_at E i) E

-- "its trails with their waiting outputs", listed
abbrev pub trails : Session → List Place
trails S = trails_at S.entries S.depth

-- what a session stands for: "Step's meaning is fixed for every sound session" by this alone
abbrev pub stands : Session → Moment
stands S = record { depth = S.depth; waiting = trails S }

-- "Beginning gives empty pieces": the entry of a state
abbrev pub starts : ℕ → Entry
starts q = entry (link_of (ground q)) []

-- the entries of states in a list, at depth 0
abbrev pub started : List ℕ → Session
started l = record { depth = 0; entries = map starts l }

-- "Beginning gives empty pieces": an entry for each starting state
abbrev pub beginning : Table → Session
beginning T = started T.starting
