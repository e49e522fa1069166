-- The room that a step works in: a head as a session has, two bytes a link for where its piece starts, two for how much
-- it handed down, and 64 slots of 768 places for pieces. Drafts stand in the order of a session's links.
use Rattle.std.specs.Prelude.{◌≡◌, ◌⊎◌, ◌↔◌, Bool, true, false, List, [], ◌∷◌, ◌++◌, map, ℕ, ◌+◌, ◌-◌, ◌*◌, ◌<◌, ◌≤◌, eqb, length, get_or, take, drop}
use Rattle.std.proofs.Math.Option.{Option, some, none}
use Rattle.words.specs.Lists.{◌among◌, up_to}
use Rattle.words.specs.Words.{Word, Bytes, shared, common}
use Rattle.words.specs.Order.{put}
use Rattle.words.specs.LittleEndian.{byte, two}
use Rattle.meaning.specs.Trails.{Pair, Link}
use Rattle.meaning.specs.Answers.{links_cap}
use Rattle.session_meaning.specs.Sessions.{Entry, entry, RisesByLink}
use Rattle.session_meaning.specs.Soundly.{pieces_on, longest}
use Rattle.session_meaning.specs.Bytes.{link_start, link_count, length_at, link_at, NoneBelow, session_of}
use Rattle.session_meaning.specs.Numbers.{seat_at, foot_at, key_at, RootedAt}
use Rattle.step_meaning.specs.Stepping.{seat, foot, lower, shake, base, push, cut, entry_key, clashes}
use Rattle.links.specs.Heads.{five_of, key_of}
use Rattle.links.specs.declared.Link.{Link as Five}
use Rattle.step_drafts.specs.declared.keeping.Keeping.{Keeping}
use Rattle.step_drafts.specs.declared.keeping.Keeping.TheVariants.{Same, Other, New, Full}
use Rattle.step_drafts.specs.declared.settling.Settled.{Settled}

-- where the places of pieces, what was handed down, and the slots start; how many bytes a slot has, and the room
abbrev pub where_start : ℕ → ℕ
where_start i = 450 + 2 * i

abbrev pub handed_start : ℕ → ℕ
handed_start i = 578 + 2 * i

abbrev pub slot_start : ℕ → ℕ
slot_start s = 768 + 768 * s

abbrev pub draft_room : ℕ
draft_room = 768

abbrev pub work_size : ℕ
work_size = 49920

-- where the piece of a draft starts, how much it handed down, and what it is
abbrev pub where_at : List ℕ → ℕ → ℕ
where_at work i = two work (where_start i)

abbrev pub handed_at : List ℕ → ℕ → ℕ
handed_at work i = two work (handed_start i)

abbrev pub piece_in : List ℕ → ℕ → Word
piece_in work i = take (length_at work i) (drop (where_at work i) work)

abbrev pub draft_in : List ℕ → ℕ → Entry
draft_in work i = entry (link_at work i) (piece_in work i)

-- the entries at the places from one up to another; all that are drafted
abbrev pub drafts_in : List ℕ → ℕ → ℕ → List Entry
drafts_in work from to = drop from (map (draft_in work) (up_to to))

abbrev pub drafts_of : List ℕ → List Entry
drafts_of work = map (draft_in work) (up_to (link_count work))

-- no two slots share a place
abbrev pub Away : ℕ → ℕ → Type 0
Away a b = (a + draft_room ≤ b) ⊎ (b + draft_room ≤ a)

-- drafts stand at the places from one up to another, each with a slot of its own: as many of the first as there are
pub record Drafts (work : List ℕ) (from to : ℕ) : Type 0 where
  pub whole : length work ≡ work_size
  pub small : Bytes work
  pub few : to ≤ links_cap
  pub below : (i : ℕ) → from ≤ i → i < to → NoneBelow work (link_start i)
  pub short : (i : ℕ) → from ≤ i → i < to → length_at work i ≤ draft_room
  pub low : (i : ℕ) → from ≤ i → i < to → slot_start 0 ≤ where_at work i
  pub high : (i : ℕ) → from ≤ i → i < to → where_at work i + draft_room ≤ slot_start (to - from)
  pub apart : (i j : ℕ) → from ≤ i → i < j → j < to → Away (where_at work i) (where_at work j)

abbrev pub Drafted : List ℕ → Type 0
Drafted work = Drafts work 0 (link_count work)

-- a piece lies in the room
abbrev pub Lies : List ℕ → ℕ → Type 0
Lies work i = where_at work i + length_at work i ≤ work_size

-- links as numbers, as `key_from`, `seat_from` and `foot_from` have them of bytes
abbrev pub pair_no : Option Pair → ℕ
pair_no none = 0
pair_no (some p) = p.state * 256 + p.marker

abbrev pub link_no : Link → ℕ
link_no l = ((l.level * 256 + l.here.state) * 256 + l.here.marker) * 65536 + pair_no l.below

abbrev pub seat_no : Link → ℕ
seat_no l = ((l.level + 1) * 256 + l.here.state) * 256 + l.here.marker

abbrev pub foot_no : Link → ℕ
foot_no l = l.level * 65536 + pair_no l.below

-- a link whose numbers are bytes, with nothing below exactly at level 0
pub record Plain (l : Link) : Type 0 where
  pub level : l.level < 256
  pub state : l.here.state < 256
  pub marker : l.here.marker < 256
  pub none : (l.level ≡ 0) ↔ (l.below ≡ none)
  pub pair : (p : Pair) → l.below ≡ some p → (p.state < 256) × (p.marker < 256)

-- five bytes of a link, of which the last two are 0 at level 0
pub record Clean (l : Five) : Type 0 where
  pub level : l.level < 256
  pub state : l.state < 256
  pub marker : l.marker < 256
  pub state-below : l.state_below < 256
  pub marker-below : l.marker_below < 256
  pub none : l.level ≡ 0 → (l.state_below ≡ 0) × (l.marker_below ≡ 0)

-- what stood at a place stands at another
pub record Moved (work : List ℕ) (i : ℕ) (work' : List ℕ) (j : ℕ) : Type 0 where
  pub link : (k : ℕ) → k < 5 → byte work' (link_start j + k) ≡ byte work (link_start i + k)
  pub long : length_at work' j ≡ length_at work i
  pub start : where_at work' j ≡ where_at work i

-- what is not said of places is as it was: what was handed down, and the slots
pub record Rest (work work' : List ℕ) : Type 0 where
  pub whole : length work' ≡ length work
  pub small : Bytes work → Bytes work'
  pub slots : (k : ℕ) → handed_start 0 ≤ k → byte work' k ≡ byte work k

-- only one place was written
pub record Wrote (work : List ℕ) (i : ℕ) (work' : List ℕ) : Type 0 where
  pub rest : Rest work work'
  pub others : (k : ℕ) → k < links_cap → (k ≡ i → ⊥) → Moved work k work' k

-- a link, the length of its piece and where that starts were written at a place
pub record Drew (work : List ℕ) (i : ℕ) (l : Five) (n at : ℕ) (work' : List ℕ) : Type 0 where
  pub wrote : Wrote work i work'
  pub five : (j : ℕ) → j < 5 → byte work' (link_start i + j) ≡ get_or (five_of l) j 0
  pub long : length_at work' i ≡ n
  pub start : where_at work' i ≡ at

-- what stood at the places from `at` up to `n` stands `by` places later; what stood before them is as it was
pub record Lifted (work : List ℕ) (at n by : ℕ) (work' : List ℕ) : Type 0 where
  pub rest : Rest work work'
  pub before : (k : ℕ) → k < at → Moved work k work' k
  pub moved : (k : ℕ) → at ≤ k → k < n → Moved work k work' (k + by)

-- what stood at the places from `first` on stands at the first places
pub record Lowered (work : List ℕ) (first n : ℕ) (work' : List ℕ) : Type 0 where
  pub rest : Rest work work'
  pub moved : (k : ℕ) → k < n → Moved work (first + k) work' k

-- the bytes of a word were written from a place on
pub record Written (work : List ℕ) (at : ℕ) (w : Word) (work' : List ℕ) : Type 0 where
  pub whole : length work' ≡ length work
  pub here : (i : ℕ) → i < length w → byte work' (at + i) ≡ byte w i
  pub others : (k : ℕ) → (k < at) ⊎ (at + length w ≤ k) → byte work' k ≡ byte work k

-- the place of a link among the drafts: those before it are below it
pub record DraftPlace (work : List ℕ) (n : ℕ) (l : Five) (at : ℕ) : Type 0 where
  pub within : at ≤ n
  pub below : (i : ℕ) → i < at → key_at work i < key_of l
  pub here : at < n → key_of l ≤ key_at work at

-- what became of an entry: its link is there, with another piece or not; it was put at its place; or no slot is left
pub record There (other : Bool) (work : List ℕ) (e : Entry) (work' : List ℕ) : Type 0 where
  pub clash : clashes e (drafts_of work) ≡ other
  pub is : put entry_key e (drafts_of work) ≡ drafts_of work
  pub same : work' ≡ work

pub record Placed (work : List ℕ) (e : Entry) (work' : List ℕ) : Type 0 where
  pub clash : clashes e (drafts_of work) ≡ false
  pub is : drafts_of work' ≡ put entry_key e (drafts_of work)
  pub drafts : Drafted work'

pub record NoSlot (work : List ℕ) (e : Entry) (work' : List ℕ) : Type 0 where
  pub clash : clashes e (drafts_of work) ≡ false
  pub long : length (put entry_key e (drafts_of work)) ≡ links_cap + 1

abbrev pub Became : Keeping → List ℕ → Entry → List ℕ → Type 0
Became Same = There false
Became Other = There true
Became New = Placed
Became Full = NoSlot

-- that, as a record whose arguments are found
pub record PutIn (work : List ℕ) (e : Entry) (r : Keeping) (work' : List ℕ) : Type 0 where
  pub became : Became r work e work'

-- a draft from a place on has this foot
abbrev pub Footed : List ℕ → ℕ → ℕ → Type 0
Footed work from seat = (i : ℕ) × (from ≤ i) × (i < links_cap) × (foot_at work i ≡ seat)

-- a link of a session is below a depth, and a draft stands on it
abbrev pub Stays : List ℕ → ℕ → ℕ → List ℕ → ℕ → Type 0
Stays session i d work from = ((link_at session i).level < d) × Footed work from (seat_at session i)

-- all links of a list are at one level; the levels of drafts rise, and those of a session's links
abbrev pub AllAt : ℕ → List Entry → Type 0
AllAt d E = (e : Entry) → e among E → e.link.level ≡ d

abbrev pub LevelsRise : List ℕ → ℕ → ℕ → Type 0
LevelsRise bytes from to =
    (j k : ℕ) → from ≤ j → j ≤ k → k < to → (link_at bytes j).level ≤ (link_at bytes k).level

-- an entry was drafted right before the others
pub record OneMore (e : Entry) (work : List ℕ) (from : ℕ) (work' : List ℕ) : Type 0 where
  pub drafts : Drafts work' (from - 1) links_cap
  pub are : drafts_in work' (from - 1) links_cap ≡ e ∷ drafts_in work from links_cap
  pub levels : (k : ℕ) → from ≤ k → k < links_cap → link_at work' k ≡ link_at work k
  pub here : link_at work' (from - 1) ≡ e.link

-- of the lower entries of a session and those over them, what is left once shaken
abbrev pub shaken_over : List ℕ → ℕ → List Entry → List Entry
shaken_over session d E = shake d (lower d (session_of session).entries ++ E)

-- what shaking answers of what is left: it is drafted, or has more than there are slots for
pub record ShakenTo (E : List Entry) (r : Bool) (work : List ℕ) : Type 0 where
  pub drafted : r ≡ true → Drafted work × (drafts_of work ≡ E)
  pub full : r ≡ false → links_cap < length E

-- a test for the drafted links with one foot
abbrev pub PicksFoot : List ℕ → ℕ → (Link → Bool) → Type 0
PicksFoot work foot test = (i : ℕ) → i < link_count work → test (link_at work i) ≡ eqb (foot_at work i) foot

-- what the pieces of the drafts with one foot have in common: so many bytes from a place on, where one of them starts
pub record CommonOn (work : List ℕ) (foot at long : ℕ) : Type 0 where
  pub place : 0 < long → (i : ℕ) × (i < link_count work) × (where_at work i ≡ at) × (foot_at work i ≡ foot)
  pub short : long ≤ draft_room
  pub lies : at + long ≤ work_size
  pub is : (test : Link → Bool) → PicksFoot work foot test
      → common (pieces_on test (drafts_of work)) ≡ take long (drop at work)

-- how many of `long` bytes from a place on a draft's piece begins with, where it has the foot
pub record Narrowed (work : List ℕ) (i foot at long r : ℕ) : Type 0 where
  pub past : (foot_at work i ≡ foot → ⊥) → r ≡ long
  pub met : foot_at work i ≡ foot → r ≡ length (shared (piece_in work i) (take long (drop at work)))

-- every piece has room in a slot
abbrev pub Short : List Entry → Type 0
Short E = (e : Entry) → e among E → length e.piece ≤ draft_room

-- what settling asks of drafts: they rise and are no higher than 32, each above level 0 stands on one, at level 0 there
-- is no marker, and what they grow to has room
pub record Ready (work : List ℕ) : Type 0 where
  pub drafts : Drafted work
  pub rise : RisesByLink (drafts_of work)
  pub low : (i : ℕ) → i < link_count work → (link_at work i).level ≤ 32
  pub rooted : (i : ℕ) → i < link_count work → RootedAt work i
  pub plain : (i : ℕ) → i < link_count work → (link_at work i).level ≡ 0 → (link_at work i).here.marker ≡ 0
  pub short : Short (push (drafts_of work))

-- links, depth and count are as they were
pub record SameLinks (work work' : List ℕ) : Type 0 where
  pub whole : length work' ≡ length work
  pub small : Bytes work → Bytes work'
  pub links : (k : ℕ) → k < 322 → byte work' k ≡ byte work k

-- what the drafts from a place on that stand on draft `i` have in common
abbrev pub above_of : List ℕ → ℕ → Word
above_of work i = base (drafts_in work (i + 1) (link_count work)) (seat (link_at work i))

-- draft `i` got that at its end, and it is kept how much that is
pub record PushedOne (work : List ℕ) (i : ℕ) (work' : List ℕ) : Type 0 where
  pub drafts : Drafted work'
  pub links : SameLinks work work'
  pub piece : piece_in work' i ≡ piece_in work i ++ above_of work i
  pub others : (j : ℕ) → j < link_count work → (j ≡ i → ⊥) → piece_in work' j ≡ piece_in work j
  pub handed : handed_at work' i ≡ length (above_of work i)
  pub kept : (j : ℕ) → j < link_count work → (j ≡ i → ⊥) → handed_at work' j ≡ handed_at work j

-- all drafts were pushed, and it is kept by how much
pub record Pushed (work work' : List ℕ) : Type 0 where
  pub drafts : Drafted work'
  pub links : SameLinks work work'
  pub are : drafts_of work' ≡ push (drafts_of work)
  pub each : (i : ℕ) → i < link_count work → handed_at work' i ≡ length (above_of work' i)

-- by how much draft `i` is cut
abbrev pub beside_of : List ℕ → ℕ → Word
beside_of work i = base (drafts_of work) (foot (link_at work i))

-- what cutting asks: drafts, how much each handed down and how much is sent, and each above level 0 on one
pub record Cutting (work : List ℕ) (out : ℕ) : Type 0 where
  pub drafts : Drafted work
  pub each : (i : ℕ) → i < link_count work → handed_at work i ≡ length (above_of work i)
  pub sent : out ≡ length (base (drafts_of work) (0 ∷ []))
  pub rooted : (i : ℕ) → i < link_count work → RootedAt work i

-- as much as the draft below handed down, or as is sent where there is none
pub record CutBy (work : List ℕ) (sent i r : ℕ) : Type 0 where
  pub is : ((r ≡ sent) × ((j : ℕ) → j < link_count work → seat_at work j ≡ foot_at work i → ⊥))
      ⊎ ((j : ℕ) × (j < link_count work) × (seat_at work j ≡ foot_at work i) × (r ≡ handed_at work j))

-- a draft lost so many bytes in front, and all else is as it was
pub record CutOne (work : List ℕ) (i many : ℕ) (work' : List ℕ) : Type 0 where
  pub links : SameLinks work work'
  pub slots : (k : ℕ) → handed_start 0 ≤ k → byte work' k ≡ byte work k
  pub long : length_at work' i ≡ length_at work i - many
  pub start : where_at work' i ≡ where_at work i + many
  pub others : (j : ℕ) → j < links_cap → (j ≡ i → ⊥)
      → (length_at work' j ≡ length_at work j) × (where_at work' j ≡ where_at work j)

-- of the first drafts those bytes are left out in front; slots and links are as they were
pub record CutTo (work : List ℕ) (n : ℕ) (work' : List ℕ) : Type 0 where
  pub links : SameLinks work work'
  pub slots : (k : ℕ) → handed_start 0 ≤ k → byte work' k ≡ byte work k
  pub done : (i : ℕ) → i < n
      → (length_at work' i ≡ length_at work i - length (beside_of work i))
      × (where_at work' i ≡ where_at work i + length (beside_of work i))
  pub left : (i : ℕ) → n ≤ i → i < link_count work
      → (length_at work' i ≡ length_at work i) × (where_at work' i ≡ where_at work i)

-- what settling leaves and answers: the drafts settled, each in the room; what is sent, as a part of the room; the
-- longest output that then waits
pub record SettledTo (work : List ℕ) (r : Settled) (work' : List ℕ) : Type 0 where
  pub whole : length work' ≡ work_size
  pub small : Bytes work'
  pub count : link_count work' ≡ link_count work
  pub are : drafts_of work' ≡ cut (push (drafts_of work))
  pub below : (i : ℕ) → i < link_count work → NoneBelow work' (link_start i)
  pub lies : (i : ℕ) → i < link_count work → Lies work' i
  pub part : r.at + r.length ≤ work_size
  pub sent : take r.length (drop r.at work') ≡ base (push (drafts_of work)) (0 ∷ [])
  pub longest : r.longest ≡ longest (cut (push (drafts_of work)))
