-- How the drafts become a session: each is put at its place.
use Rattle.std.specs.Prelude.{◌≡◌, List, ℕ, ◌<◌, ◌≤◌, length, get_or}
use Rattle.meaning.specs.Answers.{links_cap}
use Rattle.session_meaning.specs.Sessions.{Entry, Session}
use Rattle.session_meaning.specs.Bytes.{link_start, piece_room, link_count, length_at, NoneBelow, no_entry, link_bytes}
use Rattle.session_meaning.specs.Numbers.{Holds, Same, Put}
use Rattle.step_drafts.specs.Drafts.{work_size, drafts_of, Lies}

-- drafts of which none is longer than a session has places for
pub record Fitting (work : List ℕ) : Type 0 where
  pub whole : length work ≡ work_size
  pub few : link_count work ≤ links_cap
  pub below : (i : ℕ) → i < link_count work → NoneBelow work (link_start i)
  pub lies : (i : ℕ) → i < link_count work → Lies work i
  pub short : (i : ℕ) → i < link_count work → length_at work i ≤ piece_room

-- the session that the drafts become
abbrev pub drafted : ℕ → List ℕ → Session
drafted depth work = record { depth = depth; entries = drafts_of work }

-- an entry of a list, or nothing behind its end, was put at its place
abbrev pub PutFrom : List Entry → List ℕ → ℕ → List ℕ → Type 0
PutFrom E bytes p bytes' = Put bytes p (link_bytes (get_or E p no_entry).link) (get_or E p no_entry).piece bytes'

-- so it was at the first places, and all others are as they were
pub record Written (E : List Entry) (bytes : List ℕ) (p : ℕ) (bytes' : List ℕ) : Type 0 where
  pub whole : length bytes' ≡ length bytes
  pub done : (i : ℕ) → i < p → Holds bytes' i (link_bytes (get_or E i no_entry).link) (get_or E i no_entry).piece
  pub rest : (i : ℕ) → p ≤ i → i < links_cap → Same bytes bytes' i
