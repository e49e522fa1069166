-- How growing goes on: what was made so far is kept among the drafts, and whether two were at odds is known.
use Rattle.std.specs.Prelude.{◌≡◌, Bool, cond, List, [], ◌++◌, ℕ, ◌<◌, ◌≤◌, length, Option, Some, None}
use Rattle.meaning.specs.Answers.{links_cap}
use Rattle.words.specs.Lists.{◌among◌, each, only, up_to}
use Rattle.meaning.specs.Table.{Class}
use Rattle.meaning.specs.Trails.{Link}
use Rattle.table.specs.File.{row_count, word_of, row_at, table_of}
use Rattle.table.specs.Good.{first_edition, GoodFile}
use Rattle.session_meaning.specs.Sessions.{Entry, entry}
use Rattle.session_meaning.specs.Bytes.{link_count, link_at, piece_at, entry_at, session_of, Kept}
use Rattle.step_meaning.specs.Stepping.{seat, has_foot, moved_to, fits_link, follow, takes, keep, conflict}
use Rattle.links.specs.Heads.{meant}
use Rattle.links.specs.declared.Link.{Link as Five}
use Rattle.step_drafts.specs.Drafts.{draft_room, drafts_of, Drafted, Plain, Clean}

-- these entries were drafted one after the other, each link once; whether two were at odds
pub record Gathered (made : List Entry) (work : List ℕ) (clash : Bool) : Type 0 where
  pub drafts : Drafted work
  pub are : drafts_of work ≡ keep [] made
  pub odds : clash ≡ conflict [] made

-- what growing answers, of entries made one after the other: all are kept, or there is no slot left
pub record Grown (entries : List Entry) (r : Option Bool) (work : List ℕ) : Type 0 where
  pub made : (clash : Bool) → r ≡ Some clash → Gathered entries work clash
  pub full : r ≡ None → links_cap < length (keep [] entries)

-- some entries were made
abbrev pub SomeGrown : List ℕ → Option Bool → Type 0
SomeGrown work g = (made : List Entry) × Grown made g work

-- these entries were made after whatever was before
abbrev pub Gathers : List Entry → List ℕ → Option Bool → Option Bool → List ℕ → Type 0
Gathers more work g r work' = (made : List Entry) → Grown made g work → Grown (made ++ more) r work'

-- a link by value, which stands for a link
pub record Made (l : Link) (r : Five) : Type 0 where
  pub is : meant r ≡ l
  pub clean : Clean r

-- what the functions ask: a good file and a session's bytes, with its links by level; links that are plain, and pieces
-- that have room
pub record Usable (file session : List ℕ) : Type 0 where
  pub good : GoodFile first_edition file
  pub kept : Kept session
  pub levels : (j k : ℕ) → j ≤ k → k < link_count session → (link_at session j).level ≤ (link_at session k).level

pub record Fitting (E : List Entry) : Type 0 where
  pub each : (z : Entry) → z among E → Plain z.link × (length z.piece ≤ draft_room)

-- the entries that follow link `i` by row `r` of a class; where that row fits; where it also has the symbol, and the
-- link is at the depth
abbrev pub after : List ℕ → List ℕ → Class → ℕ → ℕ → List Entry
after file session k i r = follow k (session_of session).entries (row_at file r) (entry_at session i)

abbrev pub by_class : List ℕ → List ℕ → Class → ℕ → ℕ → List Entry
by_class file session k i r =
    cond (fits_link k (row_at file r) (link_at session i)) (after file session k i r) []

abbrev pub by_row : List ℕ → List ℕ → ℕ → ℕ → ℕ → List Entry
by_row file session a i r =
    let T = table_of file in
    cond (takes T (session_of session) a (entry_at session i) (row_at file r)) (after file session (T.class a) i r) []

-- what a return makes of the link `j`: nothing, where the link that goes stands on another
abbrev pub lowered : List ℕ → List ℕ → ℕ → ℕ → ℕ → Entry
lowered file session i r j =
    entry (moved_to (row_at file r).to (link_at session j)) (piece_at session j ++ piece_at session i ++ word_of file r)

abbrev pub uncovered : List ℕ → List ℕ → ℕ → ℕ → ℕ → List Entry
uncovered file session i r j =
    only (has_foot (seat (link_at session j)) (link_at session i)) (lowered file session i r j)

-- the entries that follow link `i` by all rows
unfoldable pub by_rows : List ℕ → List ℕ → ℕ → ℕ → List Entry
by_rows file session a i = each (by_row file session a i) (up_to (row_count file))
