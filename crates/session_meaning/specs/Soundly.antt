-- Soundness as a test: each rule by looking at links and pieces, never at all trails, of which there can be too many.
use Rattle.std.specs.Prelude.{Bool, true, false, cond, ◌&&◌, ◌||◌, not, List, [], ◌∷◌, map, ℕ, ◌+◌, max, eqb, ltb, leb, length}
use Rattle.words.specs.Lists.{each, only, every, any_of}
use Rattle.words.specs.Words.{Word}
use Rattle.words.specs.Order.{Side, lower, same, upper, side}
use Rattle.meaning.specs.Table.{Table}
use Rattle.meaning.specs.Trails.{Link, link_key}
use Rattle.meaning.specs.Answers.{links_cap}
use Rattle.session_meaning.specs.Sessions.{Entry, Session, on_bottom, stands_on}

-- "states and markers are in range, marker 0 exactly at level 0"
abbrev pub in_ranges : Table → Link → Bool
in_ranges T l =
    let no-marker = eqb l.here.marker 0 in
    let lowest = eqb l.level 0 in
    ltb l.here.state T.states
    && (leb l.here.marker T.markers && (cond no-marker lowest true && cond lowest no-marker true))

-- whether a side says that the first word is below the second
abbrev pub is_lower : Side → Bool
is_lower lower = true
is_lower same = false
is_lower upper = false

-- "links rise strictly": each is below the next
abbrev pub rising : List Entry → Bool
rising [] = true
rising (e ∷ []) = true
rising (e ∷ f ∷ E) = is_lower (side (link_key e.link) (link_key f.link)) && rising (f ∷ E)

-- "lies on a full trail", downward: a link is not above the depth, and has nothing below or stands on one that is there
abbrev pub rooted : Session → Link → Bool
rooted S l = leb l.level S.depth && (on_bottom l || any_of (λ f. stands_on f.link l) S.entries)

-- "the pieces on the links that stand on it": those on the links that pass a test
abbrev pub pieces_on : (Link → Bool) → List Entry → List Word
pieces_on test E = each (λ e. only (test e.link) e.piece) E

-- whether a word begins with a byte
abbrev pub starts_with : ℕ → Word → Bool
starts_with b [] = false
starts_with b (c ∷ w) = eqb b c

-- "common first byte": whether all words of a list have one, as those of an empty list do
abbrev pub all_begin : List Word → Bool
all_begin [] = true
all_begin ([] ∷ l) = false
all_begin ((b ∷ w) ∷ l) = every (starts_with b) l

-- "lies on a full trail", upward, and "no common first byte": a link below the depth carries others, whose pieces share
-- none
abbrev pub carries : Session → Link → Bool
carries S l = eqb l.level S.depth || not (all_begin (pieces_on (stands_on l) S.entries))

-- a link with the most that waits from it upward
pub record Load : Type 0 where
  pub link : Link
  pub bytes : ℕ

-- the most that waits from any link that passes a test
abbrev pub most : (Link → Bool) → List Load → ℕ
most test [] = 0
most test (h ∷ H) = cond (test h.link) (max h.bytes (most test H)) (most test H)

-- for each link the most that waits from it upward: what stands on it comes after it
abbrev pub loads_of : List Load → List Load
loads_of [] = []
loads_of (w ∷ W) =
    let H = loads_of W in
    record { link = w.link; bytes = w.bytes + most (stands_on w.link) H } ∷ H

-- "no trail's waiting output is longer than the cap": the longest, by links and the lengths of their pieces alone
abbrev pub longest_of : List Load → ℕ
longest_of W = most on_bottom (loads_of W)

-- an entry as its link and the length of its piece
abbrev pub weight : Entry → Load
weight e = record { link = e.link; bytes = length e.piece }

-- for each entry the most that waits from it upward: what stands on it comes after it
abbrev pub loads : List Entry → List Load
loads E = loads_of (map weight E)

-- "no trail's waiting output is longer than the cap": the longest
abbrev pub longest : List Entry → ℕ
longest E = longest_of (map weight E)

-- whether all numbers of a piece are bytes
abbrev pub in_bytes : Word → Bool
in_bytes w = every (λ b. ltb b 256) w

-- "It is sound for a table when", rule by rule, as one test: `soundly-exact`
abbrev pub soundly : Table → Session → Bool
soundly T S =
    leb S.depth T.depth_cap
    && (leb 1 (length S.entries)
    && (leb (length S.entries) links_cap
    && (every (λ e. in_ranges T e.link) S.entries
    && (rising S.entries
    && (every (λ e. rooted S e.link) S.entries
    && (every (λ e. carries S e.link) S.entries
    && (not (all_begin (pieces_on on_bottom S.entries))
    && (leb (longest S.entries) T.waiting_cap && every (λ e. in_bytes e.piece) S.entries))))))))
