-- A step on lists of entries, in the order of the work: grow, keep, shake, push, cut, and the number by links.
use Rattle.std.specs.Prelude.{Bool, false, cond, ◌&&◌, ◌||◌, not, List, [], ◌∷◌, ◌++◌, map, ℕ, suc, eqb, ltb, length, drop}
use Rattle.std.proofs.Math.Option.{some}
use Rattle.words.specs.Lists.{each, only, any_of, is_empty}
use Rattle.words.specs.Words.{Word, common}
use Rattle.words.specs.Order.{same_word, put}
use Rattle.meaning.specs.Table.{Class, unused, call, return, internal, is, Row, Table}
use Rattle.meaning.specs.Trails.{Link, on, pair_key, link_key}
use Rattle.meaning.specs.Answers.{first, links_cap, deeper}
use Rattle.session_meaning.specs.Sessions.{Entry, entry, Session}
use Rattle.session_meaning.specs.Soundly.{pieces_on, longest}

-- what a link stands on: its level and the pair below it; and what those above it stand on
abbrev pub foot : Link → Word
foot l = l.level ∷ pair_key l.below

abbrev pub seat : Link → Word
seat l = suc l.level ∷ pair_key (some l.here)

abbrev pub has_foot : Word → Link → Bool
has_foot f l = same_word (foot l) f

-- Grow: for each present link and each fitting row, the links that follow with their pieces

-- the link with another present state
abbrev pub moved_to : ℕ → Link → Link
moved_to q l =
    record { level = l.level; here = record { state = q; marker = l.here.marker }; below = l.below }

-- a row of each class can be taken from the pair of a link
abbrev pub fits_link : Class → Row → Link → Bool
fits_link unused r l = false
fits_link call r l = eqb l.here.state r.from
fits_link return r l = eqb l.here.state r.from && eqb l.here.marker r.marker
fits_link internal r l = eqb l.here.state r.from

-- a call: a link one level up that stands on the present pair, with the word; internal: the same level and pair below,
-- the word behind the old piece; a return: for each link under the one popped, a link one level down
abbrev pub follow : Class → List Entry → Row → Entry → List Entry
follow unused E r e = []
follow call E r e = entry (on r.to r.marker e.link) r.word ∷ []
follow return E r e =
    each
    (λ f.
    only (has_foot (seat f.link) e.link) (entry (moved_to r.to f.link) (f.piece ++ e.piece ++ r.word)))
    E
follow internal E r e = entry (moved_to r.to e.link) (e.piece ++ r.word) ∷ []

abbrev pub takes : Table → Session → ℕ → Entry → Row → Bool
takes T S a e r = eqb e.link.level S.depth && (eqb r.symbol a && fits_link (T.class a) r e.link)

abbrev pub grow : Table → Session → ℕ → List Entry
grow T S a =
    each (λ e. each (λ r. cond (takes T S a e r) (follow (T.class a) S.entries r e) []) T.rows) S.entries

-- Keep: each link once, in order; a second way to a link with another piece is a conflict

abbrev pub entry_key : Entry → Word
entry_key e = link_key e.link

abbrev pub keep : List Entry → List Entry → List Entry
keep k [] = k
keep k (e ∷ es) = keep (put entry_key e k) es

abbrev pub clashes : Entry → List Entry → Bool
clashes e k = any_of (λ f. same_word (entry_key e) (entry_key f) && not (same_word e.piece f.piece)) k

abbrev pub conflict : List Entry → List Entry → Bool
conflict k [] = false
conflict k (e ∷ es) = clashes e k || conflict (put entry_key e k) es

-- below the new depth what was, at it what follows
abbrev pub lower : ℕ → List Entry → List Entry
lower n E = each (λ e. only (ltb e.link.level n) e) E

abbrev pub kept : Table → Session → ℕ → Session
kept T S a =
    let d = deeper (T.class a) S.depth in
    record { depth = d; entries = lower d S.entries ++ keep [] (grow T S a) }

-- Shake: from the end to the front, an entry stays if it is at the depth or one that stayed stands on it

abbrev pub carried : ℕ → Link → List Entry → Bool
carried n l k = eqb l.level n || any_of (λ f. has_foot (seat l) f.link) k

abbrev pub shake : ℕ → List Entry → List Entry
shake n [] = []
shake n (e ∷ es) = let k = shake n es in cond (carried n e.link k) (e ∷ k) k

abbrev pub shaken : Session → Session
shaken S = record { depth = S.depth; entries = shake S.depth S.entries }

-- Push: from the end to the front, each piece gets at its end what the pieces that stand on its pair have in common

abbrev pub base : List Entry → Word → Word
base E f = common (pieces_on (has_foot f) E)

abbrev pub push : List Entry → List Entry
push [] = []
push (e ∷ es) = let k = push es in entry e.link (e.piece ++ base k (seat e.link)) ∷ k

-- Cut: each piece loses in front what it and those beside it have in common; at level 0 that is what is sent

abbrev pub cut : List Entry → List Entry
cut K = map (λ e. entry e.link (drop (length (base K (foot e.link))) e.piece)) K

abbrev pub settled : Session → Session
settled S = record { depth = S.depth; entries = cut (push S.entries) }

abbrev pub sending_from : Session → Word
sending_from S = base (push S.entries) (0 ∷ [])

-- All of it

abbrev pub stepped : Table → Session → ℕ → Session
stepped T S a = settled (shaken (kept T S a))

abbrev pub sent : Table → Session → ℕ → Word
sent T S a = sending_from (shaken (kept T S a))

-- "Step: 1 to 10", with the room lent for output: the tests of `step_tests`, by links
abbrev pub link_tests : Table → ℕ → Session → ℕ → List (Bool × ℕ)
link_tests T room S a =
    let k = T.class a in
    (is k unused, 3)
    ∷ (is k return && eqb S.depth 0, 4)
    ∷ (is k call && eqb S.depth T.depth_cap, 5)
    ∷ (is_empty (grow T S a), 6)
    ∷ (ltb links_cap (length (shaken (kept T S a)).entries), 7)
    ∷ (conflict [] (grow T S a), 8)
    ∷ (ltb T.waiting_cap (longest (stepped T S a).entries), 9)
    ∷ (ltb room (length (sent T S a)), 10)
    ∷ []

abbrev pub link_number : Table → ℕ → Session → ℕ → ℕ
link_number T room S a = first (link_tests T room S a)
