-- What follows a link by a row, and all links by all rows, in the order that the code finds it in. Assumes nothing.
use mathlib.Core.Path.{◌≡◌, refl, sym, ◌∙◌, ap}
use mathlib.Core.Bool.{Bool, true, false, cond, ◌&&◌}
use mathlib.Core.List.Memᴰ
use mathlib.Core.List.{List, [], ◌∷◌, ◌++◌}
use Prim.Native.Nat.{ℕ, ◌+◌, ◌<◌, ◌≤◌}
use native.Mathlib.Omega.{arith}
use borrow.Author.Tests.{eq-eqb, ne_eqb, eqb-true}
use lib.Dec.{eqb}
use lib.ListN.{length}
use Rattle.words.specs.Lists.{each, only, up_to}
use Rattle.words.proofs.Lists.{each_map, get_or-byte}
use Rattle.words.specs.LittleEndian.{byte}
use Rattle.meaning.specs.Table.{Class, unused, call, return, internal, Row}
use Rattle.meaning.specs.Trails.{Link}
use Rattle.table.specs.File.{row_count, word_of, row_at, table_of}
use Rattle.table.specs.Calls.{RowsFrom}
use Rattle.table.proofs.Symbols.{none_before, rows_behind}
use Rattle.table.proofs.Stands.{rows-of}
use Rattle.session_meaning.specs.Sessions.{Entry, entry}
use Rattle.session_meaning.specs.Bytes.{link_start, link_count, link_at, piece_at, entry_at}
use Rattle.session_meaning.specs.Bytes.{session_of}
use Rattle.session_meaning.specs.Numbers.{seat_at, foot_at}
use Rattle.session_meaning.proofs.Feet.{stands-foot}
use Rattle.step_meaning.specs.Stepping.{seat, has_foot, moved_to, fits_link, follow, takes, grow}
use Rattle.step_drafts.specs.Drafts.{draft_room, Plain}
use Rattle.step_growth.specs.Growing.{Grown, Gathers, Usable, Fitting, after, lowered, uncovered, by_class}
use Rattle.step_growth.specs.Growing.{by_row}
use Rattle.step_growth.specs.Growing.{by_rows}
use Rattle.std.specs.Prelude.{Option}
use Rattle.step_meaning.proofs.Feet.{seat-stands}
use Rattle.step_growth.proofs.Gathering.{Passing, passing-start, passing-skip, each_same, gathers-as}
use Rattle.step_growth.proofs.Gathering.{fitting-one}
use Rattle.step_growth.proofs.Gathering.{fitting-as}

-- the only one of a list is plain, and its piece has room
pub fitting-only : {e : Entry} → Fitting (e ∷ []) → Plain e.link × (length e.piece ≤ draft_room)
fitting-only {e} f = f.each e (Memᴰ.head refl)

module _ {file session : List ℕ} (u : Usable file session) where
  -- a link is uncovered exactly where its seat is the foot of the one that goes
  module _ (i r j : ℕ) where
    uncovers : {b : Bool} → eqb (foot_at session i) (seat_at session j) ≡ b
        → only b (lowered file session i r j) ≡ uncovered file session i r j
    uncovers e =
        let s = seat-stands (link_at session j) (link_at session i) ∙ stands-foot session u.kept.small j i in
        ap (λ (b : Bool). only b (lowered file session i r j)) (sym (s ∙ e))

    pub uncovered-not : (foot_at session i ≡ seat_at session j → ⊥) → [] ≡ uncovered file session i r j
    uncovered-not f = uncovers (ne_eqb (foot_at session i) (seat_at session j) f)

    pub uncovered-is : foot_at session i ≡ seat_at session j
        → lowered file session i r j ∷ [] ≡ uncovered file session i r j
    uncovered-is e = uncovers (eq-eqb (foot_at session i) (seat_at session j) e)

    -- no link as high as the one that goes is
    uncovered-high : (link_at session i).level ≤ (link_at session j).level → uncovered file session i r j ≡ []
    uncovered-high l =
        let small = get_or-byte session u.kept.small in
        sym (uncovered-not (λ e. omega (arith, small (link_start i + 3), small (link_start i + 4))))

-- a return goes through all links
module _ (file session : List ℕ) (i r : ℕ) where
  return-is : each (uncovered file session i r) (up_to (link_count session)) ≡ after file session return i r
  return-is =
      sym
      (each_map
      (λ (f : Entry).
      only (has_foot (seat f.link) (link_at session i))
      (entry (moved_to (row_at file r).to f.link) (f.piece ++ piece_at session i ++ word_of file r)))
      (entry_at session) (up_to (link_count session)))

  pub return-fitting : (j : ℕ) → j < link_count session → Fitting (after file session return i r)
      → Fitting (uncovered file session i r j)
  return-fitting j l f = fitting-one (uncovered file session i r) j l (fitting-as f (sym return-is))

  pub return-end : {n : ℕ} {work work' : List ℕ} {g g' : Option Bool}
      → Passing (uncovered file session i r) work g n work' g' → n ≡ link_count session
      → Gathers (after file session return i r) work g g' work'
  return-end p e = gathers-as (rw e at p.made) return-is

  -- from a link on that is as high, nothing more is uncovered
  pub return-stop : Usable file session → {n : ℕ} {work work' : List ℕ} {g g' : Option Bool}
      → Passing (uncovered file session i r) work g n work' g' → n < link_count session
      → (link_at session i).level ≤ (link_at session n).level
      → Gathers (after file session return i r) work g g' work'
  return-stop u {n} p lt l =
      let high : (k : ℕ) → n ≤ k → k < link_count session → uncovered file session i r k ≡ [] =
      λ k le m. uncovered-high u i r k (omega (arith, u.levels n k le m)) in
      return-end (passing-skip p (link_count session) (omega arith) high) refl

-- whether a row fits: never where it is from another state, and else as its class says
pub fits_not : (k : Class) (r : Row) (l : Link) → (l.here.state ≡ r.from → ⊥) → false ≡ fits_link k r l
fits_not unused r l f = refl
fits_not call r l f = sym (ne_eqb l.here.state r.from f)
fits_not return r l f = rw (ne_eqb l.here.state r.from f)
fits_not internal r l f = sym (ne_eqb l.here.state r.from f)

nothing : {A : Type 0} (b : Bool) (l : List A) → cond (b && false) l [] ≡ []
nothing true l = refl
nothing false l = refl

module _ (file session : List ℕ) (a i : ℕ) where
  -- what follows by a row where the link is at the depth and the row has the symbol; nothing where that is not so, or
  -- the row is from another state
  pub by-class : (r : ℕ) {k : Class} → k ≡ (table_of file).class a → (link_at session i).level ≡ byte session 0
      → (row_at file r).symbol ≡ a → by_class file session k i r ≡ by_row file session a i r
  by-class r e l s =
      rw (e, eq-eqb (link_at session i).level (byte session 0) l, eq-eqb (row_at file r).symbol a s)

  by-lower : (r : ℕ) → ((link_at session i).level ≡ byte session 0 → ⊥) → by_row file session a i r ≡ []
  by-lower r f = rw (ne_eqb (link_at session i).level (byte session 0) f)

  not_taken : (r : ℕ) → ((row_at file r).symbol ≡ a → (row_at file r).from ≡ (link_at session i).here.state → ⊥)
      → (eqb (row_at file r).symbol a && fits_link ((table_of file).class a) (row_at file r) (link_at session i)) ≡ false
  not_taken r f = go (eqb (row_at file r).symbol a) refl
    where
      fits : Bool
      fits = fits_link ((table_of file).class a) (row_at file r) (link_at session i)

      go : (b : Bool) → eqb (row_at file r).symbol a ≡ b → (b && fits) ≡ false
      go true e =
          sym
          (fits_not ((table_of file).class a) (row_at file r) (link_at session i)
          (λ h. f (eqb-true (row_at file r).symbol a e) (sym h)))
      go false e = refl

  by-other : (r : ℕ) → ((row_at file r).symbol ≡ a → (row_at file r).from ≡ (link_at session i).here.state → ⊥)
      → by_row file session a i r ≡ []
  by-other r f =
      let rest = after file session ((table_of file).class a) i r in
      let high = eqb (link_at session i).level (byte session 0) in
      ap (λ (b : Bool). cond (high && b) rest []) (not_taken r f) ∙ nothing high rest

  -- the rows one after the other: those before and behind the ones of the symbol from the link's state give nothing
  pub rows_none : ((link_at session i).level ≡ byte session 0 → ⊥) → [] ≡ by_rows file session a i
  unfolding by_rows
  rows_none f = each_same (by_row file session a i) 0 (row_count file) (omega arith) (λ k l m. by-lower k f)

  pub rows-fitting : (r : ℕ) → r < row_count file → Fitting (by_rows file session a i)
      → Fitting (by_row file session a i r)
  unfolding by_rows
  rows-fitting r l f = fitting-one (by_row file session a i) r l f

  module _ {start end : ℕ} (rows : RowsFrom file a (link_at session i).here.state start end) where
    pub rows-start : {work : List ℕ} {g : Option Bool} → Passing (by_row file session a i) work g start work g
    rows-start = passing-skip passing-start start (omega arith) (λ k l m. by-other k (none_before rows.starts k m))

    pub rows-end : {work work' : List ℕ} {g g' : Option Bool}
        → Passing (by_row file session a i) work g end work' g' → Gathers (by_rows file session a i) work g g' work'
    unfolding by_rows
    rows-end p =
        (passing-skip p (row_count file) rows.ends.within (λ k l m. by-other k (rows_behind rows k l m))).made

-- growing goes through all links, and through all rows for each
module _ (file session : List ℕ) (a : ℕ) where
  abbrev taken : Entry → Row → List Entry
  taken e r =
      let T = table_of file in
      cond (takes T (session_of session) a e r) (follow (T.class a) (session_of session).entries r e) []

  each_row : (i : ℕ) → each (taken (entry_at session i)) (table_of file).rows ≡ by_rows file session a i
  unfolding by_rows
  each_row i =
      ap (each (taken (entry_at session i))) (rows-of file)
      ∙ each_map (taken (entry_at session i)) (row_at file) (up_to (row_count file))

  grow-is : each (by_rows file session a) (up_to (link_count session)) ≡ grow (table_of file) (session_of session) a
  grow-is =
      sym
      (each_map (λ (e : Entry). each (taken e) (table_of file).rows) (entry_at session) (up_to (link_count session))
      ∙ (λ j. each (λ i. each_row i j) (up_to (link_count session))))

  pub grow-fitting : (i : ℕ) → i < link_count session → Fitting (grow (table_of file) (session_of session) a)
      → Fitting (by_rows file session a i)
  grow-fitting i l f = fitting-one (by_rows file session a) i l (fitting-as f (sym grow-is))

  pub grow-end : {n : ℕ} {work work' : List ℕ} {g g' : Option Bool}
      → Passing (by_rows file session a) work g n work' g' → n ≡ link_count session → Grown [] g work
      → Grown (grow (table_of file) (session_of session) a) g' work'
  grow-end p e h = rw (← grow-is, ← e) (p.made [] h)
