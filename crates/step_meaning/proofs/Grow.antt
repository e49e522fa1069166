-- What grows from the entries of a session on a symbol is exactly what follows its trails. Assumes nothing.
use mathlib.Core.Path.{◌≡◌, refl, sym, ◌∙◌, ap}
use mathlib.Core.Bool.{Bool, true, false, cond, ◌&&◌}
use mathlib.Core.Logic.{◌↔◌}
use mathlib.Core.List.{List, [], ◌++◌, append_cancel_left}
use Prim.Native.Nat.{ℕ}
use lib.Dec.{eqb}
use borrow.Author.Tests.{eqb-true, eq-eqb}
use Rattle.words.specs.Lists.{◌among◌, each}
use Rattle.words.specs.Words.{Word}
use Rattle.words.proofs.Lists.{both, split, each_in, each-out, choices-in, choices-out}
use Rattle.meaning.specs.Table.{Row, Table}
use Rattle.meaning.specs.Trails.{Trail, ground, over, carry, Link, link_of}
use Rattle.meaning.specs.Living.{Place, place, fits, can, goes, moved}
use Rattle.meaning.specs.Answers.{deeper}
use Rattle.session_meaning.specs.Sessions.{Entry, entry, Session, Waits, Lies, Sound, trails}
use Rattle.session_meaning.proofs.Spells.{level-link_of, spells_one}
use Rattle.session_meaning.proofs.Listed.{trails-exact}
use Rattle.step_meaning.specs.Stepping.{fits_link, follow, takes, grow}
use Rattle.step_meaning.proofs.Keep.{Clash}
use Rattle.step_meaning.proofs.Tops.{Rest, Tops, atop, Topped, topped-waits, waits-topped, tops-topped}
use Rattle.step_meaning.proofs.Follow.{comes, leads, follow-tops, follow-level}

-- a trail with its output comes of one of a kind, by a row of the symbol
pub record Moved (T : Table) (P : Trail → Word → Type 0) (a : ℕ) (t : Trail) (o : Word) : Type 0 where
  pub trail : Trail
  pub output : Word
  pub before : P trail output
  pub by : Row
  pub row : by among T.rows
  pub reads : by.symbol ≡ a
  pub fitting : fits (T.class a) by trail ≡ true
  pub trailed : t ≡ carry (T.class a) by trail
  pub written : o ≡ output ++ by.word

-- the listed trails of a session, moved, are those that come of its trails
pub moves : (T : Table) (S : Session) (a : ℕ) (t : Trail) (o : Word)
    → (place t o among moved T (trails S) a) ↔ Moved T (Waits S) a t o
moves T S a t o = (to, fro)
  where
    to : place t o among moved T (trails S) a → Moved T (Waits S) a t o
    to m =
        let c = choices-out (can T a) (goes T a) (trails S) T.rows m in
        let r = c.other in
        let p = split (eqb r.symbol a) (fits (T.class a) r c.one.trail) c.passes in
        record {
          trail = c.one.trail;
          output = c.one.output;
          before = (trails-exact S c.one.trail c.one.output).0 c.first;
          by = r;
          row = c.second;
          reads = eqb-true r.symbol a p.0;
          fitting = p.1;
          trailed = ap (λ (p : Place). p.trail) c.is;
          written = ap (λ (p : Place). p.output) c.is;
        }

    fro : Moved T (Waits S) a t o → place t o among moved T (trails S) a
    fro m =
        choices-in (can T a) (goes T a) (trails S) T.rows
        (record {
          one = place m.trail m.output;
          other = m.by;
          first = (trails-exact S m.trail m.output).1 m.before;
          second = m.row;
          passes = both (eq-eqb m.by.symbol a m.reads) m.fitting;
          is = λ i. place (m.trailed i) (m.written i);
        })

-- the session with its top level replaced by what follows
abbrev pub grown : Table → Session → ℕ → Session
grown T S a = atop (deeper (T.class a) S.depth) S.entries (grow T S a)

module _ (T : Table) (S : Session) (a : ℕ) where
  abbrev after : ℕ
  after = deeper (T.class a) S.depth

  abbrev taken : Entry → Row → List Entry
  taken e r = cond (takes T S a e r) (follow (T.class a) S.entries r e) []

  -- what an entry follows, and by which row
  pub record Follows (z : Entry) : Type 0 where
    pub from : Entry
    pub by : Row
    pub listed : from among S.entries
    pub present : from.link.level ≡ S.depth
    pub row : by among T.rows
    pub reads : by.symbol ≡ a
    pub fitting : fits_link (T.class a) by from.link ≡ true
    pub is : z among follow (T.class a) S.entries by from

  grow-in : (z : Entry) → Follows z → z among grow T S a
  grow-in z f =
      let t =
      both (eq-eqb f.from.link.level S.depth f.present)
      (both (eq-eqb f.by.symbol a f.reads) f.fitting) in
      each_in (λ e. each (taken e) T.rows) S.entries f.listed
      (each_in (taken f.from) T.rows f.row (rw t f.is))

  pub grow-out : (z : Entry) → z among grow T S a → Follows z
  grow-out z m =
      let x = each-out (λ e. each (taken e) T.rows) S.entries m in
      let y = each-out (taken x.0) T.rows x.2 in
      go x.0 x.1 y.0 y.1 (takes T S a x.0 y.0) refl y.2
    where
      go : (e : Entry) → e among S.entries → (r : Row) → r among T.rows → (b : Bool) → takes T S a e r ≡ b
          → z among cond b (follow (T.class a) S.entries r e) [] → Follows z
      go e em r rm false t h = elim h [ ]
      go e em r rm true t h =
          let f = fits_link (T.class a) r e.link in
          let p = split (eqb e.link.level S.depth) (eqb r.symbol a && f) t in
          let q = split (eqb r.symbol a) f p.1 in
          record {
            from = e;
            by = r;
            listed = em;
            present = eqb-true e.link.level S.depth p.0;
            row = rm;
            reads = eqb-true r.symbol a q.0;
            fitting = q.1;
            is = h;
          }

  -- what follows is at the new depth, the top of a trail whose rest was there
  pub grow-level : (z : Entry) → z among grow T S a → z.link.level ≡ deeper (T.class a) S.depth
  grow-level z m =
      let f = grow-out z m in
      follow-level (T.class a) S.entries f.by f.from z f.is ∙ ap (deeper (T.class a)) f.present

  pub grow-tops : Lies S → (z : Entry) → z among grow T S a → Tops S z.link
  grow-tops lies z m = let f = grow-out z m in follow-tops S lies (T.class a) f.by f.from z f.listed f.is

  -- the trails of what has grown are those that were, moved
  pub grow-exact : (t : Trail) (w : Word) → Waits (grown T S a) t w ↔ Moved T (Waits S) a t w
  grow-exact t w = (to, fro)
    where
      to : Waits (grown T S a) t w → Moved T (Waits S) a t w
      to h = go (waits-topped S after (grow T S a) grow-level t w h)
        where
          go : Topped S after (grow T S a) t w → Moved T (Waits S) a t w
          go p = on (grow-out (entry (link_of t) p.piece) p.new)
            where
              on : Follows (entry (link_of t) p.piece) → Moved T (Waits S) a t w
              on f =
                  let c =
                  comes (T.class a) S f.by f.from f.listed f.present f.fitting t p.rest p.piece
                  p.full f.is p.below in
                  record {
                    trail = c.trail;
                    output = c.output;
                    before = c.waits;
                    by = f.by;
                    row = f.row;
                    reads = f.reads;
                    fitting = c.fitting;
                    trailed = c.trailed;
                    written = p.joined ∙ c.written;
                  }

      fro : Moved T (Waits S) a t w → Waits (grown T S a) t w
      fro m =
          let l = leads (T.class a) S m.by m.trail m.output m.before m.fitting in
          let s = carry (T.class a) m.by m.trail in
          let new =
          grow-in (entry (link_of s) l.piece)
          (record {
            from = l.from;
            by = m.by;
            listed = l.listed;
            present = l.present;
            row = m.row;
            reads = m.reads;
            fitting = l.fitting;
            is = l.is;
          }) in
          rw m.trailed
          (topped-waits S after (grow T S a) s w
          (record {
            full = sym (level-link_of s) ∙ grow-level (entry (link_of s) l.piece) new;
            rest = l.rest;
            piece = l.piece;
            below = l.below;
            new = new;
            joined = m.written ∙ l.written;
          }))

  -- an entry that has grown is the top of a trail that moved
  pub grow-moved : {l : Link} (x : Word) (p : Tops S l) → entry l x among grow T S a
      → Moved T (Waits S) a p.trail (p.rest ++ x)
  grow-moved x p m =
      let N = grow T S a in
      (grow-exact p.trail (p.rest ++ x)).0
      (topped-waits S after N p.trail (p.rest ++ x) (tops-topped S after N grow-level x p m))

  -- two that moved have one trail and different outputs
  pub record Apart : Type 0 where
    pub trail : Trail
    pub one : Word
    pub other : Word
    pub first : Moved T (Waits S) a trail one
    pub second : Moved T (Waits S) a trail other
    pub apart : one ≡ other → ⊥

  -- two ways to one link share all that is below it, so that trails differ exactly where links do
  pub clash-exact : Sound T S → Clash (grow T S a) ↔ Apart
  clash-exact ok = (to, fro)
    where
      to : Clash (grow T S a) → Apart
      to c =
          let p = grow-tops ok.lies (entry c.link c.one) c.first in
          record {
            trail = p.trail;
            one = p.rest ++ c.one;
            other = p.rest ++ c.other;
            first = grow-moved c.one p c.first;
            second = grow-moved c.other p c.second;
            apart = λ e. c.apart (append_cancel_left p.rest c.one c.other e);
          }

      rest-one : (t : Trail) (v w : Word) → Rest S t v → Rest S t w → v ≡ w
      rest-one (ground q) v w r s = r ∙ sym s
      rest-one (over q m t) v w r s = spells_one S ok.rise t v w r s

      fro : Apart → Clash (grow T S a)
      fro p =
          let h = waits-topped S after (grow T S a) grow-level p.trail p.one ((grow-exact _ _).1 p.first) in
          let k = waits-topped S after (grow T S a) grow-level p.trail p.other ((grow-exact _ _).1 p.second) in
          let e = rest-one p.trail h.rest k.rest h.below k.below in
          record {
            link = link_of p.trail;
            one = h.piece;
            other = k.piece;
            first = h.new;
            second = k.new;
            apart = λ f. p.apart (h.joined ∙ (λ i. e i ++ f i) ∙ sym k.joined);
          }
