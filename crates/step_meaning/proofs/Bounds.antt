-- How long pieces and how large the numbers of links get on the way of a step. Assumes nothing.
use mathlib.Core.Path.{◌≡◌, refl, sym, ◌∙◌, ap, subst}
use mathlib.Core.Bool.{false, ◌&&◌}
use mathlib.Core.Logic.{◌⊎◌, inl, inr, ◌↔◌}
use mathlib.Core.Option.{some, none, some-injective}
use mathlib.Core.List.Memᴰ
use mathlib.Core.List.{[], ◌++◌}
use Prim.Native.Nat.{ℕ, ◌+◌, ◌-◌, ◌<◌, ◌≤◌}
use native.Mathlib.Nat.{eq-or-lt_of_le}
use native.Mathlib.Omega.{arith}
use lib.Dec.{eqb}
use lib.ListN.{length, length-append}
use borrow.Author.Tests.{eqb-false}
use Rattle.words.specs.Lists.{◌among◌}
use Rattle.words.specs.Words.{Word, Bytes}
use Rattle.words.proofs.Lists.{bytes-nil, bytes-append}
use Rattle.meaning.specs.Table.{Class, unused, call, return, internal, is, Row, Table, edition1, MarkFits, GoodRow}
use Rattle.meaning.specs.Table.{GoodTable}
use Rattle.meaning.specs.Trails.{Trail, ground, over, height, Pair, Link, on, link_of}
use Rattle.meaning.specs.Answers.{deeper}
use Rattle.session_meaning.specs.Sessions.{Entry, entry, Session, Has, Spells, Ranges, Sound}
use Rattle.session_meaning.proofs.Tests.{as-has}
use Rattle.session_meaning.proofs.Spells.{above-spells, level-link_of, has-top, piece-within, lies-spelled, goes-on}
use Rattle.session_meaning.proofs.Spells.{stood}
use Rattle.session_meaning.proofs.Soundly.{lies-rooted}
use Rattle.session_meaning.proofs.Bytes.{none-some}
use Rattle.session_meaning.proofs.RoundTrip.{piece-short}
use Rattle.step_meaning.specs.Stepping.{moved_to, follow, grow, conflict, keep, lower, kept, shaken, push}
use Rattle.step_meaning.proofs.Feet.{seat-exact}
use Rattle.step_meaning.proofs.Keep.{keep-among}
use Rattle.step_meaning.proofs.Tops.{Rest, Tops, lower-out}
use Rattle.step_meaning.proofs.Follow.{popped}
use Rattle.step_meaning.proofs.Grow.{grow-out, grow-level, grow-tops}
use Rattle.step_meaning.proofs.Shake.{shake-out, shaken-rises, shaken-lies, shaken-exact}
use Rattle.step_meaning.proofs.Settle.{pushed-bounded}

-- what the numbers of a link are at most, and that it has something below it exactly above level 0
pub record Small (l : Link) : Type 0 where
  pub level : l.level ≤ 32
  pub state : l.here.state < 64
  pub marker : l.here.marker ≤ 64
  pub lowest : (l.level ≡ 0) ↔ (l.below ≡ none)
  pub below : (p : Pair) → l.below ≡ some p → (p.state < 64) × (p.marker ≤ 64)

-- where a symbol is not too deep, the depth after it is within the cap
pub deeper-within : (k : Class) (d n : ℕ) → d ≤ n → (is k call && eqb d n) ≡ false → deeper k d ≤ n
deeper-within unused d n le e = le
deeper-within call d n le e = go (eq-or-lt_of_le le)
  where
    go : (d ≡ n) ⊎ (d < n) → deeper call d ≤ n
    go (inl h) = absurd (eqb-false d n e h)
    go (inr h) = omega arith
deeper-within return d n le e = omega arith
deeper-within internal d n le e = le

module _ (T : Table) (S : Session) (a : ℕ) where
  -- what is kept, and what is left of it, was there or follows
  pub kept-cases : (z : Entry) → z among (kept T S a).entries → (z among S.entries) ⊎ (z among grow T S a)
  kept-cases z m = go (Memᴰ.append_cases (lower (deeper (T.class a) S.depth) S.entries) m)
    where
      go : (z among lower (deeper (T.class a) S.depth) S.entries) ⊎ (z among keep [] (grow T S a))
          → (z among S.entries) ⊎ (z among grow T S a)
      go (inl n) = inl (lower-out (deeper (T.class a) S.depth) S.entries n).0
      go (inr n) = inr (keep-among (grow T S a) n)

  pub shaken-cases : (z : Entry) → z among (shaken (kept T S a)).entries → (z among S.entries) ⊎ (z among grow T S a)
  shaken-cases z m = kept-cases z (shake-out _ (kept T S a).entries z m).0

module _ (T : Table) (good : GoodTable edition1 T) (S : Session) (ok : Sound T S) where
  -- a trail that is spelled goes on to a full one: what it spells is no longer than what may wait
  spelled-short : (t : Trail) (v : Word) → height t ≤ S.depth → Spells S t v → length v ≤ 512
  spelled-short t v le s =
      let r = goes-on S (stood S ok.apart) (S.depth - height t) t v (omega arith) s in
      let U = r.1.0 in
      let h = above-spells S t U v r.0 s r.1.1 in
      let w = ok.short U (v ++ r.0) (record { full = r.1.2; spells = h }) in
      omega (arith, length-append v r.0, good.waiting_cap)

  -- the piece on a link, with one that stands on it
  pub pieces-short : (l : Link) (x y : Word) (q m : ℕ) → Has S l x → Has S (on q m l) y → length x + length y ≤ 512
  pieces-short l x y q m h k =
      let p = lies-spelled S ok.lies l x h in
      let t = p.0 in
      let v = p.1 in
      let i = as-has S (entry l x) (link_of t) h p.2 in
      let j = as-has S (entry (on q m l) y) (link_of (over q m t)) k (ap (on q m) p.2) in
      let e = ap (λ (l : Link). l.level) p.2 in
      let le : height (over q m t) ≤ S.depth =
      omega (arith, (lies-rooted S ok.lies (on q m l) y k).0, level-link_of t) in
      omega (
        arith,
        spelled-short (over q m t) (v ++ y) le (v, y, p.3, j, refl),
        length-append v y,
        piece-within S ok.rise t v x p.3 i,
      )

  -- a link that is the top of a trail whose rest is there
  tops-small : {l : Link} → Tops S l → Ranges T l → l.level ≤ T.depth_cap → Small l
  tops-small {l} p r le =
      record {
        level = omega (arith, good.depth_cap.1);
        state = omega (arith, r.state, good.states.1);
        marker = omega (arith, r.marker, good.markers);
        lowest = lowest p.trail p.is;
        below = below p.trail p.rest p.is p.below;
      }
    where
      lowest : (t : Trail) → l ≡ link_of t → (l.level ≡ 0) ↔ (l.below ≡ none)
      lowest (ground q) e = (λ z. ap (λ (l : Link). l.below) e, λ z. ap (λ (l : Link). l.level) e)
      lowest (over q m t) e =
          let d = ap (λ (l : Link). l.level) e in
          (λ z. absurd (omega arith), λ z. absurd (none-some (sym z ∙ ap (λ (l : Link). l.below) e)))

      below : (t : Trail) (v : Word) → l ≡ link_of t → Rest S t v → (p : Pair) → l.below ≡ some p
          → (p.state < 64) × (p.marker ≤ 64)
      below (ground q) v e s p h = absurd (none-some (sym (ap (λ (l : Link). l.below) e) ∙ h))
      below (over q m t) v e s p h =
          let x = has-top S t v s in
          let b = ok.ranges (link_of t) x.0 x.1 in
          let i : (link_of t).here ≡ p = some-injective _ _ (sym (ap (λ (l : Link). l.below) e) ∙ h) in
          subst (λ (p : Pair). (p.state < 64) × (p.marker ≤ 64)) i
          (omega (arith, b.state, good.states.1), omega (arith, b.marker, good.markers))

  -- an entry that follows by a row: its link is in range, its piece is made of what was there and the row's word
  record Came (r : Row) (z : Entry) : Type 0 where
    ranges : Ranges T z.link
    before : Word
    piece : z.piece ≡ before ++ r.word
    short : length before ≤ 512
    bytes : Bytes before

  moved-ranges : (q : ℕ) {k l : Link} → k ≡ moved_to q l → q < T.states → Ranges T l → Ranges T k
  moved-ranges q e h r =
      subst (Ranges T) (sym e) (record { state = h; marker = r.marker; zero = r.zero })

  came : (k : Class) (r : Row) → MarkFits k T.markers r.marker → r.to < T.states → (e z : Entry)
      → e among S.entries → z among follow k S.entries r e → Came r z
  came unused r f to e z m h = elim h [ ]
  came call r f to e z m h =
      let i = Memᴰ.eq_of_singleton h in
      let new : Ranges T (on r.to r.marker e.link) =
      record {
        state = to;
        marker = f.1;
        zero = (λ n. absurd (omega (arith, f.0)), λ n. absurd (omega arith));
      } in
      record {
        ranges = subst (λ (z : Entry). Ranges T z.link) (sym i) new;
        before = [];
        piece = ap (λ (z : Entry). z.piece) i;
        short = omega arith;
        bytes = bytes-nil;
      }
  came return r f to e z m h =
      let p = popped S.entries r e z h in
      let u = p.under in
      let old = ok.ranges u.link u.piece p.listed in
      let above = as-has S e _ m ((seat-exact u.link e.link).1 p.stands) in
      record {
        ranges = moved-ranges r.to (ap (λ (z : Entry). z.link) p.is) to old;
        before = u.piece ++ e.piece;
        piece = ap (λ (z : Entry). z.piece) p.is;
        short =
            omega (
              arith,
              length-append u.piece e.piece,
              pieces-short u.link u.piece e.piece _ _ p.listed above,
            );
        bytes =
            bytes-append u.piece e.piece (ok.bytes u.link u.piece p.listed)
            (ok.bytes e.link e.piece m);
      }
  came internal r f to e z m h =
      let i = Memᴰ.eq_of_singleton h in
      let old = ok.ranges e.link e.piece m in
      record {
        ranges = moved-ranges r.to (ap (λ (z : Entry). z.link) i) to old;
        before = e.piece;
        piece = ap (λ (z : Entry). z.piece) i;
        short = piece-short T good S ok e m;
        bytes = ok.bytes e.link e.piece m;
      }

  module _ (a : ℕ) where
    grow-came : (z : Entry) → z among grow T S a → (r : Row) × GoodRow edition1 T r × Came r z
    grow-came z m =
        let f = grow-out T S a z m in
        let g = good.row f.by f.row in
        let n = subst (λ (b : ℕ). MarkFits (T.class b) T.markers f.by.marker) f.reads g.marker in
        (f.by, g, came (T.class a) f.by n g.to f.from z f.listed f.is)

    -- what follows
    pub grow-ranges : (z : Entry) → z among grow T S a → Ranges T z.link
    grow-ranges z m = (grow-came z m).2.ranges

    pub grow-bytes : (z : Entry) → z among grow T S a → Bytes z.piece
    grow-bytes z m =
        let c = grow-came z m in
        subst Bytes (sym c.2.piece) (bytes-append c.2.before c.0.word c.2.bytes c.1.bytes)

    pub grow-short : (z : Entry) → z among grow T S a → length z.piece ≤ 767
    grow-short z m =
        let c = grow-came z m in
        omega (
          arith,
          ap length c.2.piece,
          length-append c.2.before c.0.word,
          c.2.short,
          c.1.short,
        )

    pub grow-small : deeper (T.class a) S.depth ≤ T.depth_cap → (z : Entry) → z among grow T S a → Small z.link
    grow-small le z m =
        tops-small (grow-tops T S a ok.lies z m) (grow-ranges z m) (omega (arith, grow-level T S a z m))

    -- what is pushed is no longer than an output that moved, which is one that waited with a word
    pub pushed_short : conflict [] (grow T S a) ≡ false → (l : Link) (y : Word)
        → entry l y among push (shaken (kept T S a)).entries → length y ≤ 767
    pushed_short agree l y m =
        let b = pushed-bounded (shaken (kept T S a)) (shaken-rises T S a ok) (shaken-lies T S a ok) l y m in
        let d = (shaken-exact T S a ok agree b.0 b.1).0 b.2 in
        omega (
          arith,
          b.3,
          ap length d.written,
          length-append d.output d.by.word,
          ok.short d.trail d.output d.before,
          good.waiting_cap,
          (good.row d.by d.row).short,
        )
