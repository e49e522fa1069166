-- What follows an entry by a row, and what follows a trail by it, are the same. Assumes nothing.
use mathlib.Core.Path.{◌≡◌, refl, sym, ◌∙◌, ap}
use mathlib.Core.Bool.{Bool, true, false, ◌&&◌, false≢true}
use mathlib.Core.Option.{some-injective}
use mathlib.Core.List.Memᴰ
use mathlib.Core.List.{List, ◌++◌, append_assoc}
use Prim.Native.Nat.{ℕ}
use native.Mathlib.Omega.{arith}
use lib.Dec.{eqb}
use lib.ListN.{length}
use Rattle.words.specs.Lists.{◌among◌, only}
use Rattle.words.specs.Words.{Word}
use Rattle.words.proofs.Lists.{both, split, each_in, each-out, only-in, only_out, only-some}
use Rattle.meaning.specs.Table.{Class, unused, call, return, internal, Row}
use Rattle.meaning.specs.Trails.{Trail, ground, over, Pair, top, stack_of, height, carry, Link, on, link_of}
use Rattle.meaning.specs.Trails.{with_top}
use Rattle.meaning.specs.Living.{fits}
use Rattle.meaning.specs.Answers.{deeper}
use Rattle.meaning.proofs.Trails.{stack_of-seat, top-seat}
use Rattle.session_meaning.specs.Sessions.{Entry, entry, Session, Waits, Lies}
use Rattle.session_meaning.proofs.Tests.{as-has}
use Rattle.session_meaning.proofs.Spells.{level-link_of, lies-spelled}
use Rattle.step_meaning.specs.Stepping.{seat, has_foot, moved_to, fits_link, follow}
use Rattle.step_meaning.proofs.Feet.{seat-exact, seat-level}
use Rattle.step_meaning.proofs.Tops.{Rest, parts, joins, Tops}

-- a trail with another present state

height-seat : (q : ℕ) (t : Trail) → height (with_top q t) ≡ height t
height-seat q t = ap length (stack_of-seat q t)

link-seat : (q : ℕ) (t : Trail) → link_of (with_top q t) ≡ moved_to q (link_of t)
link-seat q (ground p) = refl
link-seat q (over p m t) = refl

link-top : (t : Trail) → (link_of t).here ≡ top t
link-top (ground q) = refl
link-top (over q m t) = refl

from-top : (r : Row) (t : Trail) → eqb (top t).state r.from ≡ true → eqb (link_of t).here.state r.from ≡ true
from-top r t e = ap (λ (p : Pair). eqb p.state r.from) (link-top t) ∙ e

seat-seat : (q p : ℕ) (t : Trail) → (link_of t).here.state ≡ q → t ≡ with_top q (with_top p t)
seat-seat q p (ground r) e = ap ground e
seat-seat q p (over r m t) e = ap (λ (r : ℕ). over r m t) e

-- the link of a trail that is another with a new state is that other where the trail has the old state
unseat : (q : ℕ) (t : Trail) (l : Link) → link_of t ≡ moved_to q l
    → (l ≡ link_of (with_top l.here.state t)) × (t ≡ with_top q (with_top l.here.state t))
unseat q t l e =
    let p = l.here.state in
    (sym (link-seat p t ∙ ap (moved_to p) e), seat-seat q p t (ap (λ (k : Link). k.here.state) e))

rest-seat : (S : Session) (q : ℕ) (t : Trail) (v : Word) → Rest S t v → Rest S (with_top q t) v
rest-seat S q (ground p) v r = r
rest-seat S q (over p m t) v r = r

-- the trail `t` with the output `o` comes of one that waits, by a row of a class
pub record Comes (k : Class) (S : Session) (r : Row) (t : Trail) (o : Word) : Type 0 where
  pub trail : Trail
  pub output : Word
  pub waits : Waits S trail output
  pub fitting : fits k r trail ≡ true
  pub trailed : t ≡ carry k r trail
  pub written : o ≡ output ++ r.word

-- an entry that follows on a return comes of two, one of which stands on the other
abbrev lands : Row → Entry → Entry → List Entry
lands r e f =
    only (has_foot (seat f.link) e.link) (entry (moved_to r.to f.link) (f.piece ++ e.piece ++ r.word))

pub record Popped (E : List Entry) (r : Row) (e z : Entry) : Type 0 where
  pub under : Entry
  pub listed : under among E
  pub stands : has_foot (seat under.link) e.link ≡ true
  pub is : z ≡ entry (moved_to r.to under.link) (under.piece ++ e.piece ++ r.word)

pub popped : (E : List Entry) (r : Row) (e z : Entry) → z among follow return E r e → Popped E r e z
popped E r e z m =
    let f = each-out (lands r e) E m in
    let o = only_out (has_foot (seat f.0.link) e.link) f.2 in
    record { under = f.0; listed = f.1; stands = o.0; is = o.1 }

-- a link that follows at the top of a trail comes of a trail
pub comes : (k : Class) (S : Session) (r : Row) (e : Entry) → e among S.entries → e.link.level ≡ S.depth
    → fits_link k r e.link ≡ true → (t : Trail) (v x : Word) → height t ≡ deeper k S.depth
    → entry (link_of t) x among follow k S.entries r e → Rest S t v → Comes k S r t (v ++ x)
comes unused S r e m d f t v x n h s = absurd (false≢true f)
comes call S r e m d f (ground q) v x n h s = absurd (omega arith)
comes call S r e m d f (over q p t) v x n h s =
    let i = Memᴰ.eq_of_singleton h in
    let l = ap (λ (z : Entry). z.link) i in
    let b = sym (link-top t) ∙ some-injective _ _ (ap (λ (k : Link). k.below) l) in
    record {
      trail = t;
      output = v;
      waits = record { full = omega arith; spells = s };
      fitting = both (ap (λ (p : Pair). eqb p.state r.from) b ∙ f) refl;
      trailed = λ j. over (l j).here.state (l j).here.marker t;
      written = ap (λ (z : Entry). v ++ z.piece) i;
    }
comes return S r e m d f t v x n h s =
    let p = popped S.entries r e (entry (link_of t) x) h in
    let g = p.under in
    let u = unseat r.to t g.link (ap (λ (z : Entry). z.link) p.is) in
    let q = g.link.here.state in
    let low = with_top q t in
    let high = over e.link.here.state e.link.here.marker low in
    let c = (seat-exact g.link e.link).1 p.stands in
    record {
      trail = high;
      output = v ++ g.piece ++ e.piece;
      waits =
          record {
            full = omega (arith, height-seat q t, seat-level g.link e.link p.stands);
            spells = (
              v ++ g.piece,
              e.piece,
              joins S low v g.piece (rest-seat S q t v s) (as-has S g (link_of low) p.listed u.0),
              as-has S e (link_of high) m (c ∙ ap (on e.link.here.state e.link.here.marker) u.0),
              refl,
            );
          };
      fitting =
          ap (λ (b : Bool). eqb e.link.here.state r.from && b)
          (only-some (eqb e.link.here.marker r.marker) (stack_of low))
          ∙ f;
      trailed = u.1;
      written = ap (λ (z : Entry). v ++ z.piece) p.is ∙ simp append_assoc;
    }
comes internal S r e m d f t v x n h s =
    let i = Memᴰ.eq_of_singleton h in
    let u = unseat r.to t e.link (ap (λ (z : Entry). z.link) i) in
    let q = e.link.here.state in
    let old = with_top q t in
    record {
      trail = old;
      output = v ++ e.piece;
      waits =
          record {
            full = height-seat q t ∙ n;
            spells = joins S old v e.piece (rest-seat S q t v s) (as-has S e (link_of old) m u.0);
          };
      fitting = both (ap (λ (q : ℕ). eqb q r.from) (top-seat q t) ∙ f) refl;
      trailed = u.1;
      written = ap (λ (z : Entry). v ++ z.piece) i ∙ sym (append_assoc v e.piece r.word);
    }

-- the top of the trail `t` follows an entry by a row of a class, and what is below it was there
pub record Leads (k : Class) (S : Session) (r : Row) (t : Trail) (o : Word) : Type 0 where
  pub from : Entry
  pub rest : Word
  pub piece : Word
  pub listed : from among S.entries
  pub present : from.link.level ≡ S.depth
  pub fitting : fits_link k r from.link ≡ true
  pub is : entry (link_of t) piece among follow k S.entries r from
  pub below : Rest S t rest
  pub written : o ≡ rest ++ piece

-- of a trail that fits the row
pub leads : (k : Class) (S : Session) (r : Row) (s : Trail) (o : Word) → Waits S s o → fits k r s ≡ true
    → Leads k S r (carry k r s) (o ++ r.word)
leads unused S r s o w f = absurd (false≢true (split (eqb (top s).state r.from) false f).1)
leads call S r s o w f =
    let p = parts S s o w.spells in
    record {
      from = entry (link_of s) p.1;
      rest = o;
      piece = r.word;
      listed = p.3;
      present = level-link_of s ∙ w.full;
      fitting = from-top r s (split (eqb (top s).state r.from) true f).0;
      is = Memᴰ.head refl;
      below = w.spells;
      written = refl;
    }
leads return S r (ground q) o w f = absurd (false≢true (split (eqb q r.from) false f).1)
leads return S r (over q m s) o w f =
    let y = w.spells in
    let p = parts S s y.0 y.2 in
    let e = entry (on q m (link_of s)) y.1 in
    let new = p.1 ++ y.1 ++ r.word in
    record {
      from = e;
      rest = p.0;
      piece = new;
      listed = y.3;
      present = level-link_of (over q m s) ∙ w.full;
      fitting = ap (λ (b : Bool). eqb q r.from && b) (sym (only-some (eqb m r.marker) (stack_of s))) ∙ f;
      is =
          each_in (lands r e) S.entries p.3
          (Memᴰ.cast (λ i. entry (link-seat r.to s i) new)
          (only-in ((seat-exact (link_of s) (on q m (link_of s))).0 refl)));
      below = rest-seat S r.to s p.0 p.2;
      written = ap (λ (z : Word). z ++ r.word) (y.4 ∙ ap (λ (z : Word). z ++ y.1) p.4) ∙ simp append_assoc;
    }
leads internal S r s o w f =
    let p = parts S s o w.spells in
    record {
      from = entry (link_of s) p.1;
      rest = p.0;
      piece = p.1 ++ r.word;
      listed = p.3;
      present = level-link_of s ∙ w.full;
      fitting = from-top r s (split (eqb (top s).state r.from) true f).0;
      is = Memᴰ.head (λ i. entry (link-seat r.to s i) (p.1 ++ r.word));
      below = rest-seat S r.to s p.0 p.2;
      written = ap (λ (z : Word). z ++ r.word) p.4 ∙ append_assoc p.0 p.1 r.word;
    }

module _ (S : Session) (lies : Lies S) where
  reseated : (q : ℕ) (f : Entry) {l : Link} → f among S.entries → l ≡ moved_to q f.link → Tops S l
  reseated q f m e =
      let p = lies-spelled S lies f.link f.piece m in
      let s = parts S p.0 p.1 p.3 in
      record {
        trail = with_top q p.0;
        rest = s.0;
        is = e ∙ ap (moved_to q) p.2 ∙ sym (link-seat q p.0);
        below = rest-seat S q p.0 s.0 s.2;
      }

  pub follow-tops : (k : Class) (r : Row) (e z : Entry) → e among S.entries → z among follow k S.entries r e
      → Tops S z.link
  follow-tops unused r e z m h = elim h [ ]
  follow-tops call r e z m h =
      let p = lies-spelled S lies e.link e.piece m in
      record {
        trail = over r.to r.marker p.0;
        rest = p.1;
        is = ap (λ (z : Entry). z.link) (Memᴰ.eq_of_singleton h) ∙ ap (on r.to r.marker) p.2;
        below = p.3;
      }
  follow-tops return r e z m h =
      let p = popped S.entries r e z h in
      reseated r.to p.under p.listed (ap (λ (z : Entry). z.link) p.is)
  follow-tops internal r e z m h = reseated r.to e m (ap (λ (z : Entry). z.link) (Memᴰ.eq_of_singleton h))

pub follow-level : (k : Class) (E : List Entry) (r : Row) (e z : Entry) → z among follow k E r e
    → z.link.level ≡ deeper k e.link.level
follow-level unused E r e z h = elim h [ ]
follow-level call E r e z h = ap (λ (z : Entry). z.link.level) (Memᴰ.eq_of_singleton h)
follow-level return E r e z h =
    let p = popped E r e z h in
    let l = ap (λ (z : Entry). z.link.level) p.is in
    omega (arith, seat-level p.under.link e.link p.stands)
follow-level internal E r e z h = ap (λ (z : Entry). z.link.level) (Memᴰ.eq_of_singleton h)
