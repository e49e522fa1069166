-- A trail's top link and what it spells below; sessions with new tops over what was. Assumes nothing.
use mathlib.Core.Path.{◌≡◌, refl, sym, ◌∙◌, ap}
use mathlib.Core.Logic.{◌⊎◌, inl, inr}
use mathlib.Core.List.Memᴰ
use mathlib.Core.List.{List, [], ◌++◌}
use Prim.Native.Nat.{ℕ, ◌<◌, ◌≤◌}
use native.Mathlib.Omega.{arith}
use lib.Dec.{ltb}
use borrow.Author.Tests.{ltb-true, lt-ltb}
use Rattle.words.specs.Lists.{◌among◌}
use Rattle.words.specs.Words.{Word}
use Rattle.words.proofs.Lists.{passing-in, passing-out}
use Rattle.meaning.specs.Trails.{Trail, ground, over, height, Link, link_of}
use Rattle.session_meaning.specs.Sessions.{Entry, entry, Session, Has, Spells, Waits}
use Rattle.session_meaning.proofs.Spells.{level-link_of}
use Rattle.step_meaning.specs.Stepping.{lower}

-- what a trail spells below its top, and at its top

abbrev pub Rest : Session → Trail → Word → Type 0
Rest S (ground q) v = v ≡ []
Rest S (over q m t) v = Spells S t v

pub parts : (S : Session) (t : Trail) (w : Word) → Spells S t w
    → (v : Word) × (x : Word) × Rest S t v × Has S (link_of t) x × (w ≡ v ++ x)
parts S (ground q) w s = ([], w, refl, s, refl)
parts S (over q m t) w s = s

pub joins : (S : Session) (t : Trail) (v x : Word) → Rest S t v → Has S (link_of t) x → Spells S t (v ++ x)
joins S (ground q) v x r h = rw r h
joins S (over q m t) v x r h = (v, x, r, h, refl)

-- of two sessions one of which has the low links of the other
pub spells-to : (S S' : Session) (t : Trail) (w : Word)
    → ((l : Link) (x : Word) → l.level ≤ height t → Has S l x → Has S' l x) → Spells S t w → Spells S' t w
spells-to S S' (ground q) w f s = f (link_of (ground q)) w (omega arith) s
spells-to S S' (over q m t) w f s = (
  s.0,
  s.1,
  spells-to S S' t s.0 (λ l x h k. f l x (omega arith) k) s.2,
  f (link_of (over q m t)) s.1 (omega (arith, level-link_of (over q m t))) s.3,
  s.4,
)

pub rest-to : (S S' : Session) (t : Trail) (v : Word)
    → ((l : Link) (x : Word) → l.level < height t → Has S l x → Has S' l x) → Rest S t v → Rest S' t v
rest-to S S' (ground q) v f r = r
rest-to S S' (over q m t) v f r = spells-to S S' t v (λ l x h k. f l x (omega arith) k) r

-- a link is the top of a trail whose rest a session spells
pub record Tops (S : Session) (l : Link) : Type 0 where
  pub trail : Trail
  pub rest : Word
  pub is : l ≡ link_of trail
  pub below : Rest S trail rest

-- below a depth what was, at it what is new

abbrev pub atop : ℕ → List Entry → List Entry → Session
atop d E N = record { depth = d; entries = lower d E ++ N }

pub lower-out : (n : ℕ) (E : List Entry) {e : Entry} → e among lower n E → (e among E) × (e.link.level < n)
lower-out n E {e} m =
    let p = passing-out (λ e. ltb e.link.level n) E m in
    (p.0, ltb-true e.link.level n p.1)

pub lower_in : (n : ℕ) (E : List Entry) {e : Entry} → e among E → e.link.level < n → e among lower n E
lower_in n E {e} m h = passing-in (λ e. ltb e.link.level n) E m (lt-ltb e.link.level n h)

-- a full trail: its top is new, and below it is what was
pub record Topped (S : Session) (d : ℕ) (N : List Entry) (t : Trail) (w : Word) : Type 0 where
  pub full : height t ≡ d
  pub rest : Word
  pub piece : Word
  pub below : Rest S t rest
  pub new : entry (link_of t) piece among N
  pub joined : w ≡ rest ++ piece

-- of two new tops one of which has that of the trail where the other has it
pub topped-to : {S : Session} {d : ℕ} {N M : List Entry} {t : Trail} {w : Word} (p : Topped S d N t w)
    → entry (link_of t) p.piece among M → Topped S d M t w
topped-to p m =
    record { full = p.full; rest = p.rest; piece = p.piece; below = p.below; new = m; joined = p.joined }

module _ (S : Session) (d : ℕ) (N : List Entry) where
  abbrev whole : Session
  whole = atop d S.entries N

  pub lower-has : (l : Link) (x : Word) → l.level < d → Has S l x → Has whole l x
  lower-has l x h m = Memᴰ.append_left N (lower_in d S.entries m h)

  pub topped-waits : (t : Trail) (w : Word) → Topped S d N t w → Waits whole t w
  topped-waits t w p =
      let f : (l : Link) (x : Word) → l.level < height t → Has S l x → Has whole l x =
      λ l x h m. lower-has l x (omega (arith, p.full)) m in
      let r = rest-to S whole t p.rest f p.below in
      let h = Memᴰ.append_right (lower d S.entries) p.new in
      record { full = p.full; spells = rw p.joined (joins whole t p.rest p.piece r h) }

  module _ (level : (z : Entry) → z among N → z.link.level ≡ d) where
    pub atop-cases : (l : Link) (x : Word) → Has whole l x
        → (Has S l x × (l.level < d)) ⊎ ((entry l x among N) × (l.level ≡ d))
    atop-cases l x m = go (Memᴰ.append_cases (lower d S.entries) m)
      where
        go : (entry l x among lower d S.entries) ⊎ (entry l x among N)
            → (Has S l x × (l.level < d)) ⊎ ((entry l x among N) × (l.level ≡ d))
        go (inl n) = inl (lower-out d S.entries n)
        go (inr n) = inr (n, level (entry l x) n)

    low : (l : Link) (x : Word) → l.level < d → Has whole l x → Has S l x
    low l x h m = go (atop-cases l x m)
      where
        go : (Has S l x × (l.level < d)) ⊎ ((entry l x among N) × (l.level ≡ d)) → Has S l x
        go (inl n) = n.0
        go (inr n) = absurd (omega (arith, n.1))

    high : (l : Link) (x : Word) → l.level ≡ d → Has whole l x → entry l x among N
    high l x h m = go (atop-cases l x m)
      where
        go : (Has S l x × (l.level < d)) ⊎ ((entry l x among N) × (l.level ≡ d)) → entry l x among N
        go (inl n) = absurd (omega (arith, n.1))
        go (inr n) = n.0

    pub waits-topped : (t : Trail) (w : Word) → Waits whole t w → Topped S d N t w
    waits-topped t w h =
        let p = parts whole t w h.spells in
        record {
          full = h.full;
          rest = p.0;
          piece = p.1;
          below = rest-to whole S t p.0 (λ l x k m. low l x (omega (arith, h.full)) m) p.2;
          new = high (link_of t) p.1 (level-link_of t ∙ h.full) p.3;
          joined = p.4;
        }

    pub tops-topped : {l : Link} (x : Word) (p : Tops S l) → entry l x among N
        → Topped S d N p.trail (p.rest ++ x)
    tops-topped {l} x p m =
        record {
          full = sym (level-link_of p.trail) ∙ ap (λ (k : Link). k.level) (sym p.is) ∙ level (entry l x) m;
          rest = p.rest;
          piece = x;
          below = p.below;
          new = Memᴰ.cast (λ i. entry (sym p.is i) x) m;
          joined = refl;
        }
