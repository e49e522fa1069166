-- Keeping entries: each link once and in order, and a conflict where one link has two pieces. Assumes nothing.
use mathlib.Core.Path.{◌≡◌, refl, sym, ◌∙◌, ap}
use mathlib.Core.Bool.{Bool, true, false, ◌||◌, or_assoc, false≢true}
use mathlib.Core.Logic.{◌⊎◌, inl, inr}
use mathlib.Core.List.Memᴰ
use mathlib.Core.List.{List, [], ◌∷◌, ◌++◌}
use Rattle.words.specs.Lists.{◌among◌, Exact}
use Rattle.words.specs.Words.{Word}
use Rattle.words.specs.Order.{same_word, put}
use Rattle.words.proofs.Lists.{either, neither}
use Rattle.words.proofs.Ordered.{same_in, same_out, rises-one}
use Rattle.words.proofs.Exact.{and-exact, not-exact, any-exact, same-exact}
use Rattle.words.proofs.Arranged.{put-old, put-out, put-key, put-rises}
use Rattle.meaning.specs.Trails.{Link}
use Rattle.meaning.proofs.Stands.{link_key-one}
use Rattle.session_meaning.specs.Sessions.{RisesByLink, Entry, entry}
use Rattle.step_meaning.specs.Stepping.{entry_key, keep, clashes, conflict}

-- two entries have one link and different pieces
pub record Clash (E : List Entry) : Type 0 where
  pub link : Link
  pub one : Word
  pub other : Word
  pub first : entry link one among E
  pub second : entry link other among E
  pub apart : one ≡ other → ⊥

-- a list has the link, with some piece
abbrev pub Linked : List Entry → Link → Type 0
Linked E l = (x : Word) × (entry l x among E)

abbrev pub Differs : Entry → Entry → Type 0
Differs e f = (entry_key e ≡ entry_key f) × (e.piece ≡ f.piece → ⊥)

pub clashes-exact : (e : Entry) (k : List Entry) → Exact ((f : Entry) × (f among k) × Differs e f) (clashes e k)
clashes-exact e k =
    any-exact k (λ f m. and-exact (same-exact (entry_key e) (entry_key f)) (not-exact (same-exact e.piece f.piece)))

-- two ways to one link, of entries in one list
clash : {E : List Entry} (e f : Entry) → e among E → f among E → Differs e f → Clash E
clash e f m n d =
    let l = link_key-one e.link f.link d.0 in
    record {
      link = e.link;
      one = e.piece;
      other = f.piece;
      first = m;
      second = Memᴰ.cast (λ i. entry (l i) f.piece) n;
      apart = d.1;
    }

-- what is there, and what was there before

pub keep_out : (k es : List Entry) {z : Entry} → z among keep k es → (z among k) ⊎ (z among es)
keep_out k [] m = inl m
keep_out k (e ∷ es) {z} m = go (keep_out (put entry_key e k) es m)
  where
    back : (z ≡ e) ⊎ (z among k) → (z among k) ⊎ (z among e ∷ es)
    back (inl h) = inr (Memᴰ.head h)
    back (inr n) = inl n

    go : (z among put entry_key e k) ⊎ (z among es) → (z among k) ⊎ (z among e ∷ es)
    go (inl n) = back (put-out entry_key e z k n)
    go (inr n) = inr (Memᴰ.tail n)

pub keep-among : (es : List Entry) {z : Entry} → z among keep [] es → z among es
keep-among es {z} m = go (keep_out [] es m)
  where
    go : (z among []) ⊎ (z among es) → z among es
    go (inl n) = elim n [ ]
    go (inr n) = n

pub keep-old : (k es : List Entry) {z : Entry} → z among k → z among keep k es
keep-old k [] m = m
keep-old k (e ∷ es) {z} m = keep-old (put entry_key e k) es (put-old entry_key e z k m)

-- each link is there
pub keep-linked : (k es : List Entry) (l : Link) (x : Word) → entry l x among es → Linked (keep k es) l
keep-linked k [] l x x3 = elim x3 [ ]
keep-linked k (e ∷ es) l x (Memᴰ.head h) =
    let z = put-key entry_key e k in
    let d = ap (λ (z : Entry). z.link) h ∙ link_key-one e.link z.0.link z.2 in
    (z.0.piece, keep-old (put entry_key e k) es (Memᴰ.cast (λ i. entry (d i) z.0.piece) z.1))
keep-linked k (e ∷ es) l x (Memᴰ.tail m) = keep-linked (put entry_key e k) es l x m

pub keep-rises : (k es : List Entry) → RisesByLink k → RisesByLink (keep k es)
keep-rises k [] r = r
keep-rises k (e ∷ es) r = keep-rises (put entry_key e k) es (put-rises entry_key e k r)

-- with no conflict all are there
put_in : (e : Entry) (k : List Entry) → clashes e k ≡ false → e among put entry_key e k
put_in e k c = let z = put-key entry_key e k in go z.0 z.1 z.2 (put-out entry_key e z.0 k z.1)
  where
    same-piece : (z : Entry) → z among k → entry_key e ≡ entry_key z → (b : Bool) → same_word e.piece z.piece ≡ b
        → e.piece ≡ z.piece
    same-piece z m h true d = same_out e.piece z.piece d
    same-piece z m h false d =
        let n : e.piece ≡ z.piece → ⊥ = λ p. false≢true (sym d ∙ same_in p) in
        absurd (false≢true (sym c ∙ (clashes-exact e k).0 (z, m, (h, n))))

    go : (z : Entry) → z among put entry_key e k → entry_key e ≡ entry_key z → (z ≡ e) ⊎ (z among k)
        → e among put entry_key e k
    go z m h (inl d) = Memᴰ.cast (sym d) m
    go z m h (inr n) =
        let l = link_key-one e.link z.link h in
        let p = same-piece z n h (same_word e.piece z.piece) refl in
        Memᴰ.cast (λ i. entry (l i) (p i)) m

pub keep-in : (k es : List Entry) {z : Entry} → conflict k es ≡ false → z among es → z among keep k es
keep-in k [] {z = z} c x'' = elim x'' [ ]
keep-in k (e ∷ es) c (Memᴰ.head h) =
    let n = neither (clashes e k) (conflict (put entry_key e k) es) c in
    keep-old (put entry_key e k) es (Memᴰ.cast h (put_in e k n.0))
keep-in k (e ∷ es) c (Memᴰ.tail m) =
    keep-in (put entry_key e k) es (neither (clashes e k) (conflict (put entry_key e k) es) c).1 m

-- a conflict is one of entries that were kept or are to be kept
clashing : (E k es : List Entry) → ((z : Entry) → z among k → z among E) → ((z : Entry) → z among es → z among E)
    → conflict k es ≡ true → Clash E
clashing E k [] f g c = absurd (false≢true c)
clashing E k (e ∷ es) f g c =
    go (either (clashes e k) (conflict (put entry_key e k) es) c)
    (clashing E (put entry_key e k) es (λ z m. new z (put-out entry_key e z k m)) (λ z m. g z (Memᴰ.tail m)))
  where
    new : (z : Entry) → (z ≡ e) ⊎ (z among k) → z among E
    new z (inl h) = Memᴰ.cast h (g e (Memᴰ.head refl))
    new z (inr n) = f z n

    go : (clashes e k ≡ true) ⊎ (conflict (put entry_key e k) es ≡ true)
        → (conflict (put entry_key e k) es ≡ true → Clash E) → Clash E
    go (inl a) ih =
        let r = (clashes-exact e k).1 a in
        clash e r.0 (g e (Memᴰ.head refl)) (f r.0 r.1) r.2
    go (inr b) ih = ih b

-- there is a conflict exactly when two entries have one link and different pieces
pub conflict-exact : (es : List Entry) → Exact (Clash es) (conflict [] es)
conflict-exact es = (λ c. go c (conflict [] es) refl, clashing es [] es (λ z m. elim m [ ]) (λ z m. m))
  where
    go : Clash es → (b : Bool) → conflict [] es ≡ b → b ≡ true
    go c true e = refl
    go c false e =
        let same =
        rises-one entry_key (keep [] es) (keep-rises [] es tt) (entry c.link c.one) (entry c.link c.other)
        (keep-in [] es e c.first) (keep-in [] es e c.second) refl in
        absurd (c.apart (ap (λ (z : Entry). z.piece) same))

-- some after others

pub keep_append : (k es fs : List Entry) → keep k (es ++ fs) ≡ keep (keep k es) fs
keep_append k [] fs = refl
keep_append k (e ∷ es) fs = keep_append (put entry_key e k) es fs

pub conflict-append : (k es fs : List Entry) → conflict k (es ++ fs) ≡ (conflict k es || conflict (keep k es) fs)
conflict-append k [] fs = refl
conflict-append k (e ∷ es) fs =
    let m = put entry_key e k in
    ap (λ (b : Bool). clashes e k || b) (conflict-append m es fs)
    ∙ sym (or_assoc (clashes e k) (conflict m es) (conflict (keep m es) fs))
