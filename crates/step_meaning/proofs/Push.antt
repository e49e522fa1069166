-- What pushing makes of entries that rise: each gets what those that stand on it have in common. Assumes nothing.
use mathlib.Core.Path.{◌≡◌, refl, sym, ◌∙◌, ap, subst}
use mathlib.Core.Logic.{◌⊎◌, inl, inr}
use mathlib.Core.Bool.{Bool, true, false}
use mathlib.Core.Option.{some}
use mathlib.Core.List.Memᴰ
use mathlib.Core.List.{List, [], ◌∷◌, ◌++◌, map}
use Prim.Native.Nat.{ℕ, suc, ◌≤◌}
use native.Mathlib.Omega.{arith}
use Rattle.words.specs.Lists.{◌among◌, only}
use Rattle.words.specs.Words.{Word, common}
use Rattle.words.proofs.Lists.{map_same, empty-in, empty-out}
use Rattle.words.proofs.Common.{common-among}
use Rattle.words.proofs.Ordered.{rises-map}
use Rattle.meaning.specs.Trails.{Link, pair_key}
use Rattle.session_meaning.specs.Sessions.{RisesByLink, Entry, entry}
use Rattle.session_meaning.specs.Soundly.{pieces_on}
use Rattle.session_meaning.proofs.Tests.{pieces-out}
use Rattle.session_meaning.proofs.Loads.{level-less}
use Rattle.step_meaning.specs.Stepping.{seat, has_foot, base, entry_key, push}
use Rattle.step_meaning.proofs.Feet.{foot-level}

-- an entry that has not the foot adds nothing
pub base-skip : (k : Entry) (K : List Entry) (f : Word) → (has_foot f k.link ≡ true → ⊥) → base (k ∷ K) f ≡ base K f
base-skip k K f = go (has_foot f k.link)
  where
    go : (b : Bool) → (b ≡ true → ⊥) → common (only b k.piece ++ pieces_on (has_foot f) K) ≡ base K f
    go true n = absurd (n refl)
    go false n = refl

pub base-none : (K : List Entry) (f : Word) → ((l : Link) (x : Word) → entry l x among K → has_foot f l ≡ true → ⊥)
    → base K f ≡ []
base-none K f n =
    let Y = pieces_on (has_foot f) K in
    ap common (empty-out Y (empty-in Y (λ x m. let o = pieces-out (has_foot f) K m in n o.0 x o.1 o.2)))

-- what stands on a link is above it, so comes after all that is not
pub base-after : (k : Entry) (K : List Entry) (l : Link) → k.link.level ≤ l.level
    → base (k ∷ K) (seat l) ≡ base K (seat l)
base-after k K l le =
    base-skip k K (seat l)
    (λ h. let e = foot-level (suc l.level) (pair_key (some l.here)) k.link h in omega arith)

-- an entry with what the pieces on its pair have in common
abbrev pub pushed : List Entry → Entry → Entry
pushed K e = entry e.link (e.piece ++ base K (seat e.link))

-- looking only at what comes after is looking at all
pub push-is : (E : List Entry) → RisesByLink E → push E ≡ map (pushed (push E)) E
push-is [] r = refl
push-is (e ∷ E) r =
    let k = pushed (push E) e in
    let again : (f : Entry) → e.link.level ≤ f.link.level → pushed (push E) f ≡ pushed (k ∷ push E) f =
    λ f le. ap (λ (w : Word). entry f.link (f.piece ++ w)) (sym (base-after k (push E) f.link le)) in
    let a = again e (omega arith) in
    let b =
    push-is E r.1 ∙ map_same (pushed (push E)) (pushed (k ∷ push E)) E
    (λ f m. again f (level-less e.link f.link (r.0 f m))) in
    cc

module _ (E : List Entry) (rise : RisesByLink E) where
  pub push-in : (l : Link) (x : Word) → entry l x among E → entry l (x ++ base (push E) (seat l)) among push E
  push-in l x m =
      subst (λ (K : List Entry). pushed (push E) (entry l x) among K) (sym (push-is E rise))
      (Memᴰ.map (pushed (push E)) m)

  pub push-out : (l : Link) (y : Word) → entry l y among push E
      → (x : Word) × (entry l x among E) × (y ≡ x ++ base (push E) (seat l))
  push-out l y m =
      let o = Memᴰ.of_map (pushed (push E)) E (subst (λ (K : List Entry). entry l y among K) (push-is E rise) m) in
      let k = ap (λ (e : Entry). e.link) o.2 in (
        o.0.piece,
        Memᴰ.cast (λ i. entry (sym k i) o.0.piece) o.1,
        ap (λ (e : Entry). e.piece) (sym o.2) ∙ ap (λ (l : Link). o.0.piece ++ base (push E) (seat l)) k,
      )

  pub push-rises : RisesByLink (push E)
  push-rises =
      subst RisesByLink (sym (push-is E rise)) (rises-map entry_key entry_key (pushed (push E)) (λ e f h. h) E rise)

pub push-links : (E : List Entry) → map (λ e. e.link) (push E) ≡ map (λ e. e.link) E
push-links [] = refl
push-links (e ∷ E) = ap (λ (L : List Link). e.link ∷ L) (push-links E)

-- what is in a pushed piece is in a piece
abbrev pub InPiece : ℕ → List Entry → Type 0
InPiece b E = (l : Link) × (x : Word) × (entry l x among E) × (b among x)

pub push-among : (b : ℕ) (E : List Entry) → InPiece b (push E) → InPiece b E
push-among b [] o = elim o.2 [ ]
push-among b (e ∷ E) o = go (Memᴰ.cases_cons o.2) (push-among b E)
  where
    more : InPiece b E → InPiece b (e ∷ E)
    more o = (o.0, o.1, Memᴰ.tail o.2, o.3)

    part : (b among e.piece) ⊎ (b among base (push E) (seat e.link)) → (InPiece b (push E) → InPiece b E)
        → InPiece b (e ∷ E)
    part (inl i) ih = (e.link, e.piece, Memᴰ.head refl, i)
    part (inr i) ih =
        let f = has_foot (seat e.link) in
        let w = common-among (pieces_on f (push E)) i in
        let k = pieces-out f (push E) w.1 in
        more (ih (k.0, w.0, k.1, w.2))

    go : (entry o.0 o.1 ≡ pushed (push E) e) ⊎ (entry o.0 o.1 among push E)
        → (InPiece b (push E) → InPiece b E) → InPiece b (e ∷ E)
    go (inl h) ih = part (Memᴰ.append_cases e.piece (subst (λ (f : Entry). b among f.piece) h o.3)) ih
    go (inr m) ih = more (ih (o.0, o.1, m, o.3))
