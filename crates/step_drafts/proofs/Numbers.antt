-- Links as numbers: one number for one link, which rises as links do, and feet and seats that compare as links' do. The
-- numbers that bytes have are those of the link that stands there. Assumes nothing.
use mathlib.Core.Path.{◌≡◌, refl, sym, ◌∙◌, ap}
use mathlib.Core.Logic.{◌⊎◌, ◌↔◌, inl, inr}
use mathlib.Core.Option.{Option, some, none, some-injective}
use mathlib.Core.List.{List, [], ◌∷◌}
use Prim.Native.Nat.{ℕ, suc, ◌+◌, ◌*◌, ◌<◌}
use native.Mathlib.Nat.{eq-zero-or-pos}
use native.Mathlib.Omega.{arith}
use lib.ListN.{get_or}
use borrow.Author.Tests.{eq-eqb, ne_eqb}
use Rattle.words.specs.Lists.{Exact}
use Rattle.words.specs.Words.{Word, Bytes}
use Rattle.words.specs.Order.{Less}
use Rattle.words.proofs.Lists.{get_or-byte}
use Rattle.words.proofs.Ordered.{first_below}
use Rattle.words.proofs.Exact.{exact-as}
use Rattle.words.specs.LittleEndian.{byte}
use Rattle.meaning.specs.Trails.{Pair, Link, pair_key, link_key}
use Rattle.session_meaning.specs.Bytes.{pair, below_from, link_from, NoneBelow}
use Rattle.session_meaning.specs.Numbers.{seat_from, foot_from, key_from}
use Rattle.session_meaning.proofs.Bytes.{none-some}
use Rattle.step_meaning.specs.Stepping.{foot, seat, has_foot}
use Rattle.step_drafts.specs.Drafts.{pair_no, link_no, seat_no, foot_no, Plain}
use Rattle.step_meaning.proofs.Feet.{foot-exact}

-- what is below a plain link, with its number: nothing at level 0, else a pair of bytes
pub data Below (l : Link) : Type 0 where
  nothing : l.level ≡ 0 → l.below ≡ none → pair_no l.below ≡ 0 → Below l
  something : (p : Pair) → 0 < l.level → l.below ≡ some p → pair_no l.below ≡ p.state * 256 + p.marker
      → p.state < 256 → p.marker < 256 → Below l

pub below_of : (l : Link) → Plain l → Below l
below_of l plain = go l.below refl
  where
    positive : (l.level ≡ 0) ⊎ (0 < l.level) → (l.level ≡ 0 → ⊥) → 0 < l.level
    positive (inl z) f = absurd (f z)
    positive (inr h) f = h

    go : (o : Option Pair) → l.below ≡ o → Below l
    go none e = nothing (plain.none.1 e) e (ap pair_no e)
    go (some p) e =
        let b = plain.pair p e in
        something p (positive (eq-zero-or-pos l.level) (λ z. none-some (sym (plain.none.0 z) ∙ e))) e (ap pair_no e)
        b.0 b.1

pub below-small : {l : Link} → Below l → pair_no l.below < 65536
below-small (nothing z e n) = omega arith
below-small (something p h e n s m) = omega arith

module _ (k l : Link) (a : Plain k) (b : Plain l) where
  -- at one level, what is below is the same where its number is, and rises as that does
  below_one : k.level ≡ l.level → pair_no k.below ≡ pair_no l.below → k.below ≡ l.below
  below_one e f = go (below_of k a) (below_of l b)
    where
      go : Below k → Below l → k.below ≡ l.below
      go (nothing z n x) (nothing w m y) = n ∙ sym m
      go (nothing z n x) (something q h m y s t) = absurd (omega arith)
      go (something p g n x s t) (nothing w m y) = absurd (omega arith)
      go (something p g n x s t) (something q h m y u v) =
          let d : p.state ≡ q.state = omega arith in
          let r : p.marker ≡ q.marker = omega arith in
          n ∙ (λ i. some (pair (d i) (r i))) ∙ sym m

  below_less : k.level ≡ l.level
      → Less (pair_key k.below) (pair_key l.below) ↔ (pair_no k.below < pair_no l.below)
  below_less e = go (below_of k a) (below_of l b)
    where
      go : Below k → Below l → Less (pair_key k.below) (pair_key l.below) ↔ (pair_no k.below < pair_no l.below)
      go (nothing z n x) (nothing w m y) = rw (n, m) (λ h. absurd h, λ h. absurd (omega arith))
      go (nothing z n x) (something q h m y s t) = absurd (omega arith)
      go (something p g n x s t) (nothing w m y) = absurd (omega arith)
      go (something p g n x s t) (something q h m y u v) = rw (n, m) (to, fro)
        where
          to : Less (p.state ∷ p.marker ∷ []) (q.state ∷ q.marker ∷ [])
              → p.state * 256 + p.marker < q.state * 256 + q.marker
          to (inl h) = omega arith
          to (inr (e, inl h)) = omega arith
          to (inr (e, inr (f, h))) = absurd h

          fro : p.state * 256 + p.marker < q.state * 256 + q.marker
              → Less (p.state ∷ p.marker ∷ []) (q.state ∷ q.marker ∷ [])
          fro h =
              first_below p.state q.state (omega arith)
              (λ (e : p.state ≡ q.state).
              first_below p.marker q.marker (omega arith) (λ (f : p.marker ≡ q.marker). absurd (omega arith)))

  abbrev Small : Type 0
  Small =
      (k.here.state < 256)
      × (k.here.marker < 256)
      × (pair_no k.below < 65536)
      × (l.here.state < 256)
      × (l.here.marker < 256)
      × (pair_no l.below < 65536)

  small : Small
  small = (
    a.state,
    a.marker,
    below-small (below_of k a),
    b.state,
    b.marker,
    below-small (below_of l b),
  )

  -- one number for one link, which rises as links do
  pub number-one : link_no k ≡ link_no l → k ≡ l
  number-one e =
      let s = small in
      let x : k.level ≡ l.level = omega arith in
      let y : k.here.state ≡ l.here.state = omega arith in
      let z : k.here.marker ≡ l.here.marker = omega arith in
      let w = below_one x (omega arith) in
      λ i. record { level = x i; here = pair (y i) (z i); below = w i }

  pub number-rises : Less (link_key k) (link_key l) ↔ (link_no k < link_no l)
  number-rises = (to, fro)
    where
      to : Less (link_key k) (link_key l) → link_no k < link_no l
      to (inl h) = let s = small in omega arith
      to (inr (e, inl h)) = let s = small in omega arith
      to (inr (e, inr (f, inl h))) = let s = small in omega arith
      to (inr (e, inr (f, inr (g, h)))) = omega (arith, (below_less e).0 h)

      fro : link_no k < link_no l → Less (link_key k) (link_key l)
      fro h =
          let s = small in
          first_below k.level l.level (omega arith)
          (λ (e : k.level ≡ l.level).
          first_below k.here.state l.here.state (omega arith)
          (λ (f : k.here.state ≡ l.here.state).
          first_below k.here.marker l.here.marker (omega arith)
          (λ (g : k.here.marker ≡ l.here.marker). (below_less e).1 (omega arith))))

  -- a link has its foot at the seat of another exactly when the numbers are the same
  foot-seat : (foot_no k ≡ seat_no l) ↔ (foot k ≡ seat l)
  foot-seat = (λ e. to e (below_of k a), λ e. fro e (below_of k a))
    where
      to : foot_no k ≡ seat_no l → Below k → foot k ≡ seat l
      to e (nothing z n x) = absurd (omega arith)
      to e (something p h n x s t) =
          let v = b.state in
          let w = b.marker in
          let q : k.level ≡ suc l.level = omega arith in
          let d : p.state ≡ l.here.state = omega arith in
          let r : p.marker ≡ l.here.marker = omega arith in
          ap (λ (o : Option Pair). k.level ∷ pair_key o) n ∙ (λ i. q i ∷ d i ∷ r i ∷ [])

      fro : foot k ≡ seat l → Below k → foot_no k ≡ seat_no l
      fro e (nothing z n x) =
          let f = ap (λ (w : Word). get_or w 0 0) e in
          absurd (omega arith)
      fro e (something p h n x s t) =
          let f : k.level ∷ p.state ∷ p.marker ∷ [] ≡ seat l =
          sym (ap (λ (o : Option Pair). k.level ∷ pair_key o) n) ∙ e in
          let u = ap (λ (w : Word). get_or w 0 0) f in
          let v = ap (λ (w : Word). get_or w 1 0) f in
          let w = ap (λ (w : Word). get_or w 2 0) f in
          omega arith

  pub foot-number : Exact (foot_no k ≡ seat_no l) (has_foot (seat l) k)
  foot-number = exact-as (foot-seat.1, foot-seat.0) (foot-exact (seat l) k)

pub lowest-number : (k : Link) → Plain k → Exact (foot_no k ≡ 0) (has_foot (0 ∷ []) k)
lowest-number k a = exact-as (λ e. fro e (below_of k a), λ e. to e (below_of k a)) (foot-exact (0 ∷ []) k)
  where
    to : foot_no k ≡ 0 → Below k → foot k ≡ 0 ∷ []
    to e (nothing z n x) = λ i. z i ∷ pair_key (n i)
    to e (something p h n x s t) = absurd (omega arith)

    fro : foot k ≡ 0 ∷ [] → Below k → foot_no k ≡ 0
    fro e (nothing z n x) = omega arith
    fro e (something p h n x s t) =
        let f = ap (λ (w : Word). get_or w 0 0) e in
        absurd (omega arith)

-- the link that stands in bytes from a place on
module _ (bytes : List ℕ) (small : Bytes bytes) (k : ℕ) where
  at_byte : (i : ℕ) → byte bytes (k + i) < 256
  at_byte i = get_or-byte bytes small (k + i)

  from-none : byte bytes k ≡ 0 → (link_from bytes k).below ≡ none
  from-none e = rw (eq-eqb (byte bytes k) 0 e)

  from_some : (byte bytes k ≡ 0 → ⊥) → (link_from bytes k).below ≡ some (below_from bytes k)
  from_some f = rw (ne_eqb (byte bytes k) 0 f)

  pub from-plain : Plain (link_from bytes k)
  from-plain =
      record {
        level = get_or-byte bytes small k;
        state = at_byte 1;
        marker = at_byte 2;
        none = (from-none, λ e. zero (eq-zero-or-pos (byte bytes k)) e);
        pair = λ p e. two (eq-zero-or-pos (byte bytes k)) p e;
      }
    where
      zero : (byte bytes k ≡ 0) ⊎ (0 < byte bytes k) → (link_from bytes k).below ≡ none → byte bytes k ≡ 0
      zero (inl z) e = z
      zero (inr h) e = absurd (none-some (sym e ∙ from_some (λ z. omega arith)))

      two : (byte bytes k ≡ 0) ⊎ (0 < byte bytes k) → (p : Pair) → (link_from bytes k).below ≡ some p
          → (p.state < 256) × (p.marker < 256)
      two (inl z) p e = absurd (none-some (sym (from-none z) ∙ e))
      two (inr h) p e =
          let q = some-injective (below_from bytes k) p (sym (from_some (λ z. omega arith)) ∙ e) in
          rw (← q) (at_byte 3, at_byte 4)

  pub seat-from : seat_from bytes k ≡ seat_no (link_from bytes k)
  seat-from = refl

  module _ (below : NoneBelow bytes k) where
    pair-from : pair_no (link_from bytes k).below ≡ byte bytes (k + 3) * 256 + byte bytes (k + 4)
    pair-from = go (eq-zero-or-pos (byte bytes k))
      where
        go : (byte bytes k ≡ 0) ⊎ (0 < byte bytes k)
            → pair_no (link_from bytes k).below ≡ byte bytes (k + 3) * 256 + byte bytes (k + 4)
        go (inl z) =
            let b = below z in
            ap pair_no (from-none z) ∙ omega (arith, b.0, b.1)
        go (inr h) = ap pair_no (from_some (λ z. omega arith))

    pub key-from : key_from bytes k ≡ link_no (link_from bytes k)
    key-from = omega (arith, pair-from)

    pub foot-from : foot_from bytes k ≡ foot_no (link_from bytes k)
    foot-from = omega (arith, pair-from)
