-- The session that begin makes is sound, and stands for the runs over the empty message. Assumes nothing.
use mathlib.Core.Path.{◌≡◌, refl, sym, ap}
use mathlib.Core.Logic.{inl, inr}
use mathlib.Core.List.Memᴰ
use mathlib.Core.List.{List, [], ◌∷◌, map, nil≢cons}
use Prim.Native.Nat.{ℕ, suc, ◌+◌, ◌<◌, ◌≤◌}
use native.Mathlib.Omega.{arith}
use lib.ListN.{length, length-map}
use Rattle.words.specs.Lists.{◌among◌, each, only}
use Rattle.words.specs.Words.{Word}
use Rattle.words.specs.Order.{Less, Rises}
use Rattle.words.proofs.Common.{begins-not}
use Rattle.words.proofs.Ordered.{first-less, rises-map}
use Rattle.meaning.specs.Table.{Table, GoodSet}
use Rattle.meaning.specs.Trails.{Trail, ground, over, Link, link_of, links, link_key}
use Rattle.meaning.specs.Living.{Place, place}
use Rattle.meaning.specs.Answers.{links_cap, opened}
use Rattle.session_meaning.proofs.Tests.{bottom-exact}
use Rattle.session_meaning.specs.Sessions.{Entry, entry, Has, Waits, Ranges, Sound, lowest, on_bottom, stands}
use Rattle.session_meaning.specs.Sessions.{starts}
use Rattle.session_meaning.specs.Sessions.{beginning}

-- a rising list of numbers from `k` to below `n` is no longer than what is between
few : (k n : ℕ) (l : List ℕ) → Rises (λ q. q ∷ []) l → ((q : ℕ) → q among l → (k ≤ q) × (q < n)) → k ≤ n
    → k + length l ≤ n
few k n [] r h le = omega arith
few k n (q ∷ l) r h le =
    let a = h q (Memᴰ.head refl) in
    omega (
      arith,
      few (suc q) n l r.1 (λ p m. (first-less (r.0 p m), (h p (Memᴰ.tail m)).1)) (omega arith),
    )

starts-keep : (p q : ℕ) → Less (p ∷ []) (q ∷ []) → Less (link_key (link_of (ground p))) (link_key (link_of (ground q)))
starts-keep p q l = inr (refl, inl (first-less l))

module _ (T : Table) where
  -- an entry is that of a starting state
  of-start : (l : Link) (x : Word) → Has (beginning T) l x → (q : ℕ) × (q among T.starting) × (starts q ≡ entry l x)
  of-start l x h = Memᴰ.of_map starts T.starting h

  waits-none : (t : Trail) (w : Word) → Waits (beginning T) t w → w ≡ []
  waits-none (ground q) w h = sym (ap (λ (e : Entry). e.piece) (of-start (link_of (ground q)) w h.spells).2)
  waits-none (over q m t) w h = let e = h.full in absurd (omega arith)

  waits_start : (q : ℕ) → q among T.starting → Waits (beginning T) (ground q) []
  waits_start q m = record { full = refl; spells = Memᴰ.map starts m }

  module _ (good : GoodSet T.states T.starting) (some : (q : ℕ) × (q among T.starting))
      (room : T.states ≤ links_cap) where
    range : (l : Link) (x : Word) (q : ℕ) → q among T.starting → starts q ≡ entry l x → Ranges T l
    range l x q m e =
        let f : link_of (ground q) ≡ l = ap (λ (e : Entry). e.link) e in
        rw (← f) (record { state = good.below q m; marker = omega arith; zero = (λ e. refl, λ e. refl) })

    lie : (l : Link) (x : Word) (q : ℕ) → q among T.starting → starts q ≡ entry l x
        → (t : Trail) × (w : Word) × Waits (beginning T) t w × (l among links t)
    lie l x q m e = (ground q, [], waits_start q m, Memᴰ.head (sym (ap (λ (e : Entry). e.link) e)))

    pub beginning-sound : Sound T (beginning T)
    beginning-sound =
        record {
          depth = omega arith;
          count = (at_least T.starting some.1, at_most);
          ranges = λ l x h. let o = of-start l x h in range l x o.0 o.1 o.2;
          lies = λ l x h. let o = of-start l x h in lie l x o.0 o.1 o.2;
          short = λ t w h. rw (waits-none t w h) (omega arith);
          bottom = λ a. begins-not (a.1 [] (ground some.0, waits_start some.0 some.1));
          rise =
              rises-map (λ q. q ∷ []) (λ e. link_key e.link) starts starts-keep T.starting good.rise;
          apart = λ l x h lt. absurd (omega arith);
          bytes = λ l x h b m. no_bytes b x (ap (λ (e : Entry). e.piece) (of-start l x h).2) m;
        }
      where
        at_least : (l : List ℕ) {q : ℕ} → q among l → 1 ≤ length (map starts l)
        at_least (q ∷ l) m = omega arith
        at_least [] m = elim m [ ]

        at_most : length (map starts T.starting) ≤ links_cap
        at_most =
            let below = good.below in
            let n = few 0 T.states T.starting good.rise (λ q m. (omega arith, below q m)) (omega arith) in
            rw (length-map T.starting starts) (omega arith)

        no_bytes : (b : ℕ) (x : Word) → [] ≡ x → b among x → b < 256
        no_bytes b [] e m = elim m [ ]
        no_bytes b (c ∷ x) e m = absurd (nil≢cons e)

-- "From a fresh session this gives the runs"
pub beginning-stands : (T : Table) → stands (beginning T) ≡ opened T
beginning-stands T = ap (λ (X : List Place). record { depth = 0; waiting = X }) (go T.starting)
  where
    go : (l : List ℕ)
        → each (λ e. only (on_bottom e.link) (lowest e)) (map starts l) ≡ map (λ q. place (ground q) []) l
    go [] = refl
    go (q ∷ l) =
        let h = (bottom-exact (link_of (ground q))).0 refl in
        let r = go l in
        rw h (ap (λ (X : List Place). place (ground q) [] ∷ X) r)
