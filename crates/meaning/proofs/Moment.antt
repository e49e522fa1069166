-- Places with a word put before their outputs, less what is sent, and in another order. Assumes nothing.
use mathlib.Core.Path.{◌≡◌, refl, sym, ◌∙◌, ap, subst}
use mathlib.Core.Logic.{◌↔◌}
use mathlib.Core.List.{List, ◌++◌, map, map-map, map-id, append_assoc}
use mathlib.Core.List.Memᴰ
use Prim.Native.Nat.{ℕ}
use lib.ListN.{length, drop}
use lib.Seq.{drop-append_seam}
use Rattle.words.specs.Lists.{◌among◌, each, only}
use Rattle.words.specs.Words.{Word, Begins, common}
use Rattle.words.proofs.Lists.{each_in, each-out, choices-map, map_same}
use Rattle.words.proofs.Common.{begins-drop, common-begins, common-longest, common-ahead}
use Rattle.meaning.specs.Table.{Table}
use Rattle.meaning.specs.Trails.{carry}
use Rattle.meaning.specs.Living.{Place, place, can, goes, moved}
use Rattle.meaning.specs.Answers.{outputs, sending, held}

-- the same places are in two lists, in whatever order and however often
abbrev pub Alike : List Place → List Place → Type 0
Alike X Y = (p : Place) → (p among X) ↔ (p among Y)

pub alike_is : {X Y : List Place} → X ≡ Y → Alike X Y
alike_is e p = rw e (λ m. m, λ m. m)

pub alike_then : {X Y Z : List Place} → Alike X Y → Alike Y Z → Alike X Z
alike_then h k p = (λ m. (k p).0 ((h p).0 m), λ m. (h p).1 ((k p).1 m))

-- what is made of each place of one list is made of one of the other
each-alike : (f : Place → List Place) {X Y : List Place} → Alike X Y → Alike (each f X) (each f Y)
each-alike f {X} {Y} h p = (
  λ m. let x = each-out f X m in each_in f Y ((h x.0).0 x.1) x.2,
  λ m. let x = each-out f Y m in each_in f X ((h x.0).1 x.1) x.2,
)

pub moved-alike : (T : Table) (a : ℕ) {X Y : List Place} → Alike X Y → Alike (moved T X a) (moved T Y a)
moved-alike T a = each-alike (λ p. each (λ r. only (can T a p r) (goes T a p r)) T.rows)

-- places with a word put before each output
abbrev pub front : Word → Place → Place
front z p = place p.trail (z ++ p.output)

abbrev pub ahead : Word → List Place → List Place
ahead z X = map (front z) X

pub ahead-ahead : (z y : Word) (X : List Place) → ahead z (ahead y X) ≡ ahead (z ++ y) X
ahead-ahead z y X =
    map-map (front z) (front y) X
    ∙ map_same (λ p. front z (front y p)) (front (z ++ y)) X
    (λ p m. ap (place p.trail) (sym (append_assoc z y p.output)))

pub ahead-alike : (z : Word) {X Y : List Place} → Alike X Y → Alike (ahead z X) (ahead z Y)
ahead-alike z {X} {Y} h p = (
  λ m. let x = Memᴰ.of_map (front z) X m in Memᴰ.cast (sym x.2) (Memᴰ.map (front z) ((h x.0).0 x.1)),
  λ m. let x = Memᴰ.of_map (front z) Y m in Memᴰ.cast (sym x.2) (Memᴰ.map (front z) ((h x.0).1 x.1)),
)

-- rows move places in the same way whatever stands before their outputs
pub moved-ahead : (T : Table) (z : Word) (X : List Place) (a : ℕ) → moved T (ahead z X) a ≡ ahead z (moved T X a)
moved-ahead T z X a =
    choices-map (front z) (front z) (can T a) (can T a) (goes T a) (goes T a)
    (λ p r. refl)
    (λ p r e. ap (place (carry (T.class a) r p.trail)) (append_assoc z p.output r.word))
    X T.rows

outputs-ahead : (z : Word) (X : List Place) → outputs (ahead z X) ≡ map (λ w. z ++ w) (outputs X)
outputs-ahead z X = map-map (λ p. p.output) (front z) X ∙ sym (map-map (λ w. z ++ w) (λ p. p.output) X)

-- what is sent is the longest common beginning: all that begins each output begins it, and it begins each output
pub sending-longest : (X : List Place) {p : Place} → p among X → (x : Word)
    → ((q : Place) → q among X → Begins x q.output) → Begins x (sending X)
sending-longest X m x all =
    common-longest (outputs X) (Memᴰ.map (λ p. p.output) m)
    (λ w i. let o = Memᴰ.of_map (λ p. p.output) X i in subst (Begins x) o.2 (all o.0 o.1))

pub sending-begins : (X : List Place) {p : Place} → p among X → Begins (sending X) p.output
sending-begins X m = common-begins (outputs X) (Memᴰ.map (λ p. p.output) m)

pub sending-front : (z : Word) (X : List Place) {p : Place} → p among X → sending (ahead z X) ≡ z ++ sending X
sending-front z X m = ap common (outputs-ahead z X) ∙ common-ahead z (outputs X) (Memᴰ.map (λ p. p.output) m)

-- a place less what is sent
abbrev pub cut : List Place → Place → Place
cut X p = place p.trail (drop (length (sending X)) p.output)

pub held_in : (X : List Place) {p : Place} → p among X → cut X p among held X
held_in X m = Memᴰ.map (cut X) m

-- what is sent and what then waits make up what was there
pub held-front : (X : List Place) (p : Place) → p among X → front (sending X) (cut X p) ≡ p
held-front X p m = ap (place p.trail) (begins-drop (sending-begins X m))

-- what waits is what was there with what is sent before it
pub held-exact : (X : List Place) (p : Place) → (p among held X) ↔ (front (sending X) p among X)
held-exact X p = (
  λ m.
      let o = Memᴰ.of_map (cut X) X m in
      Memᴰ.cast (ap (front (sending X)) (sym o.2) ∙ held-front X o.0 o.1) o.1,
  λ m. Memᴰ.cast (sym (ap (place p.trail) (drop-append_seam (sending X) p.output))) (held_in X m),
)

pub held_whole : (X : List Place) → ahead (sending X) (held X) ≡ X
held_whole X =
    map-map (front (sending X)) (cut X) X
    ∙ map_same (λ p. front (sending X) (cut X p)) (λ p. p) X (held-front X)
    ∙ map-id X
