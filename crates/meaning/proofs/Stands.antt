-- Where places stand for the runs over a message, the tests of the places are the sentences about the runs.
-- Assumes nothing.
use mathlib.Core.Path.{◌≡◌, refl, sym, ◌∙◌, ap, subst}
use mathlib.Core.Logic.{◌↔◌}
use mathlib.Core.Option.{Option, some, none}
use mathlib.Core.List.Memᴰ
use mathlib.Core.List.{List, ◌++◌, append_assoc, append_cancel_left, nil≢cons}
use mathlib.Core.List.{head-eq_of_cons-eq, tail-eq_of_cons-eq}
use Prim.Native.Nat.{◌<◌}
use lib.Dec.{ltb}
use lib.ListN.{length}
use Rattle.words.specs.Lists.{◌among◌, each, any_of, is_empty, Exact}
use Rattle.words.specs.Words.{Word, Begins}
use Rattle.words.proofs.Lists.{each_in, each-out}
use Rattle.words.proofs.Common.{begins-same, begins-ahead}
use Rattle.words.proofs.Arranged.{arranged-in, arranged-out, arranged-rises, arranged_is}
use Rattle.meaning.specs.Table.{Table}
use Rattle.meaning.specs.Runs.{Run}
use Rattle.meaning.specs.Trails.{Trail, Pair, trail, trail_key, Link, links, link_key, pair_key}
use Rattle.meaning.specs.Living.{Place, place, living}
use Rattle.meaning.specs.Answers.{links_cap, links_of, clash, sending, held}
use Rattle.meaning.specs.Sentences.{Agreed, Linked, Crowded, Conflict, Backlog}
use Rattle.words.proofs.Exact.{exact-as, empty-exact, any-exact, and-exact, not-exact, ltb-exact, same-exact}
use Rattle.meaning.proofs.Trails.{trail_key-one}
use Rattle.meaning.proofs.Living.{Reaches, living-run, run-living}
use Rattle.meaning.proofs.Moment.{Alike, front, ahead, sending-longest, sending-begins, sending-front}
use Rattle.meaning.proofs.Moment.{cut, held_in, held-front}

-- links with one key are the same
pair_key-one : (p q : Option Pair) → pair_key p ≡ pair_key q → p ≡ q
pair_key-one none none e = refl
pair_key-one none (some q) e = absurd (nil≢cons e)
pair_key-one (some p) none e = absurd (nil≢cons (sym e))
pair_key-one (some p) (some q) e =
    let a = head-eq_of_cons-eq e in
    let b = head-eq_of_cons-eq (tail-eq_of_cons-eq e) in
    λ i. some (record { state = a i; marker = b i })

pub link_key-one : (k l : Link) → link_key k ≡ link_key l → k ≡ l
link_key-one k l e =
    let f = tail-eq_of_cons-eq e in
    let g = tail-eq_of_cons-eq f in
    let a = head-eq_of_cons-eq e in
    let b = head-eq_of_cons-eq f in
    let c = head-eq_of_cons-eq g in
    let d = pair_key-one k.below l.below (tail-eq_of_cons-eq g) in
    λ i. record { level = a i; here = record { state = b i; marker = c i }; below = d i }

-- two words that both agree all runs are the same
pub agreed-one : {T : Table} {u y z : Word} → Agreed T u y → Agreed T u z → y ≡ z
agreed-one {y = y} {z = z} f g = begins-same y z (g.longest y f.begins) (f.longest z g.begins)

module _ (T : Table) (u z : Word) (X : List Place) (runs : Alike (living T u) (ahead z X)) where
  -- the place of a run
  pub record Stands (r : Run T u) : Type 0 where
    pub place : Place
    pub listed : place among X
    pub trail : trail r ≡ place.trail
    pub output : r.end.output ≡ z ++ place.output

  pub stands : (r : Run T u) → Stands r
  stands r =
      let m = Memᴰ.of_map (front z) X ((runs (place (trail r) r.end.output)).0 (run-living r)) in
      record {
        place = m.0;
        listed = m.1;
        trail = sym (ap (λ (p : Place). p.trail) m.2);
        output = sym (ap (λ (p : Place). p.output) m.2);
      }

  -- the run of a place
  pub runs_of : (p : Place) → p among X → Reaches T u p.trail (z ++ p.output)
  runs_of p m =
      living-run T u p.trail (z ++ p.output) ((runs (front z p)).1 (Memᴰ.map (front z) m))

  -- no place, no run
  pub none-exact : Exact (Run T u → ⊥) (is_empty X)
  none-exact =
      exact-as (λ f r. f (stands r).place (stands r).listed, λ f p m. f (runs_of p m).run) (empty-exact X)

  -- the longest common beginning, where there is a run
  pub agreed : {p : Place} → p among X → Agreed T u (z ++ sending X)
  agreed i =
      record {
        begins = λ r.
            let s = stands r in
            subst (Begins (z ++ sending X)) (sym s.output)
            (begins-ahead z (sending-begins X s.listed));
        longest = λ x all.
            subst (Begins x) (sending-front z X i)
            (sending-longest (ahead z X) (Memᴰ.map (front z) i) x (each-begins x all));
      }
    where
      each-begins : (x : Word) → ((r : Run T u) → Begins x r.end.output) → (q : Place) → q among ahead z X
          → Begins x q.output
      each-begins x all q m =
          let o = Memᴰ.of_map (front z) X m in
          let r = runs_of o.0 o.1 in
          subst (Begins x) (r.output ∙ ap (λ (p : Place). p.output) o.2) (all r.run)

  -- the links
  links-exact : (l : Link) → (l among each (λ p. links p.trail) X) ↔ ((r : Run T u) × (l among links (trail r)))
  links-exact l = (to, fro)
    where
      to : l among each (λ p. links p.trail) X → (r : Run T u) × (l among links (trail r))
      to m =
          let x = each-out (λ p. links p.trail) X m in
          let r = runs_of x.0 x.1 in
          (r.run, subst (λ (t : Trail). l among links t) (sym r.trail) x.2)

      fro : (r : Run T u) × (l among links (trail r)) → l among each (λ p. links p.trail) X
      fro r =
          let s = stands r.0 in
          each_in (λ p. links p.trail) X s.listed (subst (λ (t : Trail). l among links t) s.trail r.1)

  pub linked : Linked T u (links_of X)
  linked =
      record {
        rise = arranged-rises link_key (each (λ p. links p.trail) X);
        exact = λ l. (
          λ m. (links-exact l).0 (arranged-out link_key l (each (λ p. links p.trail) X) m),
          λ r. arranged-in link_key link_key-one l (each (λ p. links p.trail) X) ((links-exact l).1 r),
        );
      }

  pub linked-one : (L : List Link) → Linked T u L → L ≡ links_of X
  linked-one L h =
      arranged_is link_key link_key-one (each (λ p. links p.trail) X) L h.rise
      (λ l. (λ m. (links-exact l).1 ((h.exact l).0 m), λ m. (h.exact l).1 ((links-exact l).0 m)))

  pub crowded-exact : Exact (Crowded T u) (ltb links_cap (length (links_of X)))
  crowded-exact = exact-as (to, fro) (ltb-exact links_cap (length (links_of X)))
    where
      to : links_cap < length (links_of X) → Crowded T u
      to l = (links_of X, linked, l)

      fro : Crowded T u → links_cap < length (links_of X)
      fro c = subst (λ (L : List Link). links_cap < length L) (linked-one c.0 c.1) c.2

  -- one trail and different outputs
  abbrev Clash : Place → Place → Type 0
  Clash p q = (p.trail ≡ q.trail) × (p.output ≡ q.output → ⊥)

  clash-exact : (p q : Place) → Exact (Clash p q) (clash p q)
  clash-exact p q =
      and-exact
      (exact-as (trail_key-one p.trail q.trail, ap trail_key)
      (same-exact (trail_key p.trail) (trail_key q.trail)))
      (not-exact (same-exact p.output q.output))

  pub conflict-exact : Exact (Conflict T u) (any_of (λ p. any_of (clash p) X) X)
  conflict-exact = exact-as (to, fro) (any-exact X (λ p i. any-exact X (λ q j. clash-exact p q)))
    where
      to : (p : Place) × (p among X) × ((q : Place) × (q among X) × Clash p q) → Conflict T u
      to x =
          let p = x.0 in
          let q = x.2.0 in
          let c = x.2.2 in
          let r = runs_of p x.1 in
          let s = runs_of q x.2.1 in (
            r.run,
            s.run,
            r.trail ∙ c.0 ∙ sym s.trail,
            λ d. c.1 (append_cancel_left z p.output q.output (sym r.output ∙ d ∙ s.output)),
          )

      fro : Conflict T u → (p : Place) × (p among X) × ((q : Place) × (q among X) × Clash p q)
      fro c =
          let r = stands c.0 in
          let s = stands c.1 in
          let t : r.place.trail ≡ s.place.trail = sym r.trail ∙ c.2 ∙ s.trail in
          let d : r.place.output ≡ s.place.output → ⊥ =
          λ e. c.3 (r.output ∙ ap (λ (w : Word). z ++ w) e ∙ sym s.output) in
          (r.place, r.listed, (s.place, s.listed, (t, d)))

  -- what a run has waiting, when all that can be is sent
  waits : (r : Run T u) (p : Place) → p among X → r.end.output ≡ z ++ p.output
      → r.end.output ≡ (z ++ sending X) ++ (cut X p).output
  waits r p m e =
      e
      ∙ ap (λ (p : Place). z ++ p.output) (sym (held-front X p m))
      ∙ sym (append_assoc z (sending X) (cut X p).output)

  -- more waits than the cap
  pub backlog-exact : {p : Place} → p among X
      → Exact (Backlog T u) (any_of (λ p. ltb T.waiting_cap (length p.output)) (held X))
  backlog-exact i = exact-as (to, fro) (any-exact (held X) (λ p m. ltb-exact T.waiting_cap (length p.output)))
    where
      to : (p : Place) × (p among held X) × (T.waiting_cap < length p.output) → Backlog T u
      to x =
          let y = Memᴰ.of_map (cut X) X x.1 in
          let p = y.0 in
          let r = runs_of p y.1 in (
            z ++ sending X,
            agreed i,
            r.run,
            (cut X p).output,
            waits r.run p y.1 r.output,
            subst (λ (p : Place). T.waiting_cap < length p.output) (sym y.2) x.2,
          )

      fro : Backlog T u → (p : Place) × (p among held X) × (T.waiting_cap < length p.output)
      fro b =
          let s = stands b.2 in
          let p = s.place in
          let d : b.0 ≡ z ++ sending X = agreed-one b.1 (agreed i) in
          let g : b.3 ≡ (cut X p).output =
          append_cancel_left (z ++ sending X) b.3 (cut X p).output
          (ap (λ (y : Word). y ++ b.3) (sym d) ∙ sym b.4 ∙ waits b.2 p s.listed s.output) in
          (cut X p, held_in X s.listed, subst (λ (w : Word). T.waiting_cap < length w) g b.5)
