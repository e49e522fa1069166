-- A session at depth 0: what its runs that accept have waiting, link by link. Assumes nothing.
use mathlib.Core.Path.{◌≡◌, refl, sym, ◌∙◌, ap}
use mathlib.Core.Bool.{true, false≢true}
use mathlib.Core.List.Memᴰ
use mathlib.Core.List.{List}
use Prim.Native.Nat.{ℕ}
use native.Mathlib.Omega.{arith}
use lib.Dec.{eqb}
use borrow.Author.Tests.{eqb-true, eq-eqb}
use Rattle.words.specs.Lists.{◌among◌, each, only}
use Rattle.words.specs.Words.{Word}
use Rattle.words.proofs.Lists.{passing-in, passing-out, any-in, any_out}
use Rattle.meaning.specs.Table.{Table}
use Rattle.meaning.specs.Trails.{Trail, ground, over, height, Link, link_of, links}
use Rattle.meaning.specs.Answers.{accepts, accepted}
use Rattle.session_meaning.specs.Sessions.{entry, Session, Has, Waits, Lies, trails}
use Rattle.session_meaning.proofs.Listed.{trails-exact}

module _ (T : Table) (S : Session) (flat : S.depth ≡ 0) where
  abbrev A : List Word
  A = accepted T (trails S)

  -- what waits is what the pieces at level 0 are whose states are final
  pub accepted-in : (q : ℕ) (x : Word) → Has S (link_of (ground q)) x → q among T.final → x among A
  accepted-in q x h f =
      let w : Waits S (ground q) x = record { full = sym flat; spells = h } in
      let a = any-in (eqb q) T.final f (eq-eqb q q refl) in
      Memᴰ.map (λ p. p.output)
      (passing-in (λ p. accepts T p.trail) (trails S) ((trails-exact S (ground q) x).1 w) a)

  pub accepted-out : (w : Word) → w among A → (q : ℕ) × Has S (link_of (ground q)) w × (q among T.final)
  accepted-out w m =
      let x = Memᴰ.of_map (λ p. p.output) (each (λ p. only (accepts T p.trail) p) (trails S)) m in
      let y = passing-out (λ p. accepts T p.trail) (trails S) x.1 in
      go x.0.trail x.0.output ((trails-exact S x.0.trail x.0.output).0 y.0) y.1 x.2
    where
      go : (t : Trail) (v : Word) → Waits S t v → accepts T t ≡ true → v ≡ w
          → (q : ℕ) × Has S (link_of (ground q)) w × (q among T.final)
      go (ground q) v h a e =
          let f = any_out (eqb q) T.final a in
          let has = Memᴰ.cast (ap (entry (link_of (ground q))) (sym e)) h.spells in
          (q, has, Memᴰ.cast (eqb-true q f.0 f.2) f.1)
      go (over q n t) v h a e = absurd (false≢true a)

  -- every link is at level 0
  pub grounded : Lies S → (l : Link) (x : Word) → Has S l x → l ≡ link_of (ground l.here.state)
  grounded lies l x h = let t = lies l x h in go t.0 (t.2.full ∙ flat) t.3
    where
      go : (t : Trail) → height t ≡ 0 → l among links t → l ≡ link_of (ground l.here.state)
      go (ground q) e m =
          let d = Memᴰ.eq_of_singleton m in
          d ∙ ap (λ (k : Link). link_of (ground k.here.state)) (sym d)
      go (over q n t) e m = absurd (omega arith)
