-- One session for each set of trails with their waiting outputs. Assumes nothing.
use mathlib.Core.Path.{◌≡◌, sym, ◌∙◌}
use mathlib.Core.Logic.{◌↔◌}
use mathlib.Core.List.{append_cancel_left}
use Prim.Native.Nat.{◌≤◌}
use native.Mathlib.Omega.{arith}
use Rattle.words.specs.Words.{Word, Begins}
use Rattle.words.proofs.Common.{begins-same}
use Rattle.words.proofs.Ordered.{rises-same}
use Rattle.meaning.specs.Table.{Table}
use Rattle.meaning.specs.Trails.{Trail, ground, over, height, Link, link_of, link_key}
use Rattle.meaning.proofs.Trails.{Under, under-height}
use Rattle.session_meaning.specs.Sessions.{Session, Has, Spells, Waits, Sound}
use Rattle.session_meaning.proofs.Spells.{links-under, some-waits, has_one, spells_one, spells-under}
use Rattle.session_meaning.proofs.Spells.{spells-longest}

-- what waits in one session waits in the other
abbrev Kept : Session → Session → Type 0
Kept S S' = (t : Trail) (w : Word) → Waits S t w → Waits S' t w

module _ (T : Table) (S S' : Session) (ok : Sound T S) (ok' : Sound T S') (to : Kept S S') where
  pub depth_same : S.depth ≡ S'.depth
  depth_same = let r = some-waits S ok.count.0 ok.lies in sym r.2.full ∙ (to r.0 r.1 r.2).full

module _ (T : Table) (S S' : Session) (ok : Sound T S) (ok' : Sound T S') (to : Kept S S') (fro : Kept S' S) where
  spells-begins : (t : Trail) (o o' : Word) → height t ≤ S.depth → Spells S t o → Spells S' t o' → Begins o o'
  spells-begins t o o' le p p' =
      let d = depth_same T S S' ok ok' to in
      spells-longest S' ok'.apart t o' o (omega arith) p'
      (λ U w u q.
      let r = spells-under S t U w u (fro U w q).spells in
      let e = spells_one S ok.rise t r.0 o r.1 p in
      rw e at r.2)

module _ (T : Table) (S S' : Session) (ok : Sound T S) (ok' : Sound T S') (to : Kept S S') (fro : Kept S' S) where
  spells-same : (t : Trail) (o o' : Word) → height t ≤ S.depth → Spells S t o → Spells S' t o' → o ≡ o'
  spells-same t o o' le p p' =
      let d = depth_same T S S' ok ok' to in
      begins-same o o' (spells-begins T S S' ok ok' to fro t o o' le p p')
      (spells-begins T S' S ok' ok fro to t o' o (omega arith) p' p)

  piece-same : (s : Trail) (v v' x : Word) → height s ≤ S.depth → Spells S s v → Spells S' s v' → Has S (link_of s) x
      → Has S' (link_of s) x
  piece-same (ground q) v v' x le p p' h =
      let e = spells-same (ground q) v v' le p p' in
      let f = has_one S ok.rise (link_of (ground q)) x v h p in
      rw (f, e) p'
  piece-same (over q m s) v v' x le p p' h =
      let e = spells-same (over q m s) v v' le p p' in
      let f = has_one S ok.rise (link_of (over q m s)) x p.1 h p.3 in
      let g = spells-same s p.0 p'.0 (omega arith) p.2 p'.2 in
      let k : p.1 ≡ p'.1 = append_cancel_left p.0 p.1 p'.1 (cc (p.4, p'.4)) in
      rw (f, k) p'.3

  has_same : (l : Link) (x : Word) → Has S l x → Has S' l x
  has_same l x h =
      let r = ok.lies l x h in
      let u = links-under l r.0 r.3 in
      go u.0 u.2 r.0 r.1 r.2 u.1
    where
      go : (s : Trail) → l ≡ link_of s → (U : Trail) (w : Word) → Waits S U w → Under s U → Has S' l x
      go s e U w a u =
          let p = spells-under S s U w u a.spells in
          let p' = spells-under S' s U w u (to U w a).spells in
          rw e (piece-same s p.0 p'.0 x (omega (arith, under-height s U u, a.full)) p.1 p'.1 (rw e at h))

-- "Two more rules give each set of trails and waiting outputs one session only"
pub session-same : (T : Table) (S S' : Session) → Sound T S → Sound T S'
    → ((t : Trail) (w : Word) → Waits S t w ↔ Waits S' t w) → S ≡ S'
session-same T S S' ok ok' iff =
    let to : Kept S S' = λ t w. (iff t w).0 in
    let fro : Kept S' S = λ t w. (iff t w).1 in
    let d = depth_same T S S' ok ok' to in
    let e =
    rises-same (λ e. link_key e.link) S.entries S'.entries ok.rise ok'.rise
    (λ z m. has_same T S S' ok ok' to fro z.link z.piece m)
    (λ z m. has_same T S' S ok' ok fro to z.link z.piece m) in
    λ i. record { depth = d i; entries = e i }
