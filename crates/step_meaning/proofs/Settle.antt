-- Push and cut: the trails stay, each waiting output loses what is sent, and no group has a first byte in common.
-- Assumes nothing.
use mathlib.Core.Path.{◌≡◌, refl, sym, ◌∙◌, ap, subst}
use mathlib.Core.Logic.{◌⊎◌, inl, inr, ◌↔◌}
use mathlib.Core.Bool.{true}
use mathlib.Core.Option.{some}
use mathlib.Core.List.Memᴰ
use mathlib.Core.List.{List, [], ◌∷◌, ◌++◌, map, append_assoc, append-nil}
use mathlib.Core.List.{append_cancel_left}
use Prim.Native.Nat.{ℕ, suc, ◌<◌, ◌≤◌}
use native.Mathlib.Omega.{arith}
use lib.ListN.{length, length-append, length-map}
use Rattle.words.specs.Lists.{◌among◌}
use Rattle.words.specs.Words.{Word, Bytes, Begins}
use Rattle.words.proofs.Common.{begins-ahead}
use Rattle.meaning.specs.Trails.{Trail, ground, over, height, Link, on, link_of, pair_key}
use Rattle.meaning.proofs.Trails.{Under, same, more, under-height}
use Rattle.session_meaning.specs.Sessions.{Apart, Lies, RisesByLink, Entry, entry, Session, Has, Spells, Waits}
use Rattle.session_meaning.specs.Sessions.{AllBegin}
use Rattle.session_meaning.specs.Soundly.{longest}
use Rattle.session_meaning.proofs.Tests.{as-has, all-as}
use Rattle.session_meaning.proofs.Spells.{from-bottom, level-link_of, links-under, piece-within, spells-under}
use Rattle.session_meaning.proofs.Soundly.{lies-rooted, bottom-lowest, short-longest}
use Rattle.step_meaning.specs.Stepping.{foot, seat, has_foot, base, push, settled, sending_from}
use Rattle.step_meaning.proofs.Feet.{foot-exact, foot-own, seat-exact, foot-level}
use Rattle.step_meaning.proofs.Push.{base-none, push-in, push-out, push-rises, push-links, InPiece, push-among}
use Rattle.step_meaning.proofs.Cut.{cut_in, cut_out, cut_apart, cut-rises, cut-links}

-- what stays of a session: its links, their number, and what the pieces are made of
module _ (H : Session) where
  pub links-settled : map (λ e. e.link) (settled H).entries ≡ map (λ e. e.link) H.entries
  links-settled = cut-links (push H.entries) ∙ push-links H.entries

  pub settled-length : length (settled H).entries ≡ length H.entries
  settled-length =
      sym (length-map (settled H).entries (λ e. e.link)) ∙ ap length links-settled
      ∙ length-map H.entries (λ e. e.link)

  pub settled-links : (P : Link → Type 0) → ((l : Link) (x : Word) → Has H l x → P l) → (l : Link) (x : Word)
      → Has (settled H) l x → P l
  settled-links P all l x h =
      let m = subst (λ (L : List Link). l among L) links-settled (Memᴰ.map (λ e. e.link) h) in
      let o = Memᴰ.of_map (λ e. e.link) H.entries m in
      subst P o.2 (all o.0.link o.0.piece o.1)

  -- each byte of a piece is one of a piece that was there
  pub settled-among : (b : ℕ) → InPiece b (settled H).entries → InPiece b H.entries
  settled-among b o =
      let K = push H.entries in
      let z = base K (foot o.0) in
      push-among b H.entries (o.0, z ++ o.1, cut_out K o.0 o.1 o.2, Memᴰ.append_right z o.3)

  pub settled-bytes : ((l : Link) (x : Word) → Has H l x → Bytes x) → (l : Link) (y : Word) → Has (settled H) l y
      → Bytes y
  settled-bytes all l y h b i = let o = settled-among b (l, y, h, i) in all o.0 o.1 o.2 b o.3

-- what those with a foot hand down: at level 0, what is sent
abbrev pub handed : Session → Word → Word
handed H f = base (push H.entries) f

telescope : (z v' x' v b x c : Word) → z ++ v' ≡ v ++ b → b ++ x' ≡ x ++ c → z ++ (v' ++ x') ≡ (v ++ x) ++ c
telescope z v' x' v b x c e f = cc (append_assoc z v' x', append_assoc v b x', append_assoc v x c)

-- a trail goes on to one that it lies under
under_next : (s t : Trail) → Under s t → height s < height t → (q : ℕ) × (m : ℕ) × Under (over q m s) t
under_next s t same lt = absurd (omega arith)
under_next s (over q m t) (more same) lt = (q, m, same)
under_next s (over q m (over p n t)) (more (more u)) lt =
    let r = under_next s (over p n t) (more u) (omega (arith, under-height s t u)) in
    (r.0, r.1, more r.2)

module _ (H : Session) (rise : RisesByLink H.entries) where
  abbrev E : List Entry
  E = H.entries

  pub settled-rises : RisesByLink (settled H).entries
  settled-rises = cut-rises (push E) (push-rises E rise)

  -- a piece, with what its pair hands down, is what the pair below hands down and the new piece
  pub settle-in : (l : Link) (x : Word) → Has H l x
      → (y : Word) × Has (settled H) l y × (handed H (foot l) ++ y ≡ x ++ handed H (seat l))
  settle-in l x h = cut_in (push E) l (x ++ handed H (seat l)) (push-in E rise l x h)

  pub settle-out : (l : Link) (y : Word) → Has (settled H) l y
      → (x : Word) × Has H l x × (handed H (foot l) ++ y ≡ x ++ handed H (seat l))
  settle-out l y h = push-out E rise l (handed H (foot l) ++ y) (cut_out (push E) l y h)

  -- and so along a trail
  spells-in : (t : Trail) (w : Word) → Spells H t w
      → (v : Word) × Spells (settled H) t v × (sending_from H ++ v ≡ w ++ handed H (seat (link_of t)))
  spells-in (ground q) w s = settle-in (link_of (ground q)) w s
  spells-in (over q m t) w s =
      let p = spells-in t s.0 s.2 in
      let h = settle-in (link_of (over q m t)) s.1 s.3 in (
        p.0 ++ h.0,
        (p.0, h.0, p.1, h.1, refl),
        telescope (sending_from H) p.0 h.0 s.0 (handed H (seat (link_of t))) s.1 _ p.2 h.2
            ∙ ap (λ (w : Word). w ++ handed H (seat (link_of (over q m t)))) (sym s.4),
      )

  spells-out : (t : Trail) (v : Word) → Spells (settled H) t v
      → (w : Word) × Spells H t w × (sending_from H ++ v ≡ w ++ handed H (seat (link_of t)))
  spells-out (ground q) v s = settle-out (link_of (ground q)) v s
  spells-out (over q m t) v s =
      let p = spells-out t s.0 s.2 in
      let h = settle-out (link_of (over q m t)) s.1 s.3 in (
        p.0 ++ h.0,
        (p.0, h.0, p.1, h.1, refl),
        ap (λ (v : Word). sending_from H ++ v) s.4
            ∙ telescope (sending_from H) s.0 s.1 p.0 (handed H (seat (link_of t))) h.0 _ p.2 h.2,
      )

  module _ (lies : Lies H) where
    -- at the depth nothing is handed down
    handed-none : (t : Trail) → height t ≡ H.depth → handed H (seat (link_of t)) ≡ []
    handed-none t d =
        base-none (push E) (seat (link_of t))
        (λ l y m f.
        let o = push-out E rise l y m in
        let n = (lies-rooted H lies l o.0 o.1).0 in
        let e = foot-level (suc (link_of t).level) (pair_key (some (link_of t).here)) l f in
        omega (arith, level-link_of t))

    handed-full : (t : Trail) (w : Word) → height t ≡ H.depth → w ++ handed H (seat (link_of t)) ≡ w
    handed-full t w d = ap (λ (z : Word). w ++ z) (handed-none t d) ∙ append-nil w

    -- each waiting output is begun by what is sent
    pub waits-sent : (t : Trail) (o : Word) → Waits H t o
        → (w : Word) × (o ≡ sending_from H ++ w) × Waits (settled H) t w
    waits-sent t o h =
        let p = spells-in t o h.spells in
        (p.0, sym (p.2 ∙ handed-full t o h.full), record { full = h.full; spells = p.1 })

    -- the trails are as they were, and of each waiting output what is sent is taken off
    pub waits-settled : (t : Trail) (w : Word) → Waits (settled H) t w ↔ Waits H t (sending_from H ++ w)
    waits-settled t w = (to, fro)
      where
        to : Waits (settled H) t w → Waits H t (sending_from H ++ w)
        to h =
            let p = spells-out t w h.spells in
            record { full = h.full; spells = subst (Spells H t) (sym (p.2 ∙ handed-full t p.0 h.full)) p.1 }

        fro : Waits H t (sending_from H ++ w) → Waits (settled H) t w
        fro h =
            let p = waits-sent t (sending_from H ++ w) h in
            subst (Waits (settled H) t) (sym (append_cancel_left (sending_from H) w p.0 p.1)) p.2

    pub settled-lies : Lies (settled H)
    settled-lies l y h =
        let o = settle-out l y h in
        let p = lies l o.0 o.1 in
        let q = waits-sent p.0 p.1 p.2 in
        (p.0, q.0, q.2, p.3)

    -- what is left has no first byte in common, on each pair
    pub settled-apart : Apart (settled H)
    settled-apart l y h lt all =
        let o = settle-out l y h in
        let p = lies l o.0 o.1 in
        let u = links-under l p.0 p.3 in
        let e = ap (λ (k : Link). k.level) u.2 in
        let n = under_next u.0 p.0 u.1 (omega (arith, level-link_of u.0, p.2.full)) in
        let s = spells-under H (over n.0 n.1 u.0) p.0 p.1 n.2 p.2.spells in
        let k = on n.0 n.1 (link_of u.0) in
        cut_apart (push E) (seat l) k (s.1.1 ++ handed H (seat k)) (push-in E rise k s.1.1 s.1.3)
        ((foot-exact (seat l) k).0 (ap seat (sym u.2)))
        (all-as
        (λ w m. (
          m.0.here.state,
          m.0.here.marker,
          as-has (settled H) (entry m.0 w) _ m.1 ((seat-exact l m.0).1 m.2),
        ))
        all)

    -- and at level 0
    pub settled-bottom : (t : Trail) (o : Word) → Waits H t o → AllBegin (λ w. (t : Trail) × Waits (settled H) t w) → ⊥
    settled-bottom t o h =
        (bottom-lowest (settled H) settled-apart).0
        (λ all.
        let g = from-bottom H t o h.spells in
        let k = link_of (ground g.0) in
        cut_apart (push E) (0 ∷ []) k (g.1 ++ handed H (seat k)) (push-in E rise k g.1 g.3) (foot-own k)
        (all-as (λ w m. lowest m.0 w m.1 m.2 (lies-rooted (settled H) settled-lies m.0 w m.1).1) all))
      where
        lowest : (l : Link) (w : Word) → Has (settled H) l w → has_foot (0 ∷ []) l ≡ true
            → (l ≡ link_of (ground l.here.state))
            ⊎ ((f : Entry) × (f among (settled H).entries) × (l ≡ on l.here.state l.here.marker f.link))
            → (q : ℕ) × Has (settled H) (link_of (ground q)) w
        lowest l w h f (inl e) = (l.here.state, as-has (settled H) (entry l w) _ h e)
        lowest l w h f (inr k) =
            let d = ap (λ (l : Link). l.level) k.2 in
            let n = foot-level 0 [] l f in
            absurd (omega arith)

    -- the longest by links is the longest that waits
    pub settled-longest : 1 ≤ length H.entries → (n : ℕ)
        → (longest (settled H).entries ≤ n) ↔ ((t : Trail) (w : Word) → Waits (settled H) t w → length w ≤ n)
    settled-longest one n =
        short-longest (settled H) settled-rises settled-apart settled-lies (omega (arith, settled-length H)) n

    -- what a lower part spells, with what its top hands down, begins what waits
    handed-begins : (s t : Trail) (o : Word) → Under s t → Waits H t o
        → (v : Word) × Spells H s v × Begins (v ++ handed H (seat (link_of s))) o
    handed-begins s t o u h =
        let a = waits-sent t o h in
        let b = spells-under (settled H) s t a.0 u a.2.spells in
        let c = spells-out s b.0 b.1 in
        let d = subst (Begins (sending_from H ++ b.0)) (sym a.1) (begins-ahead (sending_from H) b.2) in
        (c.0, c.1, subst (λ (z : Word). Begins z o) c.2 d)

    -- no piece is longer, with what its pair hands down, than some waiting output
    pub pushed-bounded : (l : Link) (y : Word) → entry l y among push E
        → (t : Trail) × (o : Word) × Waits H t o × (length y ≤ length o)
    pushed-bounded l y m =
        let x = push-out E rise l y m in
        let p = lies l x.0 x.1 in
        let u = links-under l p.0 p.3 in
        let e = x.2 ∙ ap (λ (k : Link). x.0 ++ handed H (seat k)) u.2 in
        let h = as-has H (entry l x.0) (link_of u.0) x.1 u.2 in
        (p.0, p.1, p.2, go u.0 p.1 x.0 h e (handed-begins u.0 p.0 p.1 u.1 p.2))
      where
        go : (s : Trail) (o x : Word) → Has H (link_of s) x → y ≡ x ++ handed H (seat (link_of s))
            → (v : Word) × Spells H s v × Begins (v ++ handed H (seat (link_of s))) o → length y ≤ length o
        go s o x h e b =
            let z = handed H (seat (link_of s)) in
            omega (
              arith,
              piece-within H rise s b.0 x b.1 h,
              ap length e,
              ap length b.2.joins,
              length-append x z,
              length-append b.0 z,
              length-append (b.0 ++ z) b.2.rest,
            )
