-- Shaking: entries on which nothing stands go; what is left are the links of the moved trails. Assumes nothing.
use mathlib.Core.Path.{◌≡◌, refl, sym, ◌∙◌, ap, subst}
use mathlib.Core.Bool.{Bool, true, false, cond, false≢true}
use mathlib.Core.Logic.{◌⊎◌, inl, inr, ◌↔◌}
use mathlib.Core.List.Memᴰ
use mathlib.Core.List.{List, [], ◌∷◌, ◌++◌, map}
use Prim.Native.Nat.{ℕ, ◌<◌, ◌≤◌}
use native.Mathlib.Omega.{arith}
use lib.Dec.{ltb}
use lib.ListN.{length}
use borrow.Author.Tests.{eq-eqb}
use Rattle.words.specs.Lists.{◌among◌, each, Exact}
use Rattle.words.specs.Words.{Word}
use Rattle.words.proofs.Lists.{each_in, each-out, fewer}
use Rattle.words.proofs.Ordered.{rises-distinct, rises-append, rises-passing, rises-map}
use Rattle.words.proofs.Exact.{eqb-exact, or-exact, any-exact}
use Rattle.words.proofs.Arranged.{arranged_is}
use Rattle.meaning.specs.Table.{Table}
use Rattle.meaning.specs.Trails.{Trail, ground, over, height, Link, on, link_of, links, link_key}
use Rattle.meaning.specs.Living.{Place, moved}
use Rattle.meaning.specs.Answers.{deeper, links_of}
use Rattle.meaning.proofs.Stands.{link_key-one}
use Rattle.session_meaning.specs.Sessions.{RisesByLink, Entry, entry, Session, Has, Spells, Waits, Lies, Sound, trails}
use Rattle.session_meaning.proofs.Tests.{as-has}
use Rattle.session_meaning.proofs.Spells.{level-link_of, has-top, links-under, spells-under, TopOf, lies-spelled}
use Rattle.session_meaning.proofs.Spells.{spelled-lies}
use Rattle.session_meaning.proofs.Spells.{Stood}
use Rattle.session_meaning.proofs.Loads.{level-less}
use Rattle.step_meaning.specs.Stepping.{grow, entry_key, keep, conflict, lower, kept, carried, shake, shaken}
use Rattle.step_meaning.proofs.Feet.{seat-exact}
use Rattle.step_meaning.proofs.Keep.{Linked, keep-among, keep-old, keep-in, keep-linked, keep-rises, keep_append}
use Rattle.step_meaning.proofs.Tops.{spells-to, lower-out, lower-has, Topped, topped-to, topped-waits}
use Rattle.step_meaning.proofs.Tops.{waits-topped}
use Rattle.step_meaning.proofs.Tops.{atop-cases, tops-topped}
use Rattle.step_meaning.proofs.Grow.{Moved, moves, grow-level, grow-tops, grow-exact}

-- a link is at the depth, or one of a list stands on it
abbrev pub Carried : ℕ → Link → List Entry → Type 0
Carried n l k =
    (l.level ≡ n)
    ⊎ ((f : Entry) × (f among k) × (f.link ≡ on f.link.here.state f.link.here.marker l))

carried-exact : (n : ℕ) (l : Link) (k : List Entry) → Exact (Carried n l k) (carried n l k)
carried-exact n l k = or-exact (eqb-exact l.level n) (any-exact k (λ f m. seat-exact l f.link))

-- what stays was there, and is carried by what stays
pub shake-out : (n : ℕ) (E : List Entry) (z : Entry) → z among shake n E
    → (z among E) × Carried n z.link (shake n E)
shake-out n [] z m = elim m [ ]
shake-out n (e ∷ es) z m = go (carried n e.link (shake n es)) refl m (shake-out n es z)
  where
    wider : (l : Link) → Carried n l (shake n es) → Carried n l (e ∷ shake n es)
    wider l (inl d) = inl d
    wider l (inr h) = inr (h.0, Memᴰ.tail h.1, h.2)

    go : (b : Bool) → carried n e.link (shake n es) ≡ b → z among cond b (e ∷ shake n es) (shake n es)
        → (z among shake n es → (z among es) × Carried n z.link (shake n es))
        → (z among e ∷ es) × Carried n z.link (cond b (e ∷ shake n es) (shake n es))
    go true t (Memᴰ.head d) ih =
        (Memᴰ.head d, rw d (wider e.link ((carried-exact n e.link (shake n es)).1 t)))
    go true t (Memᴰ.tail h) ih = let r = ih h in (Memᴰ.tail r.0, wider z.link r.1)
    go false t h ih = let r = ih h in (Memᴰ.tail r.0, r.1)

-- of entries that rise, what is carried by what stays does stay: what stands on an entry comes after it
pub shake-in : (n : ℕ) (E : List Entry) → RisesByLink E → (z : Entry) → z among E → Carried n z.link (shake n E)
    → z among shake n E
shake-in n [] r z m h = elim m [ ]
shake-in n (e ∷ es) r z m h = go (carried n e.link (shake n es)) refl m h (shake-in n es r.1 z)
  where
    narrower : e.link.level ≤ z.link.level → Carried n z.link (e ∷ shake n es) → Carried n z.link (shake n es)
    narrower le (inl d) = inl d
    narrower le (inr h) = at (Memᴰ.cases_cons h.1)
      where
        at : (h.0 ≡ e) ⊎ (h.0 among shake n es) → Carried n z.link (shake n es)
        at (inl d) =
            let f = ap (λ (y : Entry). y.link.level) d in
            let g = ap (λ (k : Link). k.level) h.2 in
            absurd (omega arith)
        at (inr k) = inr (h.0, k, h.2)

    go : (b : Bool) → carried n e.link (shake n es) ≡ b → z among e ∷ es
        → Carried n z.link (cond b (e ∷ shake n es) (shake n es))
        → (z among es → Carried n z.link (shake n es) → z among shake n es)
        → z among cond b (e ∷ shake n es) (shake n es)
    go true t (Memᴰ.head d) h ih = Memᴰ.head d
    go true t (Memᴰ.tail k) h ih =
        Memᴰ.tail (ih k (narrower (level-less e.link z.link (r.0 z k)) h))
    go false t (Memᴰ.head d) h ih =
        absurd (false≢true (sym t ∙ (carried-exact n e.link (shake n es)).0 (rw d at h)))
    go false t (Memᴰ.tail k) h ih = ih k h

pub shake-rises : (n : ℕ) (E : List Entry) → RisesByLink E → RisesByLink (shake n E)
shake-rises n [] r = tt
shake-rises n (e ∷ es) r = go (carried n e.link (shake n es)) (shake-rises n es r.1)
  where
    go : (b : Bool) → RisesByLink (shake n es) → RisesByLink (cond b (e ∷ shake n es) (shake n es))
    go true s = (λ y m. r.0 y (shake-out n es y m).0, s)
    go false s = s

-- of entries that are all at the depth none goes
pub shake-top : (n : ℕ) (E : List Entry) → ((e : Entry) → e among E → e.link.level ≡ n) → shake n E ≡ E
shake-top n [] h = refl
shake-top n (e ∷ es) h =
    rw (eq-eqb e.link.level n (h e (Memᴰ.head refl)))
    (ap (λ (k : List Entry). e ∷ k) (shake-top n es (λ f m. h f (Memᴰ.tail m))))

module _ (G : Session) (rise : RisesByLink G.entries) where
  -- a trail whose top is carried is spelled as it was
  spells-shaken : (t : Trail) (w : Word) → Carried G.depth (link_of t) (shaken G).entries → Spells G t w
      → Spells (shaken G) t w
  spells-shaken (ground q) w c s = shake-in G.depth G.entries rise (entry (link_of (ground q)) w) s c
  spells-shaken (over q m t) w c s =
      let e = entry (link_of (over q m t)) s.1 in
      let h = shake-in G.depth G.entries rise e s.3 c in
      (s.0, s.1, spells-shaken t s.0 (inr (e, h, refl)) s.2, h, s.4)

  -- the full trails are as they were
  pub waits-shaken : (t : Trail) (w : Word) → Waits (shaken G) t w ↔ Waits G t w
  waits-shaken t w = (
    λ h.
        let f : (l : Link) (x : Word) → l.level ≤ height t → Has (shaken G) l x → Has G l x =
        λ l x d m. (shake-out G.depth G.entries (entry l x) m).0 in
        record { full = h.full; spells = spells-to (shaken G) G t w f h.spells },
    λ h. record { full = h.full; spells = spells-shaken t w (inl (level-link_of t ∙ h.full)) h.spells },
  )

  stood-shaken : (t : Trail) (x : Word) → Has (shaken G) (link_of t) x → height t < G.depth → Stood (shaken G) t
  stood-shaken t x h lt = go (shake-out G.depth G.entries (entry (link_of t) x) h).1
    where
      go : Carried G.depth (link_of t) (shaken G).entries → Stood (shaken G) t
      go (inl d) = absurd (omega (arith, level-link_of t))
      go (inr f) =
          let k = f.0.link in
          (k.here.state, k.here.marker, f.0.piece, as-has (shaken G) f.0 _ f.1 f.2)

  -- where each link is the top of a trail, every link that is left lies on a full one
  pub lies-shaken : ((l : Link) (x : Word) → Has G l x → TopOf G l) → Lies (shaken G)
  lies-shaken tops l x h =
      let o = shake-out G.depth G.entries (entry l x) h in
      let p = tops l x o.0 in
      let c = subst (λ (l : Link). Carried G.depth l (shaken G).entries) p.2 o.1 in
      spelled-lies (shaken G) stood-shaken l (p.0, p.1, p.2, spells-shaken p.0 p.1 c p.3, p.4)

-- a link is one of a trail that moved
abbrev pub OnMoved : Table → Session → ℕ → Link → Type 0
OnMoved T S a l = (t : Trail) × (o : Word) × Moved T (Waits S) a t o × (l among links t)

module _ (T : Table) (S : Session) (a : ℕ) (ok : Sound T S) where
  abbrev after : ℕ
  after = deeper (T.class a) S.depth

  abbrev news : List Entry
  news = keep [] (grow T S a)

  news-level : (z : Entry) → z among news → z.link.level ≡ after
  news-level z m = grow-level T S a z (keep-among (grow T S a) m)

  pub kept-rises : RisesByLink (kept T S a).entries
  kept-rises =
      rises-append entry_key (lower after S.entries) news
      (rises-passing entry_key (λ e. ltb e.link.level after) S.entries ok.rise)
      (keep-rises [] (grow T S a) tt)
      (λ e f m n. inl (omega (arith, (lower-out after S.entries m).1, news-level f n)))

  pub shaken-rises : RisesByLink (shaken (kept T S a)).entries
  shaken-rises = shake-rises after (kept T S a).entries kept-rises

  kept-tops : (l : Link) (x : Word) → Has (kept T S a) l x → TopOf (kept T S a) l
  kept-tops l x m = go (atop-cases S after news news-level l x m)
    where
      go : (Has S l x × (l.level < after)) ⊎ ((entry l x among news) × (l.level ≡ after)) → TopOf (kept T S a) l
      go (inl n) =
          let p = lies-spelled S ok.lies l x n.0 in
          let e = ap (λ (k : Link). k.level) p.2 in
          let d : height p.0 < after = omega (arith, n.1, level-link_of p.0) in
          let f : (k : Link) (y : Word) → k.level ≤ height p.0 → Has S k y → Has (kept T S a) k y =
          λ k y h. lower-has S after news k y (omega arith) in
          (p.0, p.1, p.2, spells-to S (kept T S a) p.0 p.1 f p.3, omega arith)
      go (inr n) =
          let p = grow-tops T S a ok.lies (entry l x) (keep-among (grow T S a) n.0) in
          let w = p.rest ++ x in
          let h = topped-waits S after news p.trail w (tops-topped S after news news-level x p n.0) in
          (p.trail, w, p.is, h.spells, omega (arith, h.full))

  -- every link that is left lies on a full trail
  pub shaken-lies : Lies (shaken (kept T S a))
  shaken-lies = lies-shaken (kept T S a) kept-rises kept-tops

  shaken-topped : (t : Trail) (w : Word) → Waits (shaken (kept T S a)) t w ↔ Topped S after news t w
  shaken-topped t w =
      let s = waits-shaken (kept T S a) kept-rises t w in
      (λ h. waits-topped S after news news-level t w (s.0 h), λ p. s.1 (topped-waits S after news t w p))

  grown-topped : (t : Trail) (w : Word) → Topped S after (grow T S a) t w ↔ Moved T (Waits S) a t w
  grown-topped t w =
      let N = grow T S a in
      let g = grow-exact T S a t w in
      (λ p. g.0 (topped-waits S after N t w p), λ m. waits-topped S after N (grow-level T S a) t w (g.1 m))

  shaken-moved : (t : Trail) (w : Word) → Waits (shaken (kept T S a)) t w → Moved T (Waits S) a t w
  shaken-moved t w h =
      let p = (shaken-topped t w).0 h in
      (grown-topped t w).0 (topped-to p (keep-among (grow T S a) p.new))

  -- with no conflict, the trails that are left are those that were, moved
  pub shaken-exact : conflict [] (grow T S a) ≡ false → (t : Trail) (w : Word)
      → Waits (shaken (kept T S a)) t w ↔ Moved T (Waits S) a t w
  shaken-exact c t w = (
    shaken-moved t w,
    λ m.
        let p = (grown-topped t w).1 m in
        (shaken-topped t w).1 (topped-to p (keep-in [] (grow T S a) c p.new)),
  )

  -- in any case, the links that are left are those of the moved trails
  pub shaken-links : (l : Link) → Linked (shaken (kept T S a)).entries l ↔ OnMoved T S a l
  shaken-links l = (to, fro)
    where
      to : Linked (shaken (kept T S a)).entries l → OnMoved T S a l
      to h = let p = shaken-lies l h.0 h.1 in (p.0, p.1, shaken-moved p.0 p.1 p.2, p.3)

      fro : OnMoved T S a l → Linked (shaken (kept T S a)).entries l
      fro m =
          let t = m.0 in
          let p = (grown-topped t m.1).1 m.2 in
          let k = keep-linked [] (grow T S a) (link_of t) p.piece p.new in
          let w = p.rest ++ k.0 in
          let h =
          (shaken-topped t w).1
          (record { full = p.full; rest = p.rest; piece = k.0; below = p.below; new = k.1; joined = refl }) in
          let u = links-under l t m.3 in
          let s = spells-under (shaken (kept T S a)) u.0 t w u.1 h.spells in
          let x = has-top (shaken (kept T S a)) u.0 s.0 s.1 in
          (x.0, Memᴰ.cast (λ i. entry (u.2 i) x.0) x.1)

  -- and they are listed as the links of the moved trails are
  pub shaken-listed : map (λ e. e.link) (shaken (kept T S a)).entries ≡ links_of (moved T (trails S) a)
  shaken-listed =
      arranged_is link_key link_key-one (each (λ p. links p.trail) X) (map (λ e. e.link) E)
      (rises-map entry_key link_key (λ e. e.link) (λ x y h. h) E shaken-rises)
      (λ l. (
        λ m.
            let e = Memᴰ.of_map (λ e. e.link) E m in
            let p = (shaken-links l).0 (e.0.piece, Memᴰ.cast (λ i. entry (sym e.2 i) e.0.piece) e.1) in
            each_in (λ p. links p.trail) X ((moves T S a p.0 p.1).1 p.2) p.3,
        λ m.
            let p = each-out (λ p. links p.trail) X m in
            let t = p.0.trail in
            let o = p.0.output in
            Memᴰ.map (λ e. e.link) ((shaken-links l).1 (t, o, (moves T S a t o).0 p.1, p.2)).1,
      ))
    where
      E : List Entry
      E = (shaken (kept T S a)).entries

      X : List Place
      X = moved T (trails S) a

  -- a link kept on the way is one that is left: with a 65th, the step is crowded
  pub kept-fewer : (es fs : List Entry) → grow T S a ≡ es ++ fs
      → length (keep [] es) ≤ length (shaken (kept T S a)).entries
  kept-fewer es fs e =
      let d = rises-distinct entry_key (keep [] es) (keep-rises [] es tt) in
      fewer (keep [] es) (shaken (kept T S a)).entries d stays
    where
      stays : (z : Entry) → z among keep [] es → z among (shaken (kept T S a)).entries
      stays z m =
          let i : keep (keep [] es) fs ≡ news = sym (keep_append [] es fs) ∙ ap (keep []) (sym e) in
          let n : z among news = subst (λ (k : List Entry). z among k) i (keep-old (keep [] es) fs m) in
          shake-in after (kept T S a).entries kept-rises z (Memᴰ.append_right (lower after S.entries) n)
          (inl (news-level z n))
