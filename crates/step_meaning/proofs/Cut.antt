-- What cutting makes of entries: each loses what it and those beside it have in common. Assumes nothing.
use mathlib.Core.Path.{◌≡◌, sym, ◌∙◌, ap}
use mathlib.Core.Bool.{true}
use mathlib.Core.List.Memᴰ
use mathlib.Core.List.{List, ◌++◌, map, map-map}
use lib.ListN.{length, drop}
use Rattle.words.specs.Lists.{◌among◌}
use Rattle.words.specs.Words.{Word}
use Rattle.words.proofs.Common.{begins-drop, common-begins, common-off}
use Rattle.words.proofs.Ordered.{rises-map}
use Rattle.meaning.specs.Trails.{Link}
use Rattle.session_meaning.specs.Sessions.{RisesByLink, Entry, entry, AllBegin}
use Rattle.session_meaning.specs.Soundly.{pieces_on}
use Rattle.session_meaning.proofs.Tests.{pieces-in, pieces-out}
use Rattle.step_meaning.specs.Stepping.{foot, has_foot, base, entry_key, cut}
use Rattle.step_meaning.proofs.Feet.{foot-exact, foot-own}

-- an entry less what those beside it have in common
abbrev shorn : List Entry → Entry → Entry
shorn K e = entry e.link (drop (length (base K (foot e.link))) e.piece)

module _ (K : List Entry) where
  base-drop : (l : Link) (y : Word) → entry l y among K → base K (foot l) ++ drop (length (base K (foot l))) y ≡ y
  base-drop l y m =
      begins-drop (common-begins (pieces_on (has_foot (foot l)) K) (pieces-in (has_foot (foot l)) K l y m (foot-own l)))

  pub cut_in : (l : Link) (y : Word) → entry l y among K
      → (x : Word) × (entry l x among cut K) × (base K (foot l) ++ x ≡ y)
  cut_in l y m = (drop (length (base K (foot l))) y, Memᴰ.map (shorn K) m, base-drop l y m)

  pub cut_out : (l : Link) (x : Word) → entry l x among cut K → entry l (base K (foot l) ++ x) among K
  cut_out l x m =
      let o = Memᴰ.of_map (shorn K) K m in
      let e = base-drop o.0.link o.0.piece o.1 in
      Memᴰ.cast
      (sym (ap (λ (f : Entry). entry f.link (base K (foot f.link) ++ f.piece)) o.2)
      ∙ ap (entry o.0.link) e)
      o.1

  -- what is left of those with one foot does not all begin with one byte
  pub cut_apart : (f : Word) (k : Link) (y : Word) → entry k y among K → has_foot f k ≡ true
      → AllBegin (λ y. (l : Link) × (entry l y among cut K) × (has_foot f l ≡ true)) → ⊥
  cut_apart f k y m t all =
      common-off (pieces_on (has_foot f) K) (pieces-in (has_foot f) K k y m t) all.0
      (λ w i.
      let o = pieces-out (has_foot f) K i in
      let e = ap (λ (f : Word). entry o.0 (drop (length (base K f)) w)) ((foot-exact f o.0).1 o.2) in
      all.1 (drop (length (base K f)) w) (o.0, Memᴰ.cast (sym e) (Memᴰ.map (shorn K) o.1), o.2))

  pub cut-rises : RisesByLink K → RisesByLink (cut K)
  cut-rises = rises-map entry_key entry_key (shorn K) (λ e f h. h) K

  pub cut-links : map (λ e. e.link) (cut K) ≡ map (λ e. e.link) K
  cut-links = map-map (λ e. e.link) (shorn K) K
