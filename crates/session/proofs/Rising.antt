-- Links that fit and rise make a head that stands by level and has the longest waiting output of the session; first
-- bytes, level by level. Assumes nothing.
use mathlib.Core.Path.{◌≡◌, sym, ◌∙◌, ap}
use mathlib.Core.List.{List, map-map}
use Prim.Native.Nat.{ℕ, ◌+◌, ◌<◌, ◌≤◌}
use native.Mathlib.Omega.{arith}
use lib.ListN.{length}
use Rattle.words.specs.Lists.{up_to}
use Rattle.words.proofs.Lists.{map_same, get_or-byte, up_to-out}
use Rattle.words.specs.LittleEndian.{byte}
use Rattle.meaning.specs.Table.{Table}
use Rattle.table.specs.File.{table_of}
use Rattle.table.specs.Good.{first_edition, GoodFile}
use Rattle.session_meaning.specs.Soundly.{weight, longest_of, longest}
use Rattle.session_meaning.specs.Bytes.{link_start, size, link_count, link_at, entry_at, session_of}
use Rattle.session_meaning.specs.Numbers.{Lent, key_at, Links, start_of, level_of, Graded, Levelled, Common}
use Rattle.session_meaning.specs.Numbers.{weight_at, weights}
use Rattle.session_meaning.proofs.Bytes.{long}
use Rattle.session_meaning.proofs.Passed.{Heads}
use Rattle.session_meaning.proofs.ByPlace.{all-rise}
use Rattle.links.proofs.Levelled.{foot-before}

module _ {T : Table} {bytes : List ℕ} (links : Links T bytes) where
  pub graded : Lent bytes → link_count bytes ≤ 64 → byte bytes 0 ≤ 32 → Graded bytes
  graded lent few deep =
      record {
        whole = omega (arith, lent.whole);
        few = few;
        low = λ j l. omega (arith, (links.fit j l).level);
        bottom = λ j l. (links.fit j l).below;
        rise = rises;
      }
    where
      -- levels rise as links do
      rises : (i j : ℕ) → i < j → j < link_count bytes → (link_at bytes i).level ≤ (link_at bytes j).level
      rises i j lt l =
          let k = all-rise (key_at bytes) (link_count bytes) links.rise i j lt l in
          let s = get_or-byte bytes lent.small (link_start j + 1) in
          let m = get_or-byte bytes lent.small (link_start j + 2) in
          let t = get_or-byte bytes lent.small (link_start j + 3) in
          let n = get_or-byte bytes lent.small (link_start j + 4) in
          omega arith

  -- a session's entries have the lengths of its head, and so its longest
  pub longest-same : length bytes ≡ size → link_count bytes ≤ 64
      → longest_of (weights bytes) ≡ longest (session_of bytes).entries
  longest-same whole few =
      ap longest_of
      (sym
      (map-map weight (entry_at bytes) (up_to (link_count bytes))
      ∙ map_same (λ i. weight (entry_at bytes i)) (weight_at bytes) (up_to (link_count bytes))
      (λ i m.
      let l = up_to-out (link_count bytes) i m in
      let e = long bytes whole few i l (links.fit i l).short in
      λ k. record { link = link_at bytes i; bytes = e k })))

-- first bytes, from the start of a level to its end
pub heads-ended : {bytes starts : List ℕ} → Levelled bytes starts → (foot : ℕ) → {first n : ℕ} → Heads bytes foot first n
    → start_of starts (level_of foot + 1) ≤ n → Common bytes foot
heads-ended v foot {first} h le = (first, λ k l f. h.all k (omega (arith, foot-before v foot k l f)) f)

-- no table of the first edition goes deeper than 32
pub shallow : {file : List ℕ} → GoodFile first_edition file → (table_of file).depth_cap ≤ 32
unfolding table_of
shallow g = g.head.depth_cap.1
