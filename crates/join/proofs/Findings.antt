-- What a reading finds, row by row: the rows of the word's first byte, and the readings that go on from there. Assumes
-- nothing.
use mathlib.Core.Path.{◌≡◌, refl, sym, ◌∙◌, ap}
use mathlib.Core.Bool.{Bool, true, false, cond}
use mathlib.Core.Logic.{◌↔◌}
use mathlib.Core.List.{List, [], ◌∷◌, append-nil}
use Prim.Native.Nat.{ℕ, suc, ◌-◌, ◌<◌, ◌≤◌}
use native.Mathlib.Omega.{arith}
use borrow.Author.Tests.{eq-eqb, ne_eqb, eqb-true}
use lib.Dec.{eqb}
use lib.ListN.{length, get_or, take, drop}
use lib.Seq.{take_all}
use Rattle.words.specs.Lists.{◌among◌, each, up_to}
use Rattle.words.specs.Words.{Word}
use Rattle.words.proofs.Lists.{each_in, each-out, each_map}
use Rattle.words.proofs.Each.{each-each}
use Rattle.meaning.specs.Table.{Class, Row}
use Rattle.meaning.specs.Runs.{Config, Steps}
use Rattle.meaning.specs.Joining.{after_row, endings}
use Rattle.meaning.proofs.Reading.{endings-exact}
use Rattle.table.specs.File.{row_count, row_at, table_of}
use Rattle.table.specs.Calls.{FirstRow}
use Rattle.table.proofs.Symbols.{none_before}
use Rattle.table.proofs.Stands.{rows-of}
use Rattle.join_shelf.specs.Shelved.{Gathers}
use Rattle.std.specs.Prelude.{Option, None}
use Rattle.join_shelf.specs.declared.Stock.{Stock}
use Rattle.join_nesting.proofs.ByRow.{row-among}
use Rattle.join.specs.Reading.{keys_of, Suited, findings, findings_of}
use Rattle.join.specs.declared.reading.Goal.{Goal}
use Rattle.join.proofs.Passing.{Passing, passing-start, passing-skip, passing-out}

-- what goes on by row `r` of the file, where it has the symbol
abbrev pub by_row : List ℕ → List Word → Goal → ℕ → Word → Config → ℕ → List Word
by_row second marks goal a word c r =
    findings_of second marks goal word
    (cond (eqb (row_at second r).symbol a) (after_row ((table_of second).class a) (row_at second r) c) [])

module _ (second : List ℕ) (marks : List Word) (goal : Goal) where
  -- "the second table reads the word …, branching": what is found are the keys of its runs' endings, and no others
  pub findings-exact : (w : Word) (c : Config) (key : Word)
      → (key among findings second marks goal w c)
      ↔ ((e : Config) × ((ρ : List Row) × Steps (table_of second) c w ρ e) × (key among keys_of marks goal e))
  unfolding findings
  findings-exact w c key = (
    λ m.
        let x = each-out (keys_of marks goal) (endings (table_of second) w c) m in
        (x.0, (endings-exact (table_of second) w c x.0).0 x.1, x.2),
    λ x.
        each_in (keys_of marks goal) (endings (table_of second) w c) ((endings-exact (table_of second) w c x.0).1 x.1)
        x.2,
  )

  -- at the end of the word
  pub findings-end : (w : Word) (c : Config) → length w ≡ 0 → keys_of marks goal c ≡ findings second marks goal w c
  unfolding findings
  findings-end [] c e = sym (append-nil (keys_of marks goal c))
  findings-end (a ∷ w) c e = absurd (omega arith)

  pub suited-end : (w : Word) (c : Config) → length w ≡ 0 → Suited marks goal (endings (table_of second) w c)
      → Suited marks goal (c ∷ [])
  suited-end [] c e h = h
  suited-end (a ∷ w) c e h = absurd (omega arith)

  -- from one configuration
  pub findings-one : (w : Word) {l : List Config} {d : Config} → l ≡ d ∷ []
      → findings second marks goal w d ≡ findings_of second marks goal w l
  findings-one w {d = d} e =
      sym (ap (findings_of second marks goal w) e ∙ append-nil (findings second marks goal w d))

  pub suited-from : (w : Word) {l : List Config} {d : Config} → l ≡ d ∷ []
      → Suited marks goal (each (endings (table_of second) w) l) → Suited marks goal (endings (table_of second) w d)
  suited-from w {d = d} e h = rw (e, append-nil (endings (table_of second) w d)) at h

  module _ (a : ℕ) (v : Word) (c : Config) where
    abbrev step : Row → List Config
    step r = cond (eqb r.symbol a) (after_row ((table_of second).class a) r c) []

    -- by a row that has the symbol; nothing by another, or from another state
    pub by-class : (r : ℕ) {k : Class} {d : Config} → k ≡ (table_of second).class a → (row_at second r).symbol ≡ a → d ≡ c
        → findings_of second marks goal v (after_row k (row_at second r) d) ≡ by_row second marks goal a v c r
    by-class r e s f = rw (e, f, eq-eqb (row_at second r).symbol a s) refl

    by-other : (r : ℕ) → ((row_at second r).symbol ≡ a → (row_at second r).from ≡ c.state → ⊥)
        → by_row second marks goal a v c r ≡ []
    by-other r f = ap (findings_of second marks goal v) (go (eqb (row_at second r).symbol a) refl)
      where
        go : (b : Bool) → eqb (row_at second r).symbol a ≡ b
            → cond b (after_row ((table_of second).class a) (row_at second r) c) [] ≡ []
        go true e =
            rw (ne_eqb c.state (row_at second r).from (λ h. f (eqb-true (row_at second r).symbol a e) (sym h))) refl
        go false e = refl

    -- all rows
    by_rows : each (by_row second marks goal a v c) (up_to (row_count second)) ≡ findings second marks goal (a ∷ v) c
    unfolding findings
    by_rows =
        sym
        (each-each (keys_of marks goal) (λ r. each (endings (table_of second) v) (step r)) (table_of second).rows
        ∙ (λ i. each (λ r. each-each (keys_of marks goal) (endings (table_of second) v) (step r) i) (rows-of second i))
        ∙ each_map (λ r. findings_of second marks goal v (step r)) (row_at second) (up_to (row_count second)))

    pub rows_start : {r : ℕ} {room : List ℕ} {s : Option Stock} → FirstRow second a c.state r
        → Passing (by_row second marks goal a v c) room s r room s
    rows_start {r} f =
        passing-skip passing-start r (omega arith) (λ k l m. by-other k (none_before f k m))

    pub rows_end : {w : Word} {r : ℕ} {room room' : List ℕ} {s s' : Option Stock} → w ≡ a ∷ v
        → Passing (by_row second marks goal a v c) room s r room' s' → r ≤ row_count second
        → ((k : ℕ) → r ≤ k → k < row_count second → (row_at second k).symbol ≡ a → (row_at second k).from ≡ c.state → ⊥)
        → Gathers (findings second marks goal w c) room s s' room'
    rows_end e p l h =
        rw (e, ← by_rows) (passing-skip p (row_count second) l (λ k m n. by-other k (h k m n))).made

    pub rows_out : {w : Word} {r : ℕ} {room room' : List ℕ} {s : Option Stock} → w ≡ a ∷ v
        → Passing (by_row second marks goal a v c) room s r room' None → r ≤ row_count second
        → Gathers (findings second marks goal w c) room s None room'
    rows_out e p l = rw e (passing-out p (row_count second) l by_rows)

    -- what is asked of all endings is asked of those by a row
    pub suited-row : {w : Word} → w ≡ a ∷ v → (r : ℕ) → r < row_count second → {k : Class} {d : Config}
        → k ≡ (table_of second).class a → (row_at second r).symbol ≡ a → d ≡ c
        → Suited marks goal (endings (table_of second) w c)
        → Suited marks goal (each (endings (table_of second) v) (after_row k (row_at second r) d))
    suited-row is r l e s f h =
        rw (e, f)
        (record {
          each = λ z m.
              rw is at h.each z
              (each_in (λ x. each (endings (table_of second) v) (step x)) (table_of second).rows (row-among second r l)
              (rw (eq-eqb (row_at second r).symbol a s) m));
        })

-- a word that is not empty, by its first byte
pub word_first : (w : Word) → 0 < length w → w ≡ get_or w 0 0 ∷ take (length w - 1) (drop 1 w)
word_first [] l = elim l [ ]
word_first (x ∷ w) l = ap (λ (v : Word). x ∷ v) (sym (take_all (suc (length w) - 1) w (omega arith)))
