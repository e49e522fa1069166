-- Runs, as 004, definition 1.2, and 000, definition 4, have them, and what a table allows.
use Rattle.std.specs.Prelude.{◌≡◌, cond, List, [], ◌∷◌, ◌++◌, ℕ, ◌-◌, suc, eqb}
use Rattle.words.specs.Lists.{◌among◌, each, only}
use Rattle.words.specs.Words.{Word}
use Rattle.meaning.specs.Table.{Class, unused, call, return, internal, is, Row, Table}

-- 000, definition 4, and 004, definition 1.2: a state, a stack of markers with its top first, and what was written
pub record Config : Type 0 where
  pub state : ℕ
  pub stack : List ℕ
  pub output : Word

-- a configuration, by its parts
abbrev pub config : ℕ → List ℕ → Word → Config
config q s o = record { state = q; stack = s; output = o }

-- "A call row … pushes its marker … A return row needs its marker on top and pops it. An internal row doesn't touch the
-- stack": what a row of each class with the marker `m` makes of the stack `s`
abbrev pub Shifts : Class → ℕ → List ℕ → List ℕ → Type 0
Shifts unused m s t = ⊥
Shifts call m s t = t ≡ m ∷ s
Shifts return m s t = s ≡ m ∷ t
Shifts internal m s t = t ≡ s

-- the same computed: the stacks that follow, one or none
abbrev pub shifted : Class → ℕ → List ℕ → List (List ℕ)
shifted unused m s = []
shifted call m s = (m ∷ s) ∷ []
shifted return m [] = []
shifted return m (n ∷ s) = only (eqb n m) s
shifted internal m s = s ∷ []

-- "takes a run from one state to another … and appends its word": a row of class `k`, from the configuration `c` to `d`
pub record Takes (k : Class) (r : Row) (c d : Config) : Type 0 where
  pub from : c.state ≡ r.from
  pub to : d.state ≡ r.to
  pub shifts : Shifts k r.marker c.stack d.stack
  pub writes : d.output ≡ c.output ++ r.word

-- a row of the table takes `c` to `d` on the symbol `a`
pub record Move (T : Table) (a : ℕ) (r : Row) (c d : Config) : Type 0 where
  pub row : r among T.rows
  pub reads : r.symbol ≡ a
  pub takes : Takes (T.class a) r c d

-- rows that take `c` to `e` over a message, "one row per symbol"
pub data Steps (T : Table) : Config → Word → List Row → Config → Type 0 where
  stop : {c : Config} → Steps T c [] [] c
  next : {a : ℕ} {u : Word} {r : Row} {ρ : List Row} {c d e : Config}
      → Move T a r c d → Steps T d u ρ e → Steps T c (a ∷ u) (r ∷ ρ) e

-- 000, definition 12, Ω(ρ): what rows write
abbrev pub said : List Row → Word
said ρ = each (λ r. r.word) ρ

-- "A run starts in any starting state, empty stack, empty output"
abbrev pub fresh : ℕ → Config
fresh q = config q [] []

-- "A run starts in any starting state … and takes one row per symbol": a run over `u`, where it ends and the rows it
-- took
pub record Run (T : Table) (u : Word) : Type 0 where
  pub start : ℕ
  pub rows : List Row
  pub end : Config
  pub starts : start among T.starting
  pub steps : Steps T (fresh start) u rows end

-- "It accepts when its state is final and its stack empty"
pub record Accepting (T : Table) (c : Config) : Type 0 where
  pub final : c.state among T.final
  pub empty : c.stack ≡ []

-- 004, section 1, (u, w) ∈ ⟦T⟧: some accepting run over `u` gives `w`
pub record Allowed (T : Table) (u w : Word) : Type 0 where
  pub run : Run T u
  pub accepts : Accepting T run.end
  pub gives : run.end.output ≡ w

-- how many symbols of a class a message has
abbrev pub tally : Class → Table → Word → ℕ
tally k T [] = 0
tally k T (a ∷ u) = cond (is (T.class a) k) (suc (tally k T u)) (tally k T u)

-- "Depth is calls less returns taken"
abbrev pub depth : Table → Word → ℕ
depth T u = tally call T u - tally return T u
