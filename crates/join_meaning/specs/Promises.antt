-- What join promises, over the lists at entry and at exit, with numbers for answers; and demand 3 of its files.
use Rattle.std.specs.Prelude.{◌≡◌, ◌↔◌, List, ◌++◌, ℕ, length, drop}
use Rattle.words.specs.Words.{Word, Bytes}
use Rattle.meaning.specs.Table.{edition1}
use Rattle.meaning.specs.Runs.{Allowed}
use Rattle.meaning.specs.Joining.{joined, join_number, Through}
use Rattle.table.specs.File.{table_of}
use Rattle.table.specs.Good.{GoodFile, first_edition as edition}
use Rattle.join_meaning.specs.Laid.{file_of}

-- "1 (with 1 or 2 for the table …)": the answer that a table is bad, and which
abbrev pub Blames : ℕ → ℕ → ℕ → Type 0
Blames number which n = (number ≡ 1) × (which ≡ n)

-- the file that join writes: that of the joined table
abbrev pub joined_file : List ℕ → List ℕ → List ℕ
joined_file one two = file_of (joined (table_of one) (table_of two))

-- "Join: 1 (with 1 or 2 for the table, the first looked at first), 14, 15, 10 … A refusal gives byte count 0 and
-- changes neither session nor output … Success writes from the output's start, gives the byte count, and changes
-- nothing after it"; on answers other than 1 no table is named
pub record Joins (one two out : List ℕ) (number which count : ℕ) (out' : List ℕ) : Type 0 where
  pub good-first : (Blames number which 1 → ⊥) ↔ GoodFile edition one
  pub bad-first : Blames number which 1 ↔ (GoodFile edition one → ⊥)
  pub good-second : GoodFile edition one → (Blames number which 2 → ⊥) ↔ GoodFile edition two
  pub bad-second : GoodFile edition one → Blames number which 2 ↔ (GoodFile edition two → ⊥)
  pub otherwise : GoodFile edition one → GoodFile edition two
      → (number ≡ join_number edition1 (length out) (table_of one) (table_of two)) × (which ≡ 0)
  pub refused : (number ≡ 0 → ⊥) → (count ≡ 0) × (out' ≡ out)
  pub counted : number ≡ 0 → count ≡ length (joined_file one two)
  pub written : number ≡ 0 → out' ≡ joined_file one two ++ drop count out

-- demand 3, of the file that join wrote: it allows what the second allows on some output of the first
pub record Hopped (one two file : List ℕ) : Type 0 where
  pub good : GoodFile edition file
  pub bytes : Bytes file
  pub allows : (u w : Word) → Allowed (table_of file) u w ↔ Through (table_of one) (table_of two) u w
