-- Where joining is taken, the rule file of the joined table is good, stands for it, and demand 3 holds of it.
-- Assumes nothing.
use mathlib.Core.Path.{◌≡◌, sym, subst}
use mathlib.Core.Logic.{◌↔◌, inr}
use Prim.Native.Nat.{ℕ, ◌<◌}
use native.Mathlib.Omega.{arith}
use lib.ListN.{length}
use Rattle.words.specs.Words.{Word, Bytes}
use Rattle.meaning.specs.Table.{Table, edition1, GoodTable}
use Rattle.meaning.specs.Runs.{said, Allowed}
use Rattle.meaning.specs.Joining.{joined, join_number, Through}
use Rattle.meaning.specs.Sentences.{First, join_sentences}
use Rattle.meaning.proofs.JoinExact.{joined-exact}
use Rattle.meaning.proofs.JoinNumber.{join-exact}
use Rattle.meaning.proofs.JoinGood.{join-good}
use Rattle.table.specs.File.{table_of}
use Rattle.table.specs.Good.{first_edition, GoodFile}
use Rattle.join_meaning.specs.Laid.{file_of}
use Rattle.join_meaning.proofs.Back.{Fits, room1, table-of}
use Rattle.join_meaning.proofs.GoodFile.{good-file}
use Rattle.join_meaning.proofs.FileBytes.{file-bytes}

module _ (A B : Table) (good_a : GoodTable edition1 A) (good_b : GoodTable edition1 B)
    (room : ℕ) (taken : join_number edition1 room A B ≡ 0) where
  -- none of joining's sentences holds
  none : First (join_sentences edition1 room A B) 0
  none = (join-exact edition1 room A B 0).0 taken

  fits : Fits edition1 (joined A B)
  fits =
      record {
        room = room1;
        good = (join-good A B good_a good_b room taken).0;
        words =
            let h : 4096 < length (said (joined A B).rows) → ⊥ = λ h. none.1.0 (inr (inr (inr (inr (inr h))))) in
            omega arith;
      }

  -- check takes the file, all its numbers are bytes, and the table it stands for is the joined table
  pub joined-file : GoodFile first_edition (file_of (joined A B))
  joined-file = good-file fits

  pub joined_bytes : Bytes (file_of (joined A B))
  joined_bytes = file-bytes fits

  pub joined-table : table_of (file_of (joined A B)) ≡ joined A B
  joined-table = table-of fits

  -- demand 3: "exactly what the second allows on some output of the first"
  pub joined-allows : (u w : Word) → Allowed (table_of (file_of (joined A B))) u w ↔ Through A B u w
  joined-allows u w =
      subst (λ (T : Table). Allowed T u w ↔ Through A B u w) (sym joined-table)
      (joined-exact A B good_b (join-good A B good_a good_b room taken).1 u w)
