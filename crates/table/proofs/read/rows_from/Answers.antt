-- `table::read::rows_from` meets its contract: all rows passed are of the symbol from the state. Assumes nothing.
use Rattle.std.proofs.Common.{rules, ◌≡◌}
use Rattle.std.proofs.lemmas.Iterator.{first_from_Range}
use borrow.Author.Tests.{tests}
use Rattle.table.specs.File.{row_at}
use Rattle.table.proofs.Symbols.{ends-at}
use Rattle.table.proofs.read.rows_from.Goals as goal

pub returns : goal.returns
returns c =
    let f = c.first_row-start.ensures in
    let at = row_at c.args.file.now in
    let a = c.args.symbol in
    let q = c.args.from in
    record {
      starts = f;
      ends =
          rw c.unwrap_or-end.ensures
          (ends-at c.args.file.now c.requires.rows c.find.result f c.row_count-n.ensures
          (first_from_Range _ _ _ c.find.result (λ k. (at k).symbol ≡ a → (at k).from ≡ q → ⊥)
          (λ k. ((at k).symbol ≡ a) × ((at k).from ≡ q)) c.find.ensures.ran (λ x q k. search (rules, tests))
          (λ x q k. search (rules, tests))));
    }
