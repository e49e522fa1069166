-- `join_nesting::all_known` meets its contract. Assumes nothing.
use mathlib.Core.Path.{◌≡◌}
use Prim.Native.Nat.{ℕ, ◌<◌}
use lib.ListN.{length, get_or}
use Rattle.std.proofs.Common.{rules}
use Rattle.std.proofs.iter.runs.Made.{chains}
use Rattle.words.specs.Lists.{Exact}
use Rattle.words.proofs.Lists.{get_or-among}
use Rattle.words.proofs.Exact.{exact-as}
use Rattle.meaning.specs.Table.{unused}
use Rattle.table.specs.File.{table_of}
use Rattle.join_nesting.proofs.ByRow.{known-all}
use Rattle.join_nesting.proofs.all_known.Goals as goal

pub returns : goal.returns
returns c =
    let e : Exact ((j : ℕ) → j < length c.args.word.now → (table_of c.args.second.now).class (get_or c.args.word.now j 0) ≡ unused → ⊥) c.all.result = search (rules, chains) in
    exact-as (λ f. known-all _ _ f, λ n j l. n.each _ (get_or-among _ _ 0 l)) e
