-- The class of a symbol, by the byte that says it. Assumes nothing.
use mathlib.Core.Path.{◌≡◌}
use mathlib.Core.List.{List}
use Prim.Native.Nat.{ℕ, ◌+◌, ◌<◌}
use borrow.Author.Tests.{lt-ltb}
use Rattle.words.specs.LittleEndian.{byte}
use Rattle.meaning.specs.Parts.{class_count, classes_start}
use Rattle.meaning.specs.Table.{class_of}
use Rattle.table.specs.File.{class_at}

pub class-at : (file : List ℕ) (a k : ℕ) → a < class_count → k ≡ byte file (classes_start + a)
    → class_at file a ≡ class_of k
class-at file a k h e = rw (lt-ltb a class_count h, e)
