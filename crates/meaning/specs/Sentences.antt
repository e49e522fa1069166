-- The sentences of "Numbers given back" as statements about the runs over a message `u`, and over one symbol more.
use Rattle.std.specs.Prelude.{◌≡◌, cond, ◌⊎◌, ◌↔◌, List, [], ◌∷◌, ◌++◌, ℕ, ◌<◌, eqb, length}
use Rattle.words.specs.Lists.{◌among◌}
use Rattle.words.specs.Words.{Word, Begins}
use Rattle.words.specs.Order.{Rises}
use Rattle.meaning.specs.Table.{unused, call, return, Row, Table, Limits}
use Rattle.meaning.specs.Runs.{said, Run, Accepting, Allowed, depth}
use Rattle.meaning.specs.Trails.{trail, Link, links, link_key}
use Rattle.meaning.specs.Answers.{links_cap}
use Rattle.meaning.specs.Nesting.{Nests}
use Rattle.meaning.specs.Joining.{joined, file_size}

-- a row of the table "Numbers given back": a number, and "Exactly when" as a statement
pub record Sentence : Type 1 where
  pub number : ℕ
  pub holds : Type 0

-- such a row, by its parts
abbrev pub sentence : ℕ → Type 0 → Sentence
sentence n P = record { number = n; holds = P }

-- "The first that applies is given": the number `n` has its sentence hold and none before; 0 Taken has none hold at all
abbrev pub First : List Sentence → ℕ → Type 0
First [] n = n ≡ 0
First (s ∷ l) n = cond (eqb n s.number) s.holds ((s.holds → ⊥) × First l n)

-- demand 2: `z` is the longest common beginning of the outputs of all runs over `u`
pub record Agreed (T : Table) (u z : Word) : Type 0 where
  pub begins : (r : Run T u) → Begins z r.end.output
  pub longest : (x : Word) → ((r : Run T u) → Begins x r.end.output) → Begins x z

-- "those in the trails of its runs, each counted once": `L` are the links of the runs over `u`, in a session's order
pub record Linked (T : Table) (u : Word) (L : List Link) : Type 0 where
  pub rise : Rises link_key L
  pub exact : (l : Link) → (l among L) ↔ ((r : Run T u) × (l among links (trail r)))

-- "more than 64 links would follow"
abbrev pub Crowded : Table → Word → Type 0
Crowded T u = (L : List Link) × Linked T u L × (links_cap < length L)

-- "two runs would have one trail and different outputs"
abbrev pub Conflict : Table → Word → Type 0
Conflict T u = (r : Run T u) × (s : Run T u) × (trail r ≡ trail s) × (r.end.output ≡ s.end.output → ⊥)

-- "after sending, some run would have more waiting than the cap": `z`, all that can be, was sent, and `w` waits
abbrev pub Backlog : Table → Word → Type 0
Backlog T u =
    (z : Word) × Agreed T u z × (r : Run T u) × (w : Word) × (r.end.output ≡ z ++ w) × (T.waiting_cap < length w)

-- "the lent output is too short for what must be written": `y` must be, where `z` was sent before
abbrev pub NoRoom : Table → Word → Word → ℕ → Type 0
NoRoom T u v room = (z : Word) × (y : Word) × Agreed T u z × Agreed T v (z ++ y) × (room < length y)

-- "Step: 1 to 10", of a message `u` that was taken and the symbol `a`: 1 and 2 are of the file and the bytes
abbrev pub step_sentences : Table → ℕ → Word → ℕ → List Sentence
step_sentences T room u a =
    let v = u ++ a ∷ [] in
    sentence 3 (T.class a ≡ unused)
    ∷ sentence 4 ((T.class a ≡ return) × (depth T u ≡ 0))
    ∷ sentence 5 ((T.class a ≡ call) × (depth T u ≡ T.depth_cap))
    ∷ sentence 6 (Run T v → ⊥)
    ∷ sentence 7 (Crowded T v)
    ∷ sentence 8 (Conflict T v)
    ∷ sentence 9 (Backlog T v)
    ∷ sentence 10 (NoRoom T u v room)
    ∷ []

-- "finish, two accepting runs differ in output"
abbrev pub Ambiguous : Table → Word → Type 0
Ambiguous T u =
    (r : Run T u) × (s : Run T u) × Accepting T r.end × Accepting T s.end × (r.end.output ≡ s.end.output → ⊥)

-- "Finish: 1, 2, 11, 12, 13, 10", of a message `u` that was taken
abbrev pub finish_sentences : Table → ℕ → Word → List Sentence
finish_sentences T room u =
    sentence 11 (0 < depth T u)
    ∷ sentence 12 ((r : Run T u) → r.end.state among T.final → ⊥)
    ∷ sentence 13 (Ambiguous T u)
    ∷ sentence 10 ((z : Word) × (w : Word) × Agreed T u z × Allowed T u (z ++ w) × (room < length w))
    ∷ []

-- `w` is allowed, and nothing else is: what finish accepts with
pub record Only (T : Table) (u w : Word) : Type 0 where
  pub allowed : Allowed T u w
  pub alone : (v : Word) → Allowed T u v → v ≡ w

-- "a word of the first is over 16 bytes"; "a joined word over 255 bytes"
abbrev pub LongWord : ℕ → Table → Type 0
LongWord n T = (r : Row) × (r among T.rows) × (n < length r.word)

-- "TooLarge exactly when: a word of the first is over 16 bytes; states over 64; markers over 64; rows over 256; a
-- joined word over 255 bytes; or the words together over 4,096"
abbrev pub TooLarge : Limits → Table → Table → Type 0
TooLarge L A B =
    let J = joined A B in
    LongWord 16 A
    ⊎ (L.states < J.states)
    ⊎ (L.markers < J.markers)
    ⊎ (L.rows < length J.rows)
    ⊎ LongWord L.word J
    ⊎ (L.words < length (said J.rows))

-- "Join: 1 …, 14, 15, 10", of two good tables
abbrev pub join_sentences : Limits → ℕ → Table → Table → List Sentence
join_sentences L room A B =
    sentence 14 (Nests B.class A → ⊥)
    ∷ sentence 15 (TooLarge L A B)
    ∷ sentence 10 (room < file_size (joined A B))
    ∷ []
