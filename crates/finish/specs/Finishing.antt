-- What finish knows of a session once it is sound and closed, link by link.
use Rattle.std.specs.Prelude.{◌≡◌, Bool, true, false, List, ℕ, ◌<◌, Option, Some, None}
use Rattle.sets.specs.Sets.{is_in}
use Rattle.session_meaning.specs.Bytes.{link_count, link_at, piece_at}

-- the state of a link is in a set
abbrev pub final_at : ℕ → List ℕ → ℕ → Bool
final_at finals session i = is_in finals (link_at session i).here.state

-- the first link whose state is in a set
pub record FirstFinal (finals : ℕ) (session : List ℕ) (i : ℕ) : Type 0 where
  pub within : i < link_count session
  pub before : (j : ℕ) → j < i → final_at finals session j ≡ false
  pub here : final_at finals session i ≡ true

-- that link, if there is one
abbrev pub FoundFinal : ℕ → List ℕ → Option ℕ → Type 0
FoundFinal finals session (Some i) = FirstFinal finals session i
FoundFinal finals session None = (j : ℕ) → j < link_count session → final_at finals session j ≡ false

-- where the state of one link is, its piece is that of another
pub record LikeAt (finals : ℕ) (session : List ℕ) (i j : ℕ) : Type 0 where
  pub same : final_at finals session j ≡ true → piece_at session j ≡ piece_at session i

-- all links after one are like it
pub record Like (finals : ℕ) (session : List ℕ) (i : ℕ) : Type 0 where
  pub each : (j : ℕ) → i < j → j < link_count session → LikeAt finals session i j
