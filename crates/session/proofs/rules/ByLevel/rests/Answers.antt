-- `session::rules::ByLevel::rests` meets its contract: each rule is looked at where those before it hold. Assumes
-- nothing.
use Prim.Native.Nat.{◌≤◌}
use native.Mathlib.Omega.{arith}
use Rattle.std.proofs.lemmas.Bool.Decides.{nat_tests}
use Rattle.words.specs.Lists.{Exact}
use Rattle.words.proofs.Exact.{no-exact, denied, granted}
use Rattle.table.specs.File.{table_of}
use Rattle.session_meaning.specs.Soundly.{longest}
use Rattle.session_meaning.specs.Bytes.{session_of}
use Rattle.session_meaning.specs.Numbers.{Grouped}
use Rattle.session.proofs.Rising.{longest-same}
use Rattle.session.proofs.rules.ByLevel.rests.Goals as goal
use Rattle.session.proofs.rules.ByLevel.rests.Goals.{Joined-groups, then-groups, else-groups}

-- what the first two rules say together
both : (c : Joined-groups)
    → let T = table_of c.args.file.now in
    let session = c.args.self.now.session.now in
    Exact (Grouped session × (longest (session_of session).entries ≤ T.waiting_cap)) c.if-groups.value
both c = elim c.if-groups.branch [
  | then-groups w ↦
      let is = longest-same c.requires.1 c.args.self.now.whole c.args.self.now.levelled.graded.few in
      rw w.value-is
      (λ p. grind (arith, nat_tests), λ t. (granted c.groups.ensures w.if-groups.true, grind (arith, nat_tests)))
  | else-groups w ↦ rw (w.value-is, w.if-groups.false) (no-exact (λ p. denied c.groups.ensures w.if-groups.false p.0))
]

pub returns-then-longest-waiting_cap : goal.returns-then-longest-waiting_cap
returns-then-longest-waiting_cap c =
    let b = granted (both (goal.at.returns-then-longest-waiting_cap c).Joined-groups) c.if-longest-waiting_cap.true in (
      λ s. c.unused.ensures.0 s.unused,
      λ t. record { groups = b.0; waiting = b.1; unused = c.unused.ensures.1 t },
    )

pub returns-else-longest-waiting_cap : goal.returns-else-longest-waiting_cap
returns-else-longest-waiting_cap c =
    let b = both (goal.at.returns-else-longest-waiting_cap c).Joined-groups in
    (λ s. b.0 (s.groups, s.waiting), λ t. absurd cc)
