-- `session::sound` meets its contract: each rule is looked at where those before it hold. Assumes nothing.
use native.Mathlib.Omega.{arith}
use Rattle.words.proofs.Exact.{granted}
use Rattle.session_meaning.proofs.ByPlace.{by_place}
use Rattle.session_meaning.specs.Numbers.{Lent}
use Rattle.session.proofs.Rising.{graded, shallow}
use Rattle.session.proofs.sound.Goals as goal
use Rattle.session.proofs.sound.Goals.{After-count-count}

-- the bytes are those of a session
lent : (c : After-count-count) → Lent c.args.session.now
lent c = record { whole = omega arith; small = c.count-count.ensures.bytes }

pub new-requires : goal.new-requires
new-requires c = (
  omega arith,
  graded (granted c.links.ensures c.if-links.true) (lent (goal.at.new-requires c).After-count-count) (omega arith)
      (omega (arith, shallow c.requires)),
)

pub returns-then-links : goal.returns-then-links
returns-then-links c =
    let sound = by_place (lent (goal.at.returns-then-links c).After-count-count) in
    let rests = rw c.new.ensures at c.rests.ensures in (
      λ s.
          let p = sound.1 s in
          rests.0 (record { groups = p.groups; waiting = p.waiting; unused = p.unused }),
      λ t.
          let rest = rests.1 t in
          sound.0
          (record {
            depth = omega arith;
            count = (omega arith, omega arith);
            links = granted c.links.ensures c.if-links.true;
            groups = rest.groups;
            waiting = rest.waiting;
            unused = rest.unused;
          }),
    )

pub returns-else-links : goal.returns-else-links
returns-else-links c =
    let sound = by_place (lent (goal.at.returns-else-links c).After-count-count) in
    (λ s. c.links.ensures.0 (sound.1 s).links, λ t. absurd cc)
