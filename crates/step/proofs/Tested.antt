-- The number of a step, test by test: the first that passes gives it. Assumes nothing.
use mathlib.Core.Path.{◌≡◌, ◌∙◌}
use mathlib.Core.Bool.{true, false, cond}
use mathlib.Core.List.{[]}
use Prim.Native.Nat.{ℕ, ◌<◌, ◌≤◌}
use lib.Dec.{ltb}
use lib.ListN.{length}
use borrow.Author.Tests.{lt-ltb, le-ltb}
use Rattle.words.specs.Lists.{is_empty}
use Rattle.meaning.specs.Table.{Table}
use Rattle.meaning.specs.Answers.{links_cap}
use Rattle.session_meaning.specs.Sessions.{Session}
use Rattle.session_meaning.specs.Soundly.{longest}
use Rattle.step.specs.Tests.{Open}
use Rattle.step_meaning.specs.Stepping.{grow, kept, shaken, conflict, stepped, sent, link_number}

module _ (T : Table) (S : Session) (a : ℕ) where
  -- something moves; then: the links are few; none clash; the waiting outputs are short
  pub record Moves : Type 0 where
    pub open-to : Open T S a
    pub some : is_empty (grow T S a) ≡ false

  pub record Fits : Type 0 where
    pub moves : Moves
    pub few : length (shaken (kept T S a)).entries ≤ links_cap

  pub record Agrees : Type 0 where
    pub fits : Fits
    pub one : conflict [] (grow T S a) ≡ false

  pub record Waits : Type 0 where
    pub agrees : Agrees
    pub short : longest (stepped T S a).entries ≤ T.waiting_cap

  module _ (room : ℕ) where
    pub no_run : Open T S a → is_empty (grow T S a) ≡ true → link_number T room S a ≡ 6
    no_run o e = rw (o.known, o.opened, o.shallow, e)

    pub crowded : Moves → links_cap < length (shaken (kept T S a)).entries → link_number T room S a ≡ 7
    crowded m l =
        let o = m.open-to in
        rw (o.known, o.opened, o.shallow, m.some, lt-ltb links_cap (length (shaken (kept T S a)).entries) l)

    few-test : Fits → ltb links_cap (length (shaken (kept T S a)).entries) ≡ false
    few-test f = le-ltb links_cap (length (shaken (kept T S a)).entries) f.few

    -- what is left to ask, where the links are few; where none clash; where the waiting outputs are short
    from-8 : Fits
        → link_number T room S a
        ≡ cond (conflict [] (grow T S a)) 8
        (cond (ltb T.waiting_cap (longest (stepped T S a).entries)) 9 (cond (ltb room (length (sent T S a))) 10 0))
    from-8 f =
        let m = f.moves in
        let o = m.open-to in
        rw (o.known, o.opened, o.shallow, m.some, few-test f)

    from-9 : Agrees
        → link_number T room S a
        ≡ cond (ltb T.waiting_cap (longest (stepped T S a).entries)) 9 (cond (ltb room (length (sent T S a))) 10 0)
    from-9 g = from-8 g.fits ∙ rw g.one

    from-10 : Waits → link_number T room S a ≡ cond (ltb room (length (sent T S a))) 10 0
    from-10 w = from-9 w.agrees ∙ rw (le-ltb T.waiting_cap (longest (stepped T S a).entries) w.short)

    pub conflicting : Fits → conflict [] (grow T S a) ≡ true → link_number T room S a ≡ 8
    conflicting f e = from-8 f ∙ rw e

    pub backlog : Agrees → T.waiting_cap < longest (stepped T S a).entries → link_number T room S a ≡ 9
    backlog g l = from-9 g ∙ rw (lt-ltb T.waiting_cap (longest (stepped T S a).entries) l)

    pub no_room : Waits → room < length (sent T S a) → link_number T room S a ≡ 10
    no_room w l = from-10 w ∙ rw (lt-ltb room (length (sent T S a)) l)

    pub taken : Waits → length (sent T S a) ≤ room → link_number T room S a ≡ 0
    taken w l = from-10 w ∙ rw (le-ltb room (length (sent T S a)) l)
