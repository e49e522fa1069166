-- `join_shelf::seek` meets its contract: where the search ends is the word's place. Assumes nothing.
use Rattle.std.proofs.Common.{rules, ◌≡◌, ◌++◌}
use Rattle.words.specs.Order.{Less}
use Rattle.words.specs.Words.{Word}
use Rattle.words.proofs.Ordered.{less-self, less-trans}
use Rattle.join_shelf.specs.Shelved.{word_at}
use Rattle.join_shelf.proofs.Turns.{edge-place, found-place, told-behind, told-here, told-before}
use Rattle.join_shelf.proofs.seek.Goals as goal

pub returns : goal.returns
returns c =
    let w : Word = c.args.head.now ++ c.args.tail.now in
    record {
      found = λ at is.
          let h = rw is at c.sought.ensures.found in
          let l = h.0 in
          let post = h.1 in
          let e : w ≡ word_at c.args.room.now at = search (rules, told-here) in
          (found-place c.requires w at l e, l, e);
      missed = λ at is.
          let within = rw is at c.sought.ensures.within in
          let before = rw is at c.sought.ensures.before in
          let onward = rw is at c.sought.ensures.onward in (
            edge-place c.requires w at within
                (λ i e. let h = before i e in search (rules, told-behind))
                (λ l less.
                let h = onward l in
                let below : Less w (word_at c.args.room.now at) = search (rules, told-before) in
                less-self w (less-trans w (word_at c.args.room.now at) w below less)),
            λ l e.
                let h = onward l in
                let below : Less w (word_at c.args.room.now at) = search (rules, told-before) in
                less-self w (rw (← e) at below),
          );
    }
