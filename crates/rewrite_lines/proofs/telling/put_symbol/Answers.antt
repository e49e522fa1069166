-- What step answered is what its line says, and the line has room.
use Rattle.std.proofs.Common.{◌≡◌, refl, sym, ◌∙◌, ℕ, true, false, length, take, arith}
use Rattle.std.proofs.lemmas.List.{length-take}
use Rattle.std.specs.declared.ops.ControlFlow.{ControlFlow}
use Rattle.words.specs.Lists.{Exact}
use Rattle.numbers.proofs.Told.{number_small, refusal-some}
use Rattle.rewrite_lines.specs.Calls.{goes_on, next_of, Told}
use Rattle.rewrite_lines.proofs.Lined.{line-most, line-room, sent-count}
use Rattle.rewrite_lines.proofs.telling.put_symbol.Goals as goal
use Rattle.rewrite_lines.proofs.telling.put_symbol.Goals.{After-put_line-next}

pub put_line-next-requires : goal.put_line-next-requires
put_line-next-requires c =
    let stepped = c.step_in-answer in
    let sent = c.unwrap_or.result in
    line-room c.args.place c.args.symbol c.number_of-number.result c.depth-depth.result
    (take sent stepped.new.out) (length c.args.out.now) (omega arith) (omega arith)
    (omega (arith, c.number_of-number.ensures, number_small stepped.result)) (omega arith)
    (omega (arith, length-take sent stepped.new.out)) _ _ c.requires

-- what is told, whichever answer says it
told : (c : After-put_line-next) (r : ControlFlow ℕ ℕ) → next_of r ≡ c.put_line-next.result
    → Exact (c.number_of-number.result ≡ 0) (goes_on r)
    → Told c.args.file.now c.args.session.now c.args.symbol c.args.out.now c.args.place c.args.text.now c.args.at r
    c.step_in-answer.new.session c.step_in-answer.new.out c.put_line-next.new.text
told c r e taken =
    let stepped = c.step_in-answer in
    let sent = c.unwrap_or.result in
    let most =
    line-most c.args.place c.args.symbol c.number_of-number.result c.depth-depth.result
    (take sent stepped.new.out) (length c.args.out.now) (omega arith) (omega arith)
    (omega (arith, c.number_of-number.ensures, number_small stepped.result)) (omega arith)
    (omega (arith, length-take sent stepped.new.out))
    in
    record {
      number = c.number_of-number.result;
      count = sent;
      stepped = rw (c.number_of-number.ensures, c.unwrap_or.ensures, sent-count stepped.result) stepped.ensures;
      taken = taken;
      short = omega (arith, e, c.put_line-next.ensures.next, most);
      put = rw e (rw c.depth-depth.ensures.0 at c.put_line-next.ensures);
    }

pub returns-in-Ok : goal.returns-in-Ok
returns-in-Ok c =
    told (goal.at.returns-in-Ok c).After-put_line-next _ refl
    (λ _. refl, λ _. rw c.in-Ok.is at c.number_of-number.ensures)

pub returns-in-Err : goal.returns-in-Err
returns-in-Err c =
    told (goal.at.returns-in-Err c).After-put_line-next _ refl (
      λ e. absurd (refusal-some c.in-Err.field-0 (sym (rw c.in-Err.is at c.number_of-number.ensures) ∙ e)),
      λ e. let bad : false ≡ true = e in cc,
    )
