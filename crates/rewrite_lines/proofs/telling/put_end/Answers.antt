-- The line of what finish answered has room.
use Rattle.std.proofs.Common.{length, take, arith}
use Rattle.std.proofs.lemmas.List.{length-take}
use Rattle.numbers.proofs.Told.{number_small}
use Rattle.rewrite_lines.proofs.Lined.{ending-room}
use Rattle.rewrite_lines.proofs.telling.put_end.Goals as goal

pub put_ending-requires : goal.put_ending-requires
put_ending-requires c =
    let ended = c.finish-answer in
    let sent = c.unwrap_or.result in
    ending-room c.number_of.result (take sent ended.new.out) (length c.args.out.now)
    (omega (arith, c.number_of.ensures, number_small ended.result))
    (omega (arith, length-take sent ended.new.out)) _ _ c.requires
