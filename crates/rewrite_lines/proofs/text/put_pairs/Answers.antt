-- Two digits for the byte that comes fit, and stand behind those of the bytes passed.
use Rattle.std.proofs.Common.{arith}
use Rattle.rewrite_lines.proofs.Numerals.{hex-long, hex-first, hex-next}
use Rattle.words.proofs.Puts.{appended-whole, appended-next}
use Rattle.rewrite_lines.proofs.text.put_pairs.Goals as goal

pub put_pair-end-requires : goal.put_pair-end-requires
put_pair-end-requires c =
    let bytes = c.args.bytes.now in
    let put = c.loop-byte.invariant in
    record {
      fits = omega (
        arith,
        hex-long bytes,
        hex-first bytes c.loop-byte.byte-index (omega arith),
        put.next,
        appended-whole put,
      );
    }

pub loop-byte-preserved : goal.loop-byte-preserved
loop-byte-preserved c =
    rw (hex-next c.args.bytes.now c.loop-byte.byte-index (omega arith))
    (appended-next c.loop-byte.invariant c.put_pair-end.ensures)
