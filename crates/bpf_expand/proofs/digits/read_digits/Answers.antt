use Rattle.std.proofs.Common.{◌*◌, arith}
use Rattle.hex.proofs.Pairs.{decode_step, decode_done, decode_err}
use Rattle.bpf_expand.proofs.digits.read_digits.Goals as goal

pub bytes-preserved : goal.bytes-preserved
bytes-preserved c =
    decode_step _ _ c.bytes.i c.in-Some.byte (omega arith) (omega arith) (c.in-Some.ensures.some (2 * c.bytes.i)) c.bytes.invariant

pub returns-in_default-clause-none : goal.returns-in_default-clause-none
returns-in_default-clause-none c = λ no others e.
    let bad = c.in_default.ensures.none (2 * c.bytes.i) in
    let is = decode_err _ c.bytes.bytes c.bytes.i bad.0 (omega arith) bad.1 c.bytes.invariant in
    absurd cc

pub returns-clause-read : goal.returns-clause-read
returns-clause-read c = λ so. decode_done _ c.bytes.bytes c.bytes.i (omega arith) (omega arith) c.bytes.invariant
