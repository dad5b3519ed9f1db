use Rattle.std.proofs.Common.{arith}
use Rattle.bpf_debug.proofs.ReadLaws.{byte_is, byte_is_none, one_long}
use Rattle.bpf_debug.proofs.reading.own_byte.Goals as goal

pub returns-in_err-place : goal.returns-in_err-place
returns-in_err-place c =
    rw c.from_residual.ensures (byte_is_none c.args.memory.now c.args.address c.in_err-place.ensures.found)

pub returns : goal.returns
returns c = byte_is c.args.memory.now c.args.address _ c.bytes.result.now c.bytes.ensures c.in_ok-place.ensures.address

pub bounds-bytes-0 : goal.bounds-bytes-0
bounds-bytes-0 c =
    let long = one_long c.args.memory.now _ c.bytes.result.now c.bytes.ensures in
    omega (arith, long)
