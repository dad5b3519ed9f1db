use Rattle.std.proofs.Common.{◌<◌, length, arith}
use Rattle.bpf_buffer_expand.specs.Saved.{stored_saved, IsSavable}
use Rattle.bpf_buffer_expand.proofs.Each.{none_next}
use Rattle.bpf_buffer_expand.proofs.Telling.{stored_told}
use Rattle.bpf_buffer_expand.proofs.buffers.read_all.Goals as goal

pub returns-in_default-clause-none : goal.returns-in_default-clause-none
returns-in_default-clause-none c = λ es more count savable is.
    let l = c.loop-place in
    let less : length l.found.items < length es = omega (arith, l.invariant.count, count, c.loop-place-test.true) in
    none_next stored_saved IsSavable stored_told l.found.items es c.args.bytes.now l.rest.now more less l.invariant.savable savable
    l.invariant.read c.in_default.ensures.none is
