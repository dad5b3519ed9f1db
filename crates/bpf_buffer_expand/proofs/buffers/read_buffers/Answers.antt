use Rattle.std.proofs.Common.{◌≡◌, ◌∙◌, ◌<◌, length, map, arith}
use Rattle.std.proofs.lemmas.List.{length-map}
use Rattle.bpf_plain.proofs.Options.{at_none}
use Rattle.bpf_buffering.proofs.Waits.{items_of}
use Rattle.bpf_buffer_expand.specs.Saved.{buffer_saved, AreSavable}
use Rattle.bpf_buffer_expand.proofs.Each.{none_next}
use Rattle.bpf_buffer_expand.proofs.Telling.{buffer_told}
use Rattle.bpf_buffer_expand.proofs.buffers.read_buffers.Goals as goal

pub returns-in_default-clause-none : goal.returns-in_default-clause-none
returns-in_default-clause-none c = λ others more count savable is.
    let l = c.loop-cpu in
    let many : length (map items_of l.found.items) ≡ l._cpu = length-map l.found.items items_of ∙ l.invariant.count in
    let less : length (map items_of l.found.items) < length others = omega (arith, many, count, c.loop-cpu-test.true) in
    none_next buffer_saved AreSavable buffer_told (map items_of l.found.items) others c.args.bytes.now l.rest.now more less l.invariant.savable savable
    l.invariant.read (at_none _ _ c.in_default.is c.in_ok-buffer.ensures.none) is
