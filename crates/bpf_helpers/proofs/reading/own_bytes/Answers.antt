use Rattle.bpf_mem.specs.Place.{address_of}
use Rattle.bpf_mem.proofs.ReachLemmas.{length-bytes_at}
use Rattle.bpf_helpers.proofs.reading.own_bytes.Goals as goal

pub returns-clause-count : goal.returns-clause-count
returns-clause-count c =
    length-bytes_at c.args.memory.now (address_of c.in_ok-place.place) c.args.count c.bytes.result.now c.bytes.ensures
