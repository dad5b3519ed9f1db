use Rattle.bpf_mem.specs.Place.{address_of}
use Rattle.bpf_mem.proofs.ReachLemmas.{length-bytes_at}
use Rattle.bpf_helpers.proofs.reading.read.Goals as goal

pub returns-in-Private-clause-bytes : goal.returns-in-Private-clause-bytes
returns-in-Private-clause-bytes g c =
    length-bytes_at c.args.memory.now (address_of c.in-Private.place) c.args.count c.bytes.result.now c.bytes.ensures
