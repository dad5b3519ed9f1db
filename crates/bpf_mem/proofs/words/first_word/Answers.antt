use Rattle.std.proofs.Common.{arith}
use Rattle.bpf_mem.proofs.WordReading.{first_back}
use Rattle.bpf_mem.proofs.words.first_word.Goals as goal

pub returns : goal.returns
returns c = first_back c.args.bytes.now c.load_double.result c.requires (λ i. let f = c.type_inv.bytes i in omega arith) c.load_double.ensures
