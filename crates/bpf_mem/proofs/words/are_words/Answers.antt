use Rattle.std.proofs.Common.{arith}
use Rattle.std.proofs.lemmas.List.Elements.{All-from_get_or}
use Rattle.bpf_mem.specs.Saved.{IsWord}
use Rattle.bpf_mem.proofs.words.are_words.Goals as goal

pub returns : goal.returns
returns c = All-from_get_or IsWord c.args.words.now 0 (λ i within. omega (arith, c.type_inv.words i))
