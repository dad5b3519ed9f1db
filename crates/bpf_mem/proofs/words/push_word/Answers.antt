use Rattle.std.proofs.Common.{rules}
use Rattle.bpf_mem.specs.Saved.{word_bytes}
use Rattle.bpf_mem.proofs.words.push_word.Goals as goal

pub returns-clause-ok : goal.returns-clause-ok
unfolding word_bytes
returns-clause-ok c = search rules
