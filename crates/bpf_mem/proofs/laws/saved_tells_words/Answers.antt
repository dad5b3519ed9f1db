use Rattle.bpf_mem.proofs.WordLemmas.{words_prefix}
use Rattle.bpf_mem.proofs.laws.saved_tells_words.Goals as goal

pub returns : goal.returns
returns c = words_prefix 0
