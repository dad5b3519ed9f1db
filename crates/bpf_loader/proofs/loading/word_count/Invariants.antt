use Rattle.std.proofs.Common.{◌≡◌, ◌≤◌, take}
use Rattle.bpf_insn.specs.Refusal.{max_words}
use Rattle.bpf_insn.specs.Table.{word_length}
use Rattle.bpf_loader.proofs.loading.word_count.Given as goal

abbrev pub invariant-loop-insn : goal.invariant-loop-insn
invariant-loop-insn l = (l.words ≡ word_length (take l.insn-index l.insns)) × (l.words ≤ max_words)
