use Rattle.std.proofs.Common.{◌≡◌, ◌≤◌, ◌++◌, drop}
use Rattle.std.specs.Io.{StartsWith}
use Rattle.bpf_mem.specs.Saved.{words_saved}
use Rattle.bpf_mem.proofs.words.save_words.Given as goal

abbrev pub invariant-loop-word : goal.invariant-loop-word
invariant-loop-word l = record {
  few : l.zeros ≤ l.word-index;
  to_come : l.out.items ++ words_saved l.zeros (drop l.word-index l.words) ≡ l.fn.out.items ++ words_saved 0 l.words;
  starts : StartsWith l.out.items l.fn.out.items;
}
