use Rattle.std.proofs.Common.{◌≡◌, ◌≤◌, ◌*◌, map, drop}
use Rattle.bpf_text.specs.Private.Labels.{found}
use Rattle.bpf_text.specs.Private.Sources.{kept_view, kept_program}
use Rattle.bpf_text.proofs.TextLemmas.{behind}
use Rattle.bpf_text.proofs.assembly.program.Given as goal

abbrev pub invariant-loop-kept : goal.invariant-loop-kept
invariant-loop-kept l = record {
  meant : behind l.insns.items (kept_program (found l.labels) l.pc (map kept_view (drop l.kept-index l.lines)))
      ≡ kept_program (found l.labels) 0 (map kept_view l.lines);
  small : l.pc ≤ 2 * l.kept-index;
}
