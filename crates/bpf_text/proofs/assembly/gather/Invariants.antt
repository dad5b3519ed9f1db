use Rattle.std.proofs.Common.{◌≤◌, ◌*◌, map, vec_len}
use Rattle.std.specs.Option.{option_copied}
use Rattle.bpf_text.specs.Private.Labels.{found}
use Rattle.bpf_text.specs.Symbols.{names_in}
use Rattle.bpf_text.specs.Private.Sources.{kept_view}
use Rattle.bpf_lines.specs.Lines.{rest_size}
use Rattle.bpf_text.proofs.TextLemmas.{Gathered}
use Rattle.bpf_text.proofs.assembly.gather.Given as goal

abbrev pub invariant-text : goal.invariant-text
invariant-text l = record {
  lines : Gathered (names_in l.symbols) l.text (option_copied l.rest) (found l.labels) l.line l.pc l.refused (map kept_view l.kept.items);
  small : l.pc ≤ 2 * vec_len l.kept;
}

abbrev pub decreases-text : goal.decreases-text
decreases-text l = rest_size (option_copied l.rest)
