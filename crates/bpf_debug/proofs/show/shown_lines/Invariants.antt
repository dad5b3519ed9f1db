use Rattle.std.proofs.Common.{◌≡◌, length, map}
use Rattle.std.specs.Prelude.{string_bytes}
use Rattle.bpf_shared.specs.Store.{Plain}
use Rattle.bpf_names.specs.Names.{names_of}
use Rattle.bpf_debug.specs.Private.Naming.{OfEach}
use Rattle.bpf_debug.proofs.ShowLaws.{Completes}
use Rattle.bpf_debug.proofs.show.shown_lines.Given as goal

abbrev pub invariant-loop-register : goal.invariant-loop-register
invariant-loop-register l = record {
  count : length l.lines.items ≡ l.register;
  lines : OfEach l.store (λ (s : Plain). Completes (names_of l.names) s l.held l.register l.registers (map string_bytes l.lines.items));
}
