use Rattle.std.proofs.Common.{◌≡◌, map, string_bytes, take}
use Rattle.bpf_expand.specs.Parts.{end_lines}
use Rattle.bpf_expand.proofs.calls.end_lines.Given as goal

abbrev pub invariant-loop-end : goal.invariant-loop-end
invariant-loop-end l = string_bytes l.text ≡ end_lines (map (λ v. v.items) (take l.end l.ends)) (take l.end l.numbers)
