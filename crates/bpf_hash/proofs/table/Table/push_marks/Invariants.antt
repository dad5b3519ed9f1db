use Rattle.std.proofs.Common.{◌≡◌, ◌++◌, ◌∷◌, []}
use Rattle.bpf_hash.specs.Private.Runs.{run_of}
use Rattle.bpf_hash.specs.Private.Saved.{bit, all_below, is_linked, note_of}
use Rattle.bpf_hash.proofs.table.Table.push_marks.Given as goal

abbrev pub invariant-loop-cpu : goal.invariant-loop-cpu
invariant-loop-cpu l = l.out.items ≡ l.fn.out.items ++ bit 1 (is_linked l.self l.element) ∷ all_below
    (λ c. note_of l.self l.element c (run_of l.runs c) ∷ []) l.cpu
