use Rattle.std.proofs.Common.{◌≡◌, length, map, sym, ◌∙◌, arith}
use Rattle.std.proofs.Math.ListN.{get_or-map}
use Rattle.std.proofs.lemmas.List.{ext_get_or, length-map}
use Rattle.bpf_hash.specs.Private.Runs.{no_runs, count_of}
use Rattle.bpf_hash.proofs.table.note_runs.Goals as goal

pub returns : goal.returns
returns c =
    let runs = c.args.runs.now in
    let i = c.loop-cpu.invariant in
    let same : length c.loop-cpu.notes ≡ length runs = i.count ∙ c.requires in
    ext_get_or 0 c.loop-cpu.notes (map count_of runs) (same ∙ sym (length-map runs count_of)) (λ k l.
    i.noted k (omega arith) ∙ sym (get_or-map count_of runs k no_runs))
