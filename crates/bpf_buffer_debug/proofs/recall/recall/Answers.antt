use Rattle.std.proofs.Common.{◌≡◌, ℕ, List, None, Option, Some}
use Rattle.std.proofs.lemmas.Result.{IfOk-weaker}
use Rattle.bpf_debug.specs.declared.recall.Recall.{Recall}
use Rattle.bpf_buffer_debug.specs.Moves.{all_moves}
use Rattle.bpf_buffer_debug.specs.Recall.{RecallsTo}
use Rattle.bpf_buffer_debug.proofs.recall.recall.Goals as goal

pub returns-clause-made : goal.returns-clause-made
returns-clause-made c =
    let old = c.args.album.now.machine in
    let new = c.recall_runs.new.album.machine in
    let runs = c.in-Some.runs.now in
    let Makes : List (ℕ × ℕ) → Option Recall → Type 0 = λ rs after. RecallsTo c.args.kind c.args.cpu old None (all_moves rs) new after in
    IfOk-weaker c.recall_runs.result (Makes runs)
    (λ (after : Option Recall). (rs : List (ℕ × ℕ)) × (c.args.course.now ≡ Some rs) × Makes rs after)
    (λ after made. (runs, c.in-Some.ensures.kept, made)) c.recall_runs.ensures.made
