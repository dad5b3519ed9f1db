use Rattle.std.proofs.Common.{◌≡◌, ℕ, List, Some, subst, String, Global}
use Rattle.std.specs.Prelude.{string_bytes}
use Rattle.std.proofs.lemmas.Result.{IfOk-weaker}
use Rattle.bpf_buffering.specs.Search.{BufferedState}
use Rattle.bpf_flushes.specs.Moves.{MakesTo}
use Rattle.bpf_debug.specs.Answer.{IsWhere}
use Rattle.bpf_buffer_debug.specs.Moves.{all_moves}
use Rattle.bpf_buffer_debug.proofs.MoveLaws.{without_text}
use Rattle.bpf_buffer_debug.proofs.session.repeat.Goals as goal

pub returns-clause-made : goal.returns-clause-made
returns-clause-made c =
    let old = c.args.album.now.machine in
    let new = c.make_runs.new.album.machine in
    let runs = c.in-Some.runs.now in
    let made = without_text old new (all_moves runs) (string_bytes c.new-out.result) (string_bytes c.make_runs.new.out) c.in_ok-make_runs.ensures.told in
    IfOk-weaker c.where_line.result (λ (t : String Global). IsWhere c.machine.result.now.machine.jobs c.args.cpu (string_bytes t))
    (λ (t : String Global). (rs : List (ℕ × ℕ)) × (c.args.course.now ≡ Some rs) × MakesTo old (all_moves rs) new
    × IsWhere new.machine.jobs c.args.cpu (string_bytes t))
    (λ t is. (runs, c.in-Some.ensures.kept, made, subst (λ (m : BufferedState). IsWhere m.machine.jobs c.args.cpu (string_bytes t)) c.machine.ensures is))
    c.where_line.ensures
