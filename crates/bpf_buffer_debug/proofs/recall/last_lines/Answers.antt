use Rattle.std.proofs.Common.{ℕ, List, Option, sym, subst, String, Global}
use Rattle.std.specs.Prelude.{string_bytes}
use Rattle.std.proofs.lemmas.Result.{IfOk-weaker}
use Rattle.bpf_debug.specs.Answer.{IsWhere}
use Rattle.bpf_debug.specs.Recall.{IsLastText, IsRecall, Past}
use Rattle.bpf_debug.proofs.RecallLaws.{recalled_told}
use Rattle.bpf_debug.proofs.SessionLaws.{alone}
use Rattle.bpf_buffer_debug.proofs.RecallLaws.{where_told}
use Rattle.bpf_buffer_debug.proofs.recall.last_lines.Goals as goal

pub returns-in_ok-out-in-Some : goal.returns-in_ok-out-in-Some
returns-in_ok-out-in-Some c past is =
    let jobs = c.args.machine.now.machine.jobs in
    let old = string_bytes c.in_ok-out-in-Some.out in
    let new = string_bytes c.put_stand.new.out in
    let t = recalled_told c.args.recall c.in-Some.kept c.args.cpu old (string_bytes c.put_ended.new.out) new jobs c.in-Some.is c.put_ended.ensures.text
    c.put_stand.ensures past is in
    subst (λ (s : List ℕ). IsLastText c.args.cpu past jobs s) (sym (alone old new t.0 c.in_ok-out-in-Some.ensures.empty t.2)) t.1

pub returns-in-None : goal.returns-in-None
returns-in-None c =
    let jobs = c.args.machine.now.machine.jobs in
    IfOk-weaker c.where_line.result (λ (t : String Global). IsWhere jobs c.args.cpu (string_bytes t))
    (λ (t : String Global). (past : Option Past) → IsRecall c.args.cpu c.args.recall past → IsLastText c.args.cpu past jobs (string_bytes t))
    (λ t is. where_told c.args.recall c.args.cpu jobs (string_bytes t) c.in-None.is is) c.where_line.ensures
