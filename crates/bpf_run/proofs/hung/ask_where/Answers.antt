use Rattle.std.proofs.Common.{string_bytes, rules, ◌≡◌, ◌++◌}
use Rattle.bpf_run.specs.Private.Asking.{where_line}
use Rattle.bpf_run.proofs.Asked.{one_more}
use Rattle.bpf_run.proofs.hung.ask_where.Goals as goal

pub loop-cpu-preserved : goal.loop-cpu-preserved
loop-cpu-preserved g c =
    let is : c.as_bytes.result.now ≡ where_line c.loop-cpu.cpu-counter = search rules in
    let joined : string_bytes c.push_str.new.self ≡ string_bytes c.loop-cpu.places ++ g.R.Respond.text c.answer.new.self = search rules in
    one_more g.R.Respond.answers c.loop-cpu.cpu-counter c.args.debugger.now c.loop-cpu.debugger c.answer.new.self (string_bytes c.loop-cpu.places)
    c.as_bytes.result.now (g.R.Respond.text c.answer.new.self) (string_bytes c.push_str.new.self) c.answer.result c.loop-cpu.invariant
    c.answer.ensures c.if-answer.false is joined
