use Rattle.std.proofs.lemmas.Result.{IfOk-weaker}
use Rattle.bpf_buffer_expand.proofs.Stating.{turn_leads}
use Rattle.bpf_buffer_expand.proofs.expander.run_turn.Goals as goal

pub returns-clause-leads : goal.returns-clause-leads
returns-clause-leads c =
    IfOk-weaker c.run_ahead.result _ _ (λ n unseen. turn_leads c.args.machine.now c.turn.new.self c.run_ahead.new.self c.args.cpu n
    c.in_ok-turn.ensures.moves unseen) c.run_ahead.ensures.unseen
