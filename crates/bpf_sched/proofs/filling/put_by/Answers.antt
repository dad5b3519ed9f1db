use Rattle.std.proofs.Common.{◌≡◌, ◌≢◌, List, [], ◌++◌, map, ap, sym, ◌∙◌, arith}
use Rattle.bpf_shared.specs.declared.events.Event.{Event}
use Rattle.hop_map.specs.Port.{own_events}
use Rattle.hop_cpu.specs.Serving.{Serving}
use Rattle.bpf_shared.specs.History.{events_of}
use Rattle.bpf_pairs.specs.Pairs.{pair_of}
use Rattle.bpf_pairs.specs.Putting.{first_history, run_events}
use Rattle.bpf_sched.proofs.Porting.{moves_on}
use Rattle.bpf_sched.proofs.FirstRun.{own_run, other_run}
use Rattle.bpf_sched.proofs.filling.put_by.Goals as goal

pub returns-then-cpu-ne0-clause-put : goal.returns-then-cpu-ne0-clause-put
returns-then-cpu-ne0-clause-put g c =
    let number = c.cpu-cpu.ensures in
    let not_first = c.if-cpu-ne0.true in
    let other : c.args.port.known.cpu ≢ 0 = λ zero. absurd (omega (arith, number, not_first)) in
    c.requires.new ∙ sym (other_run c.args.port.known.cpu (run_events (map pair_of c.args.pairs.now)) other)

pub returns-clause-put : goal.returns-clause-put
returns-clause-put g c =
    let ps = map pair_of c.args.pairs.now in
    let x = c.new-store.result in
    let y = c.put_pairs.new.shared in
    let cpu = c.cpu-cpu.result in
    let port = c.new-store.ensures.port in
    let first : c.args.port.known.cpu ≡ 0 = sym c.cpu-cpu.ensures ∙ c.if-cpu-ne0.false in
    let moved = moves_on (λ (s : Serving). s) c.args.table.now cpu [] x y (run_events ps)
    (c.new-store.ensures.table, ap (λ p. p.known.cpu) port ∙ sym c.cpu-cpu.ensures) (c.put_pairs.ensures.put c.if-not-put_pairs.false) in
    ap own_events c.into_port.ensures.port
    ∙ (moved.1 ∙ (ap (λ (l : List Event). l ++ run_events ps) (ap own_events port ∙ c.requires.new)
    ∙ (sym (own_run (run_events ps)) ∙ ap (λ k. events_of k (first_history ps)) (sym first))))
