use Rattle.std.proofs.Common.{◌++◌, ◌∙◌, ℕ, List, String, Global, ap, map, subst}
use Rattle.std.specs.Prelude.{string_bytes}
use Rattle.bpf_names.specs.Names.{names_of}
use Rattle.bpf_machine.specs.Schedule.{unrolled}
use Rattle.bpf_buffering.specs.Search.{move_of}
use Rattle.bpf_buffer_events.specs.Private.Told.{ArePrinted, By, LastRounds}
use Rattle.bpf_buffer_events.proofs.Histories.{history_told}
use Rattle.bpf_buffer_events.proofs.history.push_history.Goals as goal

pub returns : goal.returns
returns c w shows fresh =
    let runs = c.args.moves.now in
    let report = c.in_ok-report.report in
    let old = c.args.scene.now in
    let mid = c.make_moves.new.scene in
    let new = c.make_rounds.new.scene in
    let moves = subst (λ (ns : List (String Global)). ArePrinted (By (map move_of (unrolled runs))) (map string_bytes ns) old mid)
    c.deref.ensures.value c.in_ok-make_moves.ensures.told in
    let rounds = subst (λ (ns : List (String Global)). ArePrinted LastRounds (map string_bytes ns) mid new)
    c.deref-2.ensures.value c.in_ok-make_rounds.ensures.told in
    history_told w old mid new (names_of c.args.names.now) runs c.args.maps (string_bytes report.text)
    (string_bytes c.push_str.new.self) report.stopped shows fresh moves rounds
    c.in_ok-report.ensures (c.in_ok-push_str.ensures.bytes ∙ ap (λ (x : List ℕ). string_bytes new.text ++ x) c.as_str.ensures.value)
