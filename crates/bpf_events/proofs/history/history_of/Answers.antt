use Rattle.std.proofs.Common.{◌∙◌, ◌++◌, List, ℕ, String, Global, map, ap, subst}
use Rattle.std.specs.Prelude.{string_bytes}
use Rattle.bpf_names.specs.Names.{names_of}
use Rattle.bpf_machine.specs.Schedule.{unrolled}
use Rattle.bpf_events.specs.Private.Told.{AreTold, SomeRounds, Turns}
use Rattle.bpf_events.proofs.Histories.{history_told}
use Rattle.bpf_events.proofs.history.history_of.Goals as goal

pub make_rounds-requires-clause-shows : goal.make_rounds-requires-clause-shows
make_rounds-requires-clause-shows c =
    let r = c.in_ok-make_turns.ensures.told c.requires.shows.0 c.requires.shows.1 in
    (r.0, r.3)

pub returns : goal.returns
returns c w shows =
    let start = string_bytes c.new-text.result in
    let between = string_bytes c.make_turns.new.text in
    let later = string_bytes c.make_rounds.new.text in
    let old = c.args.machine.now in
    let mid = c.make_turns.new.machine in
    let new = c.make_rounds.new.machine in
    let report = c.in_ok-report.report in
    let turns = subst (λ (ns : List (String Global)). AreTold (Turns (unrolled c.args.schedule.now)) (map string_bytes ns) old start mid
    between) c.deref.ensures.value c.in_ok-make_turns.ensures.told in
    let rounds = subst (λ (ns : List (String Global)). AreTold SomeRounds (map string_bytes ns) mid between new later)
    c.deref-2.ensures.value c.in_ok-make_rounds.ensures.told in
    history_told w old mid new (names_of c.args.names.now)
    c.args.schedule.now c.args.maps start between later (string_bytes report.text) (string_bytes c.push_str.new.self) report.stopped shows
    c.new-text.ensures.bytes
    turns rounds c.in_ok-make_rounds.ensures.ended c.in_ok-report.ensures
    (c.in_ok-push_str.ensures.bytes ∙ ap (λ (x : List ℕ). later ++ x) c.as_str.ensures.value)
