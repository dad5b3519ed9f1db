use Rattle.std.proofs.Common.{◌≡◌, ℕ, List, Some, Option, sym, ap, subst, ◌∙◌, map, String, Global}
use Rattle.std.specs.Prelude.{true, string_bytes, option_map}
use Rattle.bpf_plain.specs.PlainStore.{Contents, has_cpu}
use Rattle.bpf_machine.specs.Machine.{MachineState, Shows}
use Rattle.bpf_machine.specs.Schedule.{World}
use Rattle.bpf_debug.specs.Command.{Show}
use Rattle.bpf_debug.specs.Origin.{CanRewind, first_of}
use Rattle.bpf_debug.specs.Watch.{watched}
use Rattle.bpf_debug.specs.Session.{SessionState, Leaves}
use Rattle.bpf_debug.specs.Recall.{IsRecall, Past}
use Rattle.bpf_debug.specs.Private.Naming.{ShowsLines}
use Rattle.bpf_debug.specs.Show.{IsBefore, changed_text}
use Rattle.bpf_debug.proofs.SessionLaws.{alone, can_rewound, can_still, told_shown}
use Rattle.bpf_debug.proofs.session.Session.show_at.Goals as goal
use Rattle.bpf_names.specs.Names.{Names, names_of}

pub invariant_of-self : goal.invariant_of-self
invariant_of-self c =
    let I : MachineState → Type 0 = λ n. (w : World) × Shows n w × CanRewind c.self.inside.origin n in
    subst I (sym c.in_err-rewind.ensures.err) c.self.invariant

pub invariant_of-self-2 : goal.invariant_of-self-2
invariant_of-self-2 c =
    let m = c.self.inside in
    let can = c.self.invariant.2 in
    let rewound = c.rewind.new.machine in
    let C : SessionState → Type 0 = λ s. s.course ≡ Some c.requires.told.0 in
    let shows : Shows rewound can.shown.0 = subst (λ (n : MachineState). Shows n can.shown.0) (sym c.in_ok-rewind.ensures.ok) can.shown.1 in
    let t = c.recall-recall.ensures.turns c.requires.told.0 (subst C (sym c.self.view_is) c.requires.told.1) can.shown.0 shows in (
      t.0,
      t.3,
      can_still m.origin rewound c.recall-recall.new.machine c.recall-recall.ensures.same
          (can_rewound m.origin m.machine rewound c.in_ok-rewind.ensures.ok can),
    )

pub returns-clause-answered : goal.returns-clause-answered
returns-clause-answered c =
    let m = c.self.inside in
    let names : Names = names_of m.names in
    let runs = c.requires.told.0 in
    let rewound = c.rewind.new.machine in
    let n = c.recall-recall.new.machine in
    let last = string_bytes c.changed.result in
    let state = c.in-Some.state.now in
    let C : SessionState → Type 0 = λ s. s.course ≡ Some runs in
    let H : SessionState → Type 0 = λ t. has_cpu t.machine.store c.args.cpu ≡ true in
    let is : m.course ≡ Some runs = subst C (sym c.self.view_is) c.requires.told.1 in
    let after : SessionState = record {
      machine = n;
      first = first_of m.origin n.programs;
      names = names;
      breaks = m.breakpoints.items;
      watch = option_map watched m.watch;
      course = m.course;
    } in
    let P : SessionState → Type 0 = λ s. Leaves s (Show (Some c.args.cpu)) last after in
    let shown = c.in_ok-shown.shown in
    let sure = c.in_ok-shown.ensures in
    let lines = map string_bytes shown.lines.items in
    let T : Contents → Type 0 = λ p. ShowsLines names p state.held 0 state.registers lines in
    let shows = subst T c.store.ensures sure.lines in
    let put : (past : Option Past) → IsRecall c.args.cpu c.recall-recall.result past → (before : List ℕ) × IsBefore c.args.cpu past before
    × (last ≡ changed_text before 0 state.registers lines) = λ past is.
    let p = c.changed.ensures c.args.cpu past is in (
      p.0,
      p.1,
      alone (string_bytes shown.room) last (changed_text p.0 0 shown.registers lines) sure.empty p.2
          ∙ ap (λ (rs : List ℕ). changed_text p.0 0 rs lines) sure.registers,
    ) in
    subst P c.self.view_is
    (told_shown m.machine m.origin names m.breakpoints.items (option_map watched m.watch) m.course rewound n runs c.args.cpu
    c.recall-recall.result state lines last (subst H (sym c.self.view_is) c.requires.served) is c.in_ok-rewind.ensures.ok
    (c.recall-recall.ensures.turns runs is) c.recall-recall.ensures.same c.in-Some.ensures.state shows put)
