use Rattle.std.proofs.Common.{◌≡◌, ℕ, List, Some, sym, subst, map}
use Rattle.std.specs.Prelude.{true, string_bytes, option_map}
use Rattle.bpf_plain.specs.PlainStore.{has_cpu}
use Rattle.bpf_machine.specs.Machine.{MachineState, Shows}
use Rattle.bpf_machine.specs.Schedule.{World}
use Rattle.bpf_debug.specs.Command.{Last}
use Rattle.bpf_debug.specs.Origin.{CanRewind, first_of}
use Rattle.bpf_debug.specs.Watch.{watched}
use Rattle.bpf_debug.specs.Session.{SessionState, Leaves}
use Rattle.bpf_debug.proofs.SessionLaws.{can_rewound, can_still, told_last}
use Rattle.bpf_debug.proofs.session.Session.last_at.Goals as goal
use Rattle.bpf_names.specs.Names.{Names, names_of}

pub invariant_of-self : goal.invariant_of-self
invariant_of-self c =
    let I : MachineState → Type 0 = λ n. (w : World) × Shows n w × CanRewind c.self.inside.origin n in
    subst I (sym c.in_err-rewind.ensures.err) c.self.invariant

pub invariant_of-self-2 : goal.invariant_of-self-2
invariant_of-self-2 c =
    let m = c.self.inside in
    let can = c.self.invariant.2 in
    let rewound = c.rewind.new.machine in
    let C : SessionState → Type 0 = λ s. s.course ≡ Some c.requires.told.0 in
    let shows : Shows rewound can.shown.0 = subst (λ (n : MachineState). Shows n can.shown.0) (sym c.in_ok-rewind.ensures.ok) can.shown.1 in
    let t = c.recall-recall.ensures.turns c.requires.told.0 (subst C (sym c.self.view_is) c.requires.told.1) can.shown.0 shows in (
      t.0,
      t.3,
      can_still m.origin rewound c.recall-recall.new.machine c.recall-recall.ensures.same
          (can_rewound m.origin m.machine rewound c.in_ok-rewind.ensures.ok can),
    )

pub returns-clause-answered : goal.returns-clause-answered
returns-clause-answered c =
    let m = c.self.inside in
    let names : Names = names_of m.names in
    let runs = c.requires.told.0 in
    let rewound = c.rewind.new.machine in
    let n = c.recall-recall.new.machine in
    let last = string_bytes c.put_last.new.out in
    let C : SessionState → Type 0 = λ s. s.course ≡ Some runs in
    let H : SessionState → Type 0 = λ t. has_cpu t.machine.store c.args.cpu ≡ true in
    let is : m.course ≡ Some runs = subst C (sym c.self.view_is) c.requires.told.1 in
    let after : SessionState = record {
      machine = n;
      first = first_of m.origin n.programs;
      names = names;
      breaks = m.breakpoints.items;
      watch = option_map watched m.watch;
      course = m.course;
    } in
    let P : SessionState → Type 0 = λ s. Leaves s (Last (Some c.args.cpu)) last after in
    subst P c.self.view_is
    (told_last m.machine m.origin names m.breakpoints.items (option_map watched m.watch) m.course rewound n runs c.args.cpu
    c.recall-recall.result (string_bytes c.in_ok-out.out) last (subst H (sym c.self.view_is) c.requires.served) is c.in_ok-rewind.ensures.ok
    (c.recall-recall.ensures.turns runs is) c.recall-recall.ensures.same c.in_ok-out.ensures.empty c.put_last.ensures)
