use Rattle.std.proofs.Common.{◌≡◌, ℕ, List, Some, Option, sym, subst, map}
use Rattle.bpf_machine.specs.Machine.{MachineState, Shows}
use Rattle.bpf_machine.specs.Schedule.{World}
use Rattle.std.specs.Prelude.{string_bytes, option_map}
use Rattle.bpf_debug.specs.Command.{Back}
use Rattle.bpf_debug.specs.Origin.{CanRewind, first_of}
use Rattle.bpf_debug.specs.Watch.{watched}
use Rattle.bpf_debug.specs.Session.{SessionState, Leaves}
use Rattle.bpf_debug.proofs.SessionLaws.{can_rewound, can_still, went_back}
use Rattle.bpf_debug.proofs.session.Session.back_by.Goals as goal
use Rattle.bpf_names.specs.Names.{Names, names_of}

pub invariant_of-self : goal.invariant_of-self
invariant_of-self c =
    let I : MachineState → Type 0 = λ n. (w : World) × Shows n w × CanRewind c.self.inside.origin n in
    subst I (sym c.in_err-rewind.ensures.err) c.self.invariant

pub invariant_of-self-2 : goal.invariant_of-self-2
invariant_of-self-2 c =
    let m = c.self.inside in
    let can = c.self.invariant.2 in
    let rewound = c.rewind.new.machine in
    let C : SessionState → Type 0 = λ s. s.course ≡ Some c.requires.0 in
    let taken = c.take_back-cpu.ensures c.requires.0 (subst C (sym c.self.view_is) c.requires.1) in
    let shows : Shows rewound can.shown.0 = subst (λ (n : MachineState). Shows n can.shown.0) (sym c.in_ok-rewind.ensures.ok) can.shown.1 in
    let t = c.repeat.ensures.turns taken.0 taken.1 can.shown.0 shows in
    (t.0, t.2, can_still m.origin rewound c.repeat.new.machine c.repeat.ensures.same (can_rewound m.origin m.machine rewound c.in_ok-rewind.ensures.ok can))

pub returns-clause-answered : goal.returns-clause-answered
returns-clause-answered c =
    let m = c.self.inside in
    let names : Names = names_of m.names in
    let runs = c.requires.0 in
    let rewound = c.rewind.new.machine in
    let n = c.repeat.new.machine in
    let last = string_bytes c.put_where.new.out in
    let C : SessionState → Type 0 = λ s. s.course ≡ Some runs in
    let is : m.course ≡ Some runs = subst C (sym c.self.view_is) c.requires.1 in
    let taken = c.take_back-cpu.ensures runs is in
    let after : Option (List (ℕ × ℕ)) → SessionState = λ h. record {
      machine = n;
      first = first_of m.origin n.programs;
      names = names;
      breaks = m.breakpoints.items;
      watch = option_map watched
          m.watch;
      course = h;
    } in
    let H : Option (List (ℕ × ℕ)) → Type 0 = λ h. Leaves (record {
      machine = m.machine;
      first = first_of m.origin m.machine.programs;
      names = names;
      breaks = m.breakpoints.items;
      watch =
          option_map watched m.watch;
      course = m.course;
    }) (Back c.args.count) last (after h) in
    let P : SessionState → Type 0 = λ s. Leaves s (Back c.args.count) last (after c.take_back-cpu.new.self) in
    subst P c.self.view_is (subst H (sym taken.1)
    (went_back m.machine m.origin names m.breakpoints.items (option_map watched m.watch) m.course rewound n runs taken.0 c.args.count
    c.take_back-cpu.result (string_bytes c.in_ok-out.out) last is c.requires.2 c.in_ok-rewind.ensures.ok taken.2
    (c.repeat.ensures.turns taken.0 taken.1) c.repeat.ensures.same c.in_ok-out.ensures.empty c.put_where.ensures.text))
