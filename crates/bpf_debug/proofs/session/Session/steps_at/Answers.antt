use Rattle.std.proofs.Common.{◌≡◌, ℕ, List, length, map, Option, sym, subst, arith}
use Rattle.std.specs.Prelude.{true, string_bytes, option_map}
use Rattle.bpf_debug.specs.Origin.{first_of}
use Rattle.bpf_debug.specs.Command.{Steps}
use Rattle.bpf_machine.specs.Schedule.{unrolled}
use Rattle.bpf_debug.specs.Course.{KeepsOn}
use Rattle.bpf_debug.specs.Watch.{watched}
use Rattle.bpf_debug.specs.Session.{SessionState, Leaves, are_cpus}
use Rattle.bpf_debug.proofs.SessionLaws.{can_still, enough, stepped_runs}
use Rattle.bpf_debug.proofs.session.Session.steps_at.Goals as goal
use Rattle.bpf_names.specs.Names.{Names, names_of}

pub take_runs-requires-clause-room : goal.take_runs-requires-clause-room
take_runs-requires-clause-room c =
    let few = enough c.self.inside.machine.jobs c.jobs.result _ c.jobs.ensures c.in_ok-out.ensures.room in
    omega (arith, few, c.in_ok-out.ensures.size)

pub invariant_of-self-2 : goal.invariant_of-self-2
invariant_of-self-2 c =
    let t = c.take_runs.ensures.made.2 c.self.invariant.0 c.self.invariant.1 in
    (t.0, t.3, can_still c.self.inside.origin c.self.inside.machine c.take_runs.new.machine c.take_runs.ensures.same c.self.invariant.2)

pub returns-clause-answered : goal.returns-clause-answered
returns-clause-answered c =
    let m = c.self.inside in
    let names : Names = names_of m.names in
    let n = c.take_runs.new.machine in
    let t = c.take_runs.ensures.made in
    let k = c.add_runs.new.self in
    let N : Option (List (ℕ × ℕ)) → Type 0 = λ h. KeepsOn h (unrolled c.args.runs.now) k in
    let last = string_bytes c.take_runs.new.out in
    let P : SessionState → Type 0 = λ s. Leaves s (Steps c.args.runs.now) last
    (record {
      machine = n;
      first = first_of m.origin n.programs;
      names = names;
      breaks = m.breakpoints.items;
      watch = option_map
          watched m.watch;
      course = k;
    }) in
    let H : SessionState → Type 0 = λ s. are_cpus (length s.machine.store.maps.runs) c.args.runs.now ≡ true in
    subst P c.self.view_is (stepped_runs m.machine m.origin names m.breakpoints.items (option_map watched m.watch) m.course n k
    c.args.runs.now (string_bytes c.in_ok-out.out) t.0 last (subst H (sym c.self.view_is) c.requires.served) c.in_ok-out.ensures.empty
    t.1 t.2 (subst N c.reserve.ensures c.add_runs.ensures) c.take_runs.ensures.same)
