use Rattle.std.proofs.Common.{◌≡◌, ℕ, ◌++◌, [], List, Option, subst, map}
use Rattle.std.specs.Prelude.{string_bytes, option_map}
use Rattle.bpf_debug.specs.Origin.{first_of}
use Rattle.bpf_debug.specs.Command.{Go}
use Rattle.bpf_debug.specs.Course.{KeepsOn}
use Rattle.bpf_debug.specs.Session.{SessionState, Leaves}
use Rattle.std.proofs.Common.{arith}
use Rattle.bpf_debug.specs.declared.breakpoint.Breakpoint.{Breakpoint}
use Rattle.bpf_machine.specs.Schedule.{World}
use Rattle.bpf_machine.specs.Machine.{Shows}
use Rattle.bpf_debug.specs.Go.{Goes}
use Rattle.bpf_debug.specs.Watch.{watched}
use Rattle.bpf_debug.proofs.GoLaws.{count_is}
use Rattle.bpf_debug.proofs.SessionLaws.{can_still, went, enough}
use Rattle.bpf_debug.proofs.session.Session.go.Goals as goal
use Rattle.bpf_names.specs.Names.{Names, names_of}

pub go-requires-clause-room : goal.go-requires-clause-room
go-requires-clause-room c =
    let few = enough c.self.inside.machine.jobs c.jobs.result _ c.jobs.ensures c.in_ok-out.ensures.room in
    omega (arith, few, c.in_ok-out.ensures.size)

pub invariant_of-self-2 : goal.invariant_of-self-2
invariant_of-self-2 c =
    let g = c.go.ensures.goes c.self.invariant.0 c.self.invariant.1 in
    (g.0, g.4, can_still c.self.inside.origin c.self.inside.machine c.go.new.machine c.go.ensures.same c.self.invariant.2)

pub returns-clause-answered : goal.returns-clause-answered
returns-clause-answered c =
    let m = c.self.inside in
    let names : Names = names_of m.names in
    let n = c.go.new.machine in
    let k = c.go.new.course in
    let cpus = c.cpus-cpus.result in
    let last = string_bytes c.go.new.out in
    let room = string_bytes c.in_ok-out.out in
    let P : SessionState → Type 0 = λ s. Leaves s Go last (record {
      machine = n;
      first = first_of m.origin n.programs;
      names = names;
      breaks = m.breakpoints.items;
      watch = option_map watched
          m.watch;
      course = k;
    }) in
    let G : List Breakpoint → Option (List (ℕ × ℕ)) → Type 0 = λ bs h. (w : World) → Shows m.machine w → (z : World) × (turns : List ℕ) ×
    (text : List ℕ) × Goes bs (option_map watched m.watch) 0 cpus w 0 [] turns text z × Shows n z × KeepsOn h turns k ×
    (last ≡ room ++ text) in
    let F : List Breakpoint → Type 0 = λ bs. G bs m.course in
    subst P c.self.view_is (went m.machine m.origin names m.breakpoints.items (option_map watched m.watch) m.course n k cpus room last
    c.in_ok-out.ensures.empty (count_is m.machine cpus c.cpus-cpus.ensures)
    (subst F c.deref.ensures.value (subst (G c.deref.result.now) c.reserve.ensures c.go.ensures.goes)) c.go.ensures.same)
