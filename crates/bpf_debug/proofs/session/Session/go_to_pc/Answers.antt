use Rattle.std.proofs.Common.{◌≡◌, ℕ, ◌++◌, [], ◌∷◌, List, Option, Some, sym, subst, map, arith}
use Rattle.std.specs.Prelude.{true, string_bytes, option_map}
use Rattle.bpf_plain.specs.PlainStore.{has_cpu}
use Rattle.bpf_machine.specs.Schedule.{World}
use Rattle.bpf_machine.specs.Machine.{Shows}
use Rattle.bpf_debug.specs.Origin.{first_of}
use Rattle.bpf_debug.specs.Command.{GoTo}
use Rattle.bpf_debug.specs.Course.{KeepsOn}
use Rattle.bpf_debug.specs.Go.{Goes}
use Rattle.bpf_debug.specs.Watch.{watched}
use Rattle.bpf_debug.specs.Session.{SessionState, Leaves, IsPc}
use Rattle.bpf_debug.proofs.SessionLaws.{can_still, went_to, enough}
use Rattle.bpf_debug.proofs.session.Session.go_to_pc.Goals as goal
use Rattle.bpf_names.specs.Names.{Names, names_of}

pub go-requires-clause-room : goal.go-requires-clause-room
go-requires-clause-room c =
    let few = enough c.self.inside.machine.jobs c.jobs.result _ c.jobs.ensures c.in_ok-out.ensures.room in
    omega (arith, few, c.in_ok-out.ensures.size)

pub invariant_of-self-2 : goal.invariant_of-self-2
invariant_of-self-2 c =
    let g = c.go.ensures.goes c.self.invariant.0 c.self.invariant.1 in
    (g.0, g.4, can_still c.self.inside.origin c.self.inside.machine c.go.new.machine c.go.ensures.same c.self.invariant.2)

pub returns-clause-answered : goal.returns-clause-answered
returns-clause-answered c =
    let m = c.self.inside in
    let names : Names = names_of m.names in
    let n = c.go.new.machine in
    let k = c.go.new.course in
    let cpu = c.args.cpu in
    let pc = c.args.pc in
    let last = string_bytes c.go.new.out in
    let room = string_bytes c.in_ok-out.out in
    let P : SessionState → Type 0 = λ s. Leaves s (GoTo (Some cpu) (Some pc)) last
    (record {
      machine = n;
      first = first_of m.origin n.programs;
      names = names;
      breaks = m.breakpoints.items;
      watch = option_map
          watched m.watch;
      course = k;
    }) in
    let H : SessionState → Type 0 = λ s. has_cpu s.machine.store cpu ≡ true in
    let I : SessionState → Type 0 = λ s. IsPc s.machine.programs pc in
    let G : ℕ → Option (List (ℕ × ℕ)) → Type 0 = λ high h. (w : World) → Shows m.machine w → (z : World) × (turns : List ℕ) × (text : List ℕ)
    × Goes (record { cpu = cpu; pc = pc } ∷ []) (option_map watched m.watch) cpu high w cpu [] turns text z × Shows n z × KeepsOn h turns k
    × (last ≡ room ++ text) in
    let F : ℕ → Type 0 = λ high. G high m.course in
    subst P c.self.view_is (went_to m.machine m.origin names m.breakpoints.items (option_map watched m.watch) m.course n k cpu pc room last
    c.in_ok-out.ensures.empty (subst H (sym c.self.view_is) c.requires.served) (subst I (sym c.self.view_is) c.requires.begins)
    (subst F c.next_cpu-next.ensures (subst (G c.next_cpu-next.result) c.reserve.ensures c.go.ensures.goes)) c.go.ensures.same)
