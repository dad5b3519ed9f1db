use Rattle.std.proofs.Common.{◌≡◌, ℕ, List, [], ◌∷◌, Option, Some, sym, subst, map}
use Rattle.std.specs.Prelude.{true, string_bytes, option_map}
use Rattle.bpf_plain.specs.PlainStore.{has_cpu}
use Rattle.bpf_debug.specs.Origin.{first_of}
use Rattle.bpf_debug.specs.Command.{Step}
use Rattle.bpf_debug.specs.Course.{KeepsOn}
use Rattle.bpf_debug.specs.Watch.{watched}
use Rattle.bpf_debug.specs.Session.{SessionState, Leaves}
use Rattle.bpf_debug.proofs.SessionLaws.{can_still, stepped}
use Rattle.bpf_debug.proofs.session.Session.step_at.Goals as goal
use Rattle.bpf_names.specs.Names.{Names, names_of}

pub invariant_of-self-2 : goal.invariant_of-self-2
invariant_of-self-2 c =
    let t = c.take_turn.ensures.made.2 c.self.invariant.0 c.self.invariant.1 in
    (t.0, t.2, can_still c.self.inside.origin c.self.inside.machine c.take_turn.new.machine c.take_turn.ensures.same c.self.invariant.2)

pub returns-clause-answered : goal.returns-clause-answered
returns-clause-answered c =
    let m = c.self.inside in
    let names : Names = names_of m.names in
    let n = c.take_turn.new.machine in
    let k = c.add.new.self in
    let t = c.take_turn.ensures.made in
    let N : Option (List (ℕ × ℕ)) → Type 0 = λ h. KeepsOn h (c.args.cpu ∷ []) k in
    let last = string_bytes c.take_turn.new.out in
    let P : SessionState → Type 0 = λ s. Leaves s (Step (Some c.args.cpu)) last
    (record {
      machine = n;
      first = first_of m.origin n.programs;
      names = names;
      breaks = m.breakpoints.items;
      watch = option_map
          watched m.watch;
      course = k;
    }) in
    let H : SessionState → Type 0 = λ s. has_cpu s.machine.store c.args.cpu ≡ true in
    subst P c.self.view_is (stepped m.machine m.origin names m.breakpoints.items (option_map watched m.watch) m.course n k c.args.cpu t.0
    (string_bytes c.in_ok-out.out) t.1 last (subst H (sym c.self.view_is) c.requires) c.in_ok-out.ensures.empty t.2 t.3 t.4
    (subst N c.reserve.ensures c.add.ensures) c.take_turn.ensures.same)
