use Rattle.std.proofs.Common.{◌≡◌, ℕ, List, Some, sym, subst, map}
use Rattle.std.specs.Prelude.{true, string_bytes, option_map}
use Rattle.bpf_plain.specs.PlainStore.{has_cpu}
use Rattle.bpf_debug.specs.Origin.{first_of}
use Rattle.bpf_debug.specs.Command.{Delete}
use Rattle.bpf_debug.specs.Watch.{watched}
use Rattle.bpf_debug.specs.Session.{SessionState, Leaves, IsPc}
use Rattle.bpf_debug.proofs.SessionLaws.{unbroken}
use Rattle.bpf_debug.proofs.session.Session.delete_break.Goals as goal
use Rattle.bpf_names.specs.Names.{Names, names_of}

pub returns-clause-answered : goal.returns-clause-answered
returns-clause-answered c =
    let m = c.self.inside in
    let names : Names = names_of m.names in
    let breaks = m.breakpoints.items in
    let fewer = c.remove_break.new.breakpoints.items in
    let last = string_bytes c.put_deleted.new.out in
    let P : SessionState → Type 0 = λ s. Leaves s (Delete (Some c.args.cpu) (Some c.args.pc)) last
    (record {
      machine = m.machine;
      first = first_of m.origin m.machine.programs;
      names = names;
      breaks = fewer;
      watch = option_map
          watched m.watch;
      course = m.course;
    }) in
    let H : SessionState → Type 0 = λ s. has_cpu s.machine.store c.args.cpu ≡ true in
    let I : SessionState → Type 0 = λ s. IsPc s.machine.programs c.args.pc in
    subst P c.self.view_is (unbroken m.machine m.origin names breaks (option_map watched m.watch) m.course c.args.cpu c.args.pc fewer
    (string_bytes c.in_ok-out.out) last (subst H (sym c.self.view_is) c.requires.served)
    (subst I (sym c.self.view_is) c.requires.begins) c.remove_break.ensures c.in_ok-out.ensures.empty c.put_deleted.ensures)
