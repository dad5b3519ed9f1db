use Rattle.std.proofs.Common.{◌≡◌, ℕ, List, Some, sym, subst, map}
use Rattle.std.specs.Prelude.{true, string_bytes, option_map}
use Rattle.bpf_plain.specs.PlainStore.{has_cpu}
use Rattle.bpf_debug.specs.Origin.{first_of}
use Rattle.bpf_debug.specs.Command.{Held}
use Rattle.bpf_debug.specs.Watch.{watched}
use Rattle.bpf_debug.specs.Session.{SessionState, Leaves}
use Rattle.bpf_debug.proofs.SessionLaws.{told_no_held}
use Rattle.bpf_debug.proofs.session.Session.holds_nothing.Goals as goal
use Rattle.bpf_names.specs.Names.{Names, names_of}

pub returns-clause-answered : goal.returns-clause-answered
returns-clause-answered c =
    let m = c.self.inside in
    let names : Names = names_of m.names in
    let s : SessionState = record {
      machine = m.machine;
      first = first_of m.origin m.machine.programs;
      names = names;
      breaks =
          m.breakpoints.items;
      watch = option_map watched m.watch;
      course = m.course;
    } in
    let last = string_bytes c.put_off.new.out in
    let P : SessionState → Type 0 = λ t. Leaves t (Held (Some c.args.cpu)) last t in
    let H : SessionState → Type 0 = λ t. has_cpu t.machine.store c.args.cpu ≡ true in
    subst P c.self.view_is (told_no_held s c.args.cpu (string_bytes c.in_ok-out.out) last (subst H (sym c.self.view_is) c.requires.served)
    c.in_ok-out.ensures.empty c.put_off.ensures)
