use Rattle.std.proofs.Common.{ℕ, List, None, subst, map}
use Rattle.std.specs.Prelude.{string_bytes, option_map}
use Rattle.bpf_debug.specs.Origin.{first_of}
use Rattle.bpf_debug.specs.Command.{Unwatch}
use Rattle.bpf_debug.specs.Watch.{watched}
use Rattle.bpf_debug.specs.Session.{SessionState, Leaves}
use Rattle.bpf_debug.proofs.SessionLaws.{no_watch}
use Rattle.bpf_debug.proofs.session.Session.unwatch.Goals as goal
use Rattle.bpf_names.specs.Names.{Names, names_of}

pub returns-clause-answered : goal.returns-clause-answered
returns-clause-answered c =
    let m = c.self.inside in
    let names : Names = names_of m.names in
    let last = string_bytes c.in_ok-text.text in
    let P : SessionState → Type 0 = λ s. Leaves s Unwatch last (record {
      machine = m.machine;
      first = first_of m.origin m.machine.programs;
      names = names;
      breaks = m.breakpoints.items;
      watch = None;
      course = m.course;
    }) in
    subst P c.self.view_is (no_watch m.machine m.origin names m.breakpoints.items (option_map watched m.watch) m.course last c.in_ok-text.ensures.ok)
