use Rattle.std.proofs.Common.{ℕ, List, subst, map}
use Rattle.std.specs.Prelude.{string_bytes, option_map}
use Rattle.bpf_debug.specs.Origin.{first_of}
use Rattle.bpf_debug.specs.Command.{Schedule}
use Rattle.bpf_debug.specs.Watch.{watched}
use Rattle.bpf_debug.specs.Session.{SessionState, Leaves}
use Rattle.bpf_debug.proofs.SessionLaws.{told_course}
use Rattle.bpf_debug.proofs.session.Session.schedule.Goals as goal
use Rattle.bpf_names.specs.Names.{Names, names_of}

pub returns-clause-answered : goal.returns-clause-answered
returns-clause-answered c =
    let m = c.self.inside in
    let names : Names = names_of m.names in
    let s : SessionState = record {
      machine = m.machine;
      first = first_of m.origin m.machine.programs;
      names = names;
      breaks =
          m.breakpoints.items;
      watch = option_map watched m.watch;
      course = m.course;
    } in
    let P : SessionState → Type 0 = λ t. Leaves t Schedule (string_bytes c.in_ok-text.text) t in
    subst P c.self.view_is (told_course s c.in-Some.runs.now (string_bytes c.in_ok-text.text) c.in-Some.ensures.kept c.in_ok-text.ensures)
