use Rattle.std.proofs.Common.{◌≡◌, ◌∙◌, ℕ, List, Option, Some, ap, subst, sym}
use Rattle.std.specs.Prelude.{string_bytes, option_map}
use Rattle.bpf_names.specs.Names.{Names, names_of, variable_named, variable_of}
use Rattle.bpf_debug.specs.Origin.{first_of}
use Rattle.bpf_debug.specs.Answer.{variable_watch_line}
use Rattle.bpf_debug.specs.Command.{WatchVariable}
use Rattle.bpf_debug.specs.Watch.{Watched, variable_watched, watched}
use Rattle.bpf_debug.specs.Session.{SessionState, Leaves}
use Rattle.bpf_debug.proofs.SessionLaws.{set_variable}
use Rattle.bpf_debug.proofs.session.Session.watch_variable.Goals as goal

pub returns-clause-answered : goal.returns-clause-answered
returns-clause-answered c =
    let m = c.self.inside in
    let names : Names = names_of m.names in
    let name = c.args.name.now in
    let v = variable_of c.in-Some.variable.now in
    let last = string_bytes c.in_ok-text.text in
    let more : Option Watched = Some (watched c.variable_watch.result) in
    let named : variable_named name names.variables ≡ Some v = sym c.in-Some.ensures in
    let same : more ≡ Some (variable_watched v) = ap (λ (w : Watched). Some w) c.variable_watch.ensures in
    let P : SessionState → Type 0 = λ s. Leaves s (WatchVariable name) last
    (record {
      machine = m.machine;
      first = first_of m.origin m.machine.programs;
      names = names;
      breaks = m.breakpoints.items;
      watch
          = more;
      course = m.course;
    }) in
    subst P c.self.view_is (set_variable m.machine m.origin names m.breakpoints.items (option_map watched m.watch) m.course name v more last
    named same (c.in_ok-text.ensures ∙ ap variable_watch_line c.as_str.ensures.value))
