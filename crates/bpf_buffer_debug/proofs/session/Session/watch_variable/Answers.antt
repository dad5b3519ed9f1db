use Rattle.std.proofs.Common.{◌≡◌, ◌∙◌, Some, refl, sym, ap, subst}
use Rattle.std.specs.Prelude.{option_map, string_bytes}
use Rattle.bpf_names.specs.Names.{Names, names_of, variable_named, variable_of}
use Rattle.bpf_debug.specs.Answer.{variable_watch_line}
use Rattle.bpf_debug.specs.Command.{WatchVariable}
use Rattle.bpf_debug.specs.Watch.{Watched, variable_watched, watched}
use Rattle.bpf_buffer_debug.specs.Private.Kept.{first_of}
use Rattle.bpf_buffer_debug.specs.Command.{Plain}
use Rattle.bpf_buffer_debug.specs.Session.{SessionState, Leaves}
use Rattle.bpf_buffer_debug.proofs.SessionLaws.{watched_variable}
use Rattle.bpf_buffer_debug.proofs.session.Session.watch_variable.Goals as goal

pub returns-clause-answered : goal.returns-clause-answered
returns-clause-answered c =
    let m = c.self.inside in
    let names : Names = names_of m.names in
    let name = c.args.name.now in
    let v = variable_of c.in-Some.variable.now in
    let last = string_bytes c.in_ok-text.text in
    let s : SessionState = record {
      machine = m.album.machine;
      first = first_of m.album;
      names = names_of m.names;
      breaks = m.breakpoints.items;
      watch = option_map watched m.watch;
      course = m.course;
      lost = m.lost;
    } in
    let t : SessionState = record s { watch = Some (watched c.variable_watch.result) } in
    let named : variable_named name names.variables ≡ Some v = sym c.in-Some.ensures in
    let same : t.watch ≡ Some (variable_watched v) = ap (λ (w : Watched). Some w) c.variable_watch.ensures in
    subst (λ (r : SessionState). Leaves r (Plain (WatchVariable name)) last t) c.self.view_is
    (watched_variable s t refl refl refl refl refl refl name v last named same (c.in_ok-text.ensures ∙ ap variable_watch_line c.as_str.ensures.value))
