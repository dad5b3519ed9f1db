use Rattle.std.proofs.Common.{Some, subst}
use Rattle.std.specs.Prelude.{IfOk, option_map, string_bytes}
use Rattle.bpf_names.specs.Names.{names_of}
use Rattle.bpf_debug.specs.Command.{Show}
use Rattle.bpf_debug.specs.Watch.{watched}
use Rattle.bpf_buffer_debug.specs.Private.Kept.{first_of}
use Rattle.bpf_buffer_debug.specs.Command.{Plain}
use Rattle.bpf_buffer_debug.specs.Session.{SessionState, Leaves}
use Rattle.bpf_buffer_debug.proofs.session.Session.show_at.Goals as goal

pub returns-in-Some-clause-answered : goal.returns-in-Some-clause-answered
returns-in-Some-clause-answered c =
    let P : SessionState → Type 0 = λ r. IfOk c.show_changed.result
    (λ text. Leaves r (Plain (Show (Some c.args.cpu))) (string_bytes text) c.show_changed.new.self) in
    subst P c.self.view_is c.show_changed.ensures.answered

pub returns-in-None-clause-answered : goal.returns-in-None-clause-answered
returns-in-None-clause-answered c =
    let m = c.self.inside in
    let s : SessionState = record {
      machine = m.album.machine;
      first = first_of m.album;
      names = names_of m.names;
      breaks = m.breakpoints.items;
      watch = option_map watched m.watch;
      course = m.course;
      lost = m.lost;
    } in
    let P : SessionState → Type 0 = λ r. IfOk c.shows_nothing.result
    (λ text. Leaves r (Plain (Show (Some c.args.cpu))) (string_bytes text) s) in
    subst P c.self.view_is c.shows_nothing.ensures.answered
