use Rattle.std.proofs.Common.{subst}
use Rattle.std.specs.Prelude.{string_bytes, option_map}
use Rattle.bpf_names.specs.Names.{names_of}
use Rattle.bpf_buffer_debug.specs.Private.Kept.{first_of}
use Rattle.bpf_debug.specs.Command.{Schedule}
use Rattle.bpf_buffer_debug.specs.Command.{Plain}
use Rattle.bpf_buffer_debug.specs.Session.{SessionState, Leaves}
use Rattle.bpf_buffer_debug.proofs.SessionLaws.{told_course}
use Rattle.bpf_debug.specs.Watch.{watched}
use Rattle.bpf_buffer_debug.proofs.session.Session.schedule.Goals as goal

pub returns-clause-answered : goal.returns-clause-answered
returns-clause-answered c =
    let m = c.self.inside in
    let last = string_bytes c.in_ok-text.text in
    let s : SessionState = record {
      machine = m.album.machine;
      first = first_of m.album;
      names = names_of m.names;
      breaks = m.breakpoints.items;
      watch = option_map watched m.watch;
      course = m.course;
      lost = m.lost;
    } in
    subst (λ (r : SessionState). Leaves r (Plain Schedule) last r) c.self.view_is
    (told_course s c.in-Some.runs.now last c.in-Some.ensures.kept c.in_ok-text.ensures)
