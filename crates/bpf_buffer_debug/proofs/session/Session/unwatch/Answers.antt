use Rattle.std.proofs.Common.{None, refl, subst}
use Rattle.std.specs.Prelude.{option_map, string_bytes}
use Rattle.bpf_names.specs.Names.{names_of}
use Rattle.bpf_debug.specs.Command.{Unwatch}
use Rattle.bpf_debug.specs.Watch.{watched}
use Rattle.bpf_buffer_debug.specs.Private.Kept.{first_of}
use Rattle.bpf_buffer_debug.specs.Command.{Plain}
use Rattle.bpf_buffer_debug.specs.Session.{SessionState, Leaves}
use Rattle.bpf_buffer_debug.proofs.SessionLaws.{watched_none}
use Rattle.bpf_buffer_debug.proofs.session.Session.unwatch.Goals as goal

pub returns-clause-answered : goal.returns-clause-answered
returns-clause-answered c =
    let m = c.self.inside in
    let last = string_bytes c.in_ok-text.text in
    let s : SessionState = record {
      machine = m.album.machine;
      first = first_of m.album;
      names = names_of m.names;
      breaks = m.breakpoints.items;
      watch = option_map watched m.watch;
      course = m.course;
      lost = m.lost;
    } in
    let t : SessionState = record s { watch = None } in
    subst (λ (r : SessionState). Leaves r (Plain Unwatch) last t) c.self.view_is
    (watched_none s t refl refl refl refl refl refl last refl c.in_ok-text.ensures.ok)
