use Rattle.std.proofs.Common.{◌≡◌, true, List, Some, sym, subst, map, String, Global}
use Rattle.std.specs.Prelude.{string_bytes, option_map}
use Rattle.bpf_names.specs.Names.{names_of}
use Rattle.bpf_buffer_debug.specs.Private.Kept.{first_of}
use Rattle.bpf_plain.specs.PlainStore.{has_cpu}
use Rattle.bpf_buffering.specs.Search.{BufferedState}
use Rattle.bpf_debug.specs.Command.{Held}
use Rattle.bpf_buffer_debug.specs.Command.{Plain}
use Rattle.bpf_buffer_debug.specs.Session.{SessionState, Leaves}
use Rattle.bpf_buffer_debug.specs.Seeing.{TellsSeenHeld}
use Rattle.bpf_buffer_debug.proofs.SessionLaws.{told_held}
use Rattle.bpf_debug.specs.Watch.{watched}
use Rattle.bpf_buffer_debug.proofs.session.Session.held_at.Goals as goal

pub returns-clause-answered : goal.returns-clause-answered
returns-clause-answered c =
    let m = c.self.inside in
    let cpu = c.args.cpu in
    let last = string_bytes c.in_ok-text.text in
    let s : SessionState = record {
      machine = m.album.machine;
      first = first_of m.album;
      names = names_of m.names;
      breaks = m.breakpoints.items;
      watch = option_map watched m.watch;
      course = m.course;
      lost = m.lost;
    } in
    let H : SessionState → Type 0 = λ r. has_cpu r.machine.machine.store cpu ≡ true in
    let M : BufferedState → Type 0 = λ b. TellsSeenHeld (map string_bytes c.deref.result.now) b cpu last in
    let D : List (String Global) → Type 0 = λ ns. TellsSeenHeld (map string_bytes ns) m.album.machine cpu last in
    subst (λ (r : SessionState). Leaves r (Plain (Held (Some cpu))) last s) c.self.view_is
    (told_held s cpu (subst H (sym c.self.view_is) c.requires) last
    (subst D c.deref.ensures.value (subst M c.machine-machine.ensures c.in_ok-text.ensures.told)))
