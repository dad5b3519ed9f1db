use Rattle.std.proofs.Common.{◌≡◌, ◌∙◌, sym, ap, subst}
use Rattle.std.specs.Prelude.{string_bytes, option_map}
use Rattle.bpf_names.specs.Names.{names_of}
use Rattle.bpf_buffer_debug.specs.Private.Kept.{first_of}
use Rattle.bpf_plain.specs.PlainStore.{Contents}
use Rattle.bpf_buffering.specs.Search.{BufferedState}
use Rattle.bpf_buffer_debug.specs.Command.{Plain}
use Rattle.bpf_buffer_debug.specs.Session.{SessionState, Leaves}
use Rattle.bpf_plain.specs.PlainStore.{shape_of}
use Rattle.bpf_debug.specs.Command.{Maps}
use Rattle.bpf_debug.specs.Told.{store_lines}
use Rattle.bpf_debug.proofs.SessionLaws.{told_maps}
use Rattle.bpf_buffer_debug.proofs.SessionLaws.{alike, plain_state}
use Rattle.bpf_debug.specs.Watch.{watched}
use Rattle.bpf_buffer_debug.proofs.session.Session.maps.Goals as goal

pub returns-clause-answered : goal.returns-clause-answered
returns-clause-answered c =
    let m = c.self.inside in
    let last = string_bytes c.in_ok-text.text in
    let s : SessionState = record {
      machine = m.album.machine;
      first = first_of m.album;
      names = names_of m.names;
      breaks = m.breakpoints.items;
      watch = option_map watched m.watch;
      course = m.course;
      lost = m.lost;
    } in
    let stored : c.store.result.now ≡ m.album.machine.machine.store = c.store.ensures
    ∙ ap (λ (b : BufferedState). b.machine.store) (c.machine.ensures ∙ sym (ap (λ (r : SessionState). r.machine) c.self.view_is)) in
    let T : Contents → Type 0 = λ p. last ≡ store_lines (names_of m.names) (shape_of p) in
    subst (λ (r : SessionState). Leaves r (Plain Maps) last r) c.self.view_is
    (alike s Maps last tt (told_maps (plain_state s) last (subst T stored c.in_ok-text.ensures)))
