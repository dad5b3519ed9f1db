use Rattle.std.proofs.Common.{◌≡◌, ◌∙◌, List, sym, ap, subst, map, String, Global}
use Rattle.std.specs.Prelude.{string_bytes, option_map}
use Rattle.bpf_names.specs.Names.{names_of}
use Rattle.bpf_buffer_debug.specs.Private.Kept.{first_of}
use Rattle.bpf_plain.specs.PlainStore.{Contents}
use Rattle.bpf_buffering.specs.Search.{BufferedState}
use Rattle.bpf_buffer_debug.specs.Command.{Plain}
use Rattle.bpf_buffer_debug.specs.Session.{SessionState, Leaves}
use Rattle.bpf_debug.specs.Command.{Map}
use Rattle.bpf_debug.specs.Read.{IsNamed, TellsTable}
use Rattle.bpf_debug.proofs.SessionLaws.{told_map}
use Rattle.bpf_buffer_debug.proofs.SessionLaws.{alike, plain_state}
use Rattle.bpf_debug.specs.Watch.{watched}
use Rattle.bpf_buffer_debug.proofs.session.Session.map.Goals as goal

pub returns-clause-answered : goal.returns-clause-answered
returns-clause-answered c =
    let m = c.self.inside in
    let name = c.args.name.now in
    let at = c.in-Some.map in
    let last = string_bytes c.in_ok-text.text in
    let s : SessionState = record {
      machine = m.album.machine;
      first = first_of m.album;
      names = names_of m.names;
      breaks = m.breakpoints.items;
      watch = option_map watched m.watch;
      course = m.course;
      lost = m.lost;
    } in
    let stored : c.store.result.now ≡ m.album.machine.machine.store = c.store.ensures
    ∙ ap (λ (b : BufferedState). b.machine.store) (c.machine.ensures ∙ sym (ap (λ (r : SessionState). r.machine) c.self.view_is)) in
    let N : List (String Global) → Type 0 = λ ns. IsNamed (map string_bytes ns) name at in
    let T : Contents → Type 0 = λ p. TellsTable p (map string_bytes c.deref-2.result.now) at last in
    let D : List (String Global) → Type 0 = λ ns. TellsTable m.album.machine.machine.store (map string_bytes ns) at last in
    subst (λ (r : SessionState). Leaves r (Plain (Map name)) last r) c.self.view_is (alike s (Map name) last tt
    (told_map (plain_state s) name at last (subst N c.deref.ensures.value c.in-Some.ensures.named)
    (subst D c.deref-2.ensures.value (subst T stored c.in_ok-text.ensures))))
