use Rattle.std.proofs.Common.{◌≡◌, ◌∙◌, sym, ap, subst}
use Rattle.std.specs.Prelude.{string_bytes, option_map}
use Rattle.bpf_names.specs.Names.{names_of}
use Rattle.bpf_buffer_debug.specs.Private.Kept.{first_of}
use Rattle.bpf_plain.specs.PlainStore.{Contents}
use Rattle.bpf_buffering.specs.Search.{BufferedState}
use Rattle.bpf_buffer_debug.specs.Command.{Plain}
use Rattle.bpf_buffer_debug.specs.Session.{SessionState, Leaves}
use Rattle.std.proofs.Common.{Some}
use Rattle.bpf_names.specs.Names.{variable_named, variable_of}
use Rattle.bpf_debug.specs.Command.{Number}
use Rattle.bpf_debug.specs.Read.{TellsNumber}
use Rattle.bpf_debug.proofs.SessionLaws.{told_number}
use Rattle.bpf_buffer_debug.proofs.SessionLaws.{alike, plain_state}
use Rattle.bpf_debug.specs.Watch.{watched}
use Rattle.bpf_buffer_debug.proofs.session.Session.number.Goals as goal

pub returns-clause-answered : goal.returns-clause-answered
returns-clause-answered c =
    let m = c.self.inside in
    let name = c.args.name.now in
    let v = variable_of c.in-Some.variable.now in
    let last = string_bytes c.in_ok-text.text in
    let s : SessionState = record {
      machine = m.album.machine;
      first = first_of m.album;
      names = names_of m.names;
      breaks = m.breakpoints.items;
      watch = option_map watched m.watch;
      course = m.course;
      lost = m.lost;
    } in
    let stored : c.store.result.now ≡ m.album.machine.machine.store = c.store.ensures
    ∙ ap (λ (b : BufferedState). b.machine.store) (c.machine.ensures ∙ sym (ap (λ (r : SessionState). r.machine) c.self.view_is)) in
    let named : variable_named name s.names.variables ≡ Some v = sym c.in-Some.ensures in
    let T : Contents → Type 0 = λ p. TellsNumber p v last in
    subst (λ (r : SessionState). Leaves r (Plain (Number name)) last r) c.self.view_is (alike s (Number name) last tt
    (told_number (plain_state s) name v last named (subst T stored c.in_ok-text.ensures)))
