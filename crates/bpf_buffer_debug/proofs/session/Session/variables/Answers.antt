use Rattle.std.proofs.Common.{◌≡◌, ◌∙◌, List, sym, ap, subst, map, length}
use Rattle.std.specs.Prelude.{string_bytes, option_map}
use Rattle.bpf_names.specs.Names.{names_of}
use Rattle.bpf_buffer_debug.specs.Private.Kept.{first_of}
use Rattle.bpf_plain.specs.PlainStore.{Contents}
use Rattle.bpf_buffering.specs.Search.{BufferedState}
use Rattle.bpf_buffer_debug.specs.Command.{Plain}
use Rattle.bpf_buffer_debug.specs.Session.{SessionState, Leaves}
use Rattle.std.proofs.lemmas.List.{length-map}
use Rattle.bpf_shared.specs.Store.{Plain as PlainStore}
use Rattle.bpf_shared.specs.Sound.{IsSoundStore}
use Rattle.bpf_plain.specs.PlainStore.{StandsFor}
use Rattle.bpf_names.specs.Names.{variable_of}
use Rattle.bpf_names.specs.declared.names.Variable.{Variable}
use Rattle.bpf_jobs.specs.Printed.{variable_lines}
use Rattle.bpf_debug.specs.Command.{Variables}
use Rattle.bpf_debug.proofs.SessionLaws.{told_variables}
use Rattle.bpf_buffer_debug.proofs.SessionLaws.{alike, plain_state}
use Rattle.bpf_debug.specs.Watch.{watched}
use Rattle.bpf_buffer_debug.proofs.session.Session.variables.Goals as goal

pub returns-clause-answered : goal.returns-clause-answered
returns-clause-answered c =
    let m = c.self.inside in
    let last = string_bytes c.in_ok-text.text in
    let s : SessionState = record {
      machine = m.album.machine;
      first = first_of m.album;
      names = names_of m.names;
      breaks = m.breakpoints.items;
      watch = option_map watched m.watch;
      course = m.course;
      lost = m.lost;
    } in
    let stored : c.store.result.now ≡ m.album.machine.machine.store = c.store.ensures
    ∙ ap (λ (b : BufferedState). b.machine.store) (c.machine.ensures ∙ sym (ap (λ (r : SessionState). r.machine) c.self.view_is)) in
    let T : Contents → Type 0 = λ p. (q : PlainStore) → IsSoundStore q → StandsFor p q → last ≡ variable_lines q
    (map variable_of c.deref.result.now) (length c.deref.result.now) in
    let D : List Variable → Type 0 = λ vs. (q : PlainStore) → IsSoundStore q → StandsFor m.album.machine.machine.store q → last
    ≡ variable_lines q (map variable_of vs) (length vs) in
    let told = subst D c.deref.ensures.value (subst T stored c.in_ok-text.ensures) in
    let count : length m.names.variables.items ≡ length s.names.variables = sym (length-map m.names.variables.items variable_of) in
    subst (λ (r : SessionState). Leaves r (Plain Variables) last r) c.self.view_is (alike s Variables last tt
    (told_variables (plain_state s) last (λ q sound stands. told q sound stands ∙ ap (variable_lines q s.names.variables) count)))
