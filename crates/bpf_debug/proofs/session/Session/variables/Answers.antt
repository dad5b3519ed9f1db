use Rattle.std.proofs.Common.{◌≡◌, ℕ, List, length, map, ap, subst, ◌∙◌, sym}
use Rattle.std.specs.Prelude.{string_bytes, option_map}
use Rattle.std.proofs.lemmas.List.{length-map}
use Rattle.bpf_shared.specs.Store.{Plain}
use Rattle.bpf_shared.specs.Sound.{IsSoundStore}
use Rattle.bpf_names.specs.declared.names.Variable.{Variable}
use Rattle.bpf_names.specs.Names.{Names, names_of, variable_of}
use Rattle.bpf_plain.specs.PlainStore.{Contents, StandsFor}
use Rattle.bpf_jobs.specs.Printed.{variable_lines}
use Rattle.bpf_debug.specs.Origin.{first_of}
use Rattle.bpf_debug.specs.Command.{Variables}
use Rattle.bpf_debug.specs.Watch.{watched}
use Rattle.bpf_debug.specs.Session.{SessionState, Leaves}
use Rattle.bpf_debug.proofs.SessionLaws.{told_variables}
use Rattle.bpf_debug.proofs.session.Session.variables.Goals as goal

pub returns-clause-answered : goal.returns-clause-answered
returns-clause-answered c =
    let m = c.self.inside in
    let names : Names = names_of m.names in
    let s : SessionState = record {
      machine = m.machine;
      first = first_of m.origin m.machine.programs;
      names = names;
      breaks =
          m.breakpoints.items;
      watch = option_map watched m.watch;
      course = m.course;
    } in
    let last = string_bytes c.in_ok-text.text in
    let T : Contents → Type 0 = λ p. (q : Plain) → IsSoundStore q → StandsFor p q → last ≡ variable_lines q
    (map variable_of c.deref.result.now) (length c.deref.result.now) in
    let D : List Variable → Type 0 = λ vs. (q : Plain) → IsSoundStore q → StandsFor m.machine.store q → last ≡ variable_lines q
    (map variable_of vs) (length vs) in
    let told = subst D c.deref.ensures.value (subst T c.store.ensures c.in_ok-text.ensures) in
    let count : length m.names.variables.items ≡ length names.variables = sym (length-map m.names.variables.items variable_of) in
    let P : SessionState → Type 0 = λ t. Leaves t Variables last t in
    subst P c.self.view_is (told_variables s last (λ q sound stands. told q sound stands ∙ ap (variable_lines q names.variables) count))
