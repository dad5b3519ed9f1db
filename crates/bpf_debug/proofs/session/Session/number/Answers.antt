use Rattle.std.proofs.Common.{◌≡◌, Some, subst, sym}
use Rattle.std.specs.Prelude.{string_bytes, option_map}
use Rattle.bpf_names.specs.Names.{Names, names_of, variable_named, variable_of}
use Rattle.bpf_plain.specs.PlainStore.{Contents}
use Rattle.bpf_debug.specs.Origin.{first_of}
use Rattle.bpf_debug.specs.Read.{TellsNumber}
use Rattle.bpf_debug.specs.Command.{Number}
use Rattle.bpf_debug.specs.Watch.{watched}
use Rattle.bpf_debug.specs.Session.{SessionState, Leaves}
use Rattle.bpf_debug.proofs.SessionLaws.{told_number}
use Rattle.bpf_debug.proofs.session.Session.number.Goals as goal

pub returns-clause-answered : goal.returns-clause-answered
returns-clause-answered c =
    let m = c.self.inside in
    let names : Names = names_of m.names in
    let s : SessionState = record {
      machine = m.machine;
      first = first_of m.origin m.machine.programs;
      names = names;
      breaks =
          m.breakpoints.items;
      watch = option_map watched m.watch;
      course = m.course;
    } in
    let name = c.args.name.now in
    let v = variable_of c.in-Some.variable.now in
    let last = string_bytes c.in_ok-text.text in
    let named : variable_named name names.variables ≡ Some v = sym c.in-Some.ensures in
    let T : Contents → Type 0 = λ p. TellsNumber p v last in
    let P : SessionState → Type 0 = λ t. Leaves t (Number name) last t in
    subst P c.self.view_is (told_number s name v last named (subst T c.store.ensures c.in_ok-text.ensures))
