use Rattle.std.proofs.Common.{◌≡◌, subst}
use Rattle.std.specs.Prelude.{string_bytes, option_map}
use Rattle.bpf_plain.specs.PlainStore.{Contents, shape_of}
use Rattle.bpf_debug.specs.Origin.{first_of}
use Rattle.bpf_debug.specs.Told.{store_lines}
use Rattle.bpf_debug.specs.Command.{Maps}
use Rattle.bpf_debug.specs.Watch.{watched}
use Rattle.bpf_debug.specs.Session.{SessionState, Leaves}
use Rattle.bpf_debug.proofs.SessionLaws.{told_maps}
use Rattle.bpf_debug.proofs.session.Session.maps.Goals as goal
use Rattle.bpf_names.specs.Names.{Names, names_of}

pub returns-clause-answered : goal.returns-clause-answered
returns-clause-answered c =
    let m = c.self.inside in
    let names : Names = names_of m.names in
    let s : SessionState = record {
      machine = m.machine;
      first = first_of m.origin m.machine.programs;
      names = names;
      breaks =
          m.breakpoints.items;
      watch = option_map watched m.watch;
      course = m.course;
    } in
    let last = string_bytes c.in_ok-text.text in
    let T : Contents → Type 0 = λ p. last ≡ store_lines names (shape_of p) in
    let put = subst T c.store.ensures c.in_ok-text.ensures in
    let P : SessionState → Type 0 = λ t. Leaves t Maps last t in
    subst P c.self.view_is (told_maps s last put)
