use Rattle.std.proofs.Common.{ℕ, List, subst, map, String, Global}
use Rattle.std.specs.Prelude.{string_bytes, option_map}
use Rattle.bpf_plain.specs.PlainStore.{Contents}
use Rattle.bpf_debug.specs.Origin.{first_of}
use Rattle.bpf_debug.specs.Read.{IsNamed, TellsTableKeys}
use Rattle.bpf_debug.specs.Command.{Keys}
use Rattle.bpf_debug.specs.Watch.{watched}
use Rattle.bpf_debug.specs.Session.{SessionState, Leaves}
use Rattle.bpf_debug.proofs.SessionLaws.{told_keys}
use Rattle.bpf_debug.proofs.session.Session.keys.Goals as goal
use Rattle.bpf_names.specs.Names.{Names, names_of}

pub returns-clause-answered : goal.returns-clause-answered
returns-clause-answered c =
    let m = c.self.inside in
    let names : Names = names_of m.names in
    let s : SessionState = record {
      machine = m.machine;
      first = first_of m.origin m.machine.programs;
      names = names;
      breaks =
          m.breakpoints.items;
      watch = option_map watched m.watch;
      course = m.course;
    } in
    let N : List (String Global) → Type 0 = λ ns. IsNamed (map (λ n. string_bytes n) ns) c.args.name.now c.in-Some.map in
    let T : Contents → Type 0 = λ p. TellsTableKeys p c.in-Some.map (string_bytes c.in_ok-text.text) in
    let P : SessionState → Type 0 = λ t. Leaves t (Keys c.args.name.now) (string_bytes c.in_ok-text.text) t in
    subst P c.self.view_is (told_keys s c.args.name.now c.in-Some.map (string_bytes c.in_ok-text.text)
    (subst N c.deref.ensures.value c.in-Some.ensures.named) (subst T c.store.ensures c.in_ok-text.ensures))
