use Rattle.std.proofs.Common.{◌≡◌, ℕ, List, Some, sym, subst, map}
use Rattle.std.specs.Prelude.{true, string_bytes, option_map}
use Rattle.bpf_plain.specs.PlainStore.{Contents, has_cpu}
use Rattle.bpf_debug.specs.Origin.{first_of}
use Rattle.bpf_debug.specs.Read.{TellsBytes}
use Rattle.bpf_debug.specs.Command.{Memory}
use Rattle.bpf_debug.specs.Watch.{watched}
use Rattle.bpf_debug.specs.Session.{SessionState, Leaves}
use Rattle.bpf_debug.proofs.SessionLaws.{told_bytes}
use Rattle.bpf_debug.proofs.session.Session.memory_at.Goals as goal
use Rattle.bpf_names.specs.Names.{Names, names_of}

pub returns-clause-answered : goal.returns-clause-answered
returns-clause-answered c =
    let m = c.self.inside in
    let names : Names = names_of m.names in
    let s : SessionState = record {
      machine = m.machine;
      first = first_of m.origin m.machine.programs;
      names = names;
      breaks =
          m.breakpoints.items;
      watch = option_map watched m.watch;
      course = m.course;
    } in
    let last = string_bytes c.in_ok-text.text in
    let P : SessionState → Type 0 = λ t. Leaves t (Memory (Some c.args.cpu) c.args.address c.args.count) last t in
    let T : Contents → Type 0 = λ p. TellsBytes p c.in-Some.state.now c.args.address c.args.count last in
    let H : SessionState → Type 0 = λ t. has_cpu t.machine.store c.args.cpu ≡ true in
    subst P c.self.view_is (told_bytes s c.args.cpu c.args.address c.args.count last c.in-Some.state.now
    (subst H (sym c.self.view_is) c.requires) c.in-Some.ensures.state (subst T c.store.ensures c.in_ok-text.ensures))
