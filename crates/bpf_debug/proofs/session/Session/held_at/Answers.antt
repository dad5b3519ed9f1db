use Rattle.std.proofs.Common.{◌≡◌, ℕ, List, Some, length, sym, subst, map, String, Global}
use Rattle.std.specs.Prelude.{true, string_bytes, option_map}
use Rattle.bpf_plain.specs.PlainStore.{Contents, has_cpu}
use Rattle.bpf_debug.specs.Origin.{first_of}
use Rattle.bpf_debug.specs.Held.{ShowsHeld}
use Rattle.bpf_debug.specs.Command.{Held}
use Rattle.bpf_debug.specs.Watch.{watched}
use Rattle.bpf_debug.specs.Session.{SessionState, Leaves}
use Rattle.bpf_debug.proofs.SessionLaws.{told_held}
use Rattle.bpf_debug.proofs.session.Session.held_at.Goals as goal
use Rattle.bpf_names.specs.Names.{Names, names_of}

pub returns-clause-answered : goal.returns-clause-answered
returns-clause-answered c =
    let m = c.self.inside in
    let names : Names = names_of m.names in
    let s : SessionState = record {
      machine = m.machine;
      first = first_of m.origin m.machine.programs;
      names = names;
      breaks =
          m.breakpoints.items;
      watch = option_map watched m.watch;
      course = m.course;
    } in
    let last = string_bytes c.in_ok-text.text in
    let state = c.in-Some.state.now in
    let P : SessionState → Type 0 = λ t. Leaves t (Held (Some c.args.cpu)) last t in
    let N : List (String Global) → Type 0 = λ ns. ShowsHeld (map (λ n. string_bytes n) ns) c.store.result.now state (length state.held) last in
    let T : Contents → Type 0 = λ p. ShowsHeld names.maps p state (length state.held) last in
    let H : SessionState → Type 0 = λ t. has_cpu t.machine.store c.args.cpu ≡ true in
    subst P c.self.view_is (told_held s c.args.cpu last state (subst H (sym c.self.view_is) c.requires) c.in-Some.ensures.state
    (subst T c.store.ensures (subst N c.deref.ensures.value c.in_ok-text.ensures)))
