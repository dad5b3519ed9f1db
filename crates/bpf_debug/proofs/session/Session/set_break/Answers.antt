use Rattle.std.proofs.Common.{◌≡◌, ℕ, List, Some, sym, subst, ◌∙◌, map}
use Rattle.std.specs.Prelude.{true, false, string_bytes, option_map}
use Rattle.bpf_plain.specs.PlainStore.{has_cpu}
use Rattle.bpf_debug.specs.Origin.{first_of}
use Rattle.bpf_debug.specs.Command.{Break}
use Rattle.bpf_debug.specs.Session.{SessionState, Leaves, IsPc}
use Rattle.bpf_debug.specs.declared.breakpoint.Breakpoint.{Breakpoint}
use Rattle.bpf_debug.specs.Go.{has_break}
use Rattle.bpf_debug.specs.Watch.{watched}
use Rattle.bpf_debug.proofs.SessionLaws.{broken, is_kept, is_added}
use Rattle.bpf_debug.proofs.session.Session.set_break.Goals as goal
use Rattle.bpf_names.specs.Names.{Names, names_of}

pub returns-then-has_break-clause-answered : goal.returns-then-has_break-clause-answered
returns-then-has_break-clause-answered c =
    let m = c.self.inside in
    let names : Names = names_of m.names in
    let breaks = m.breakpoints.items in
    let last = string_bytes c.put_break.new.out in
    let order = Break (Some c.args.cpu) (Some c.args.pc) in
    let B : List Breakpoint → Type 0 = λ bs. true ≡ has_break bs c.args.cpu c.args.pc in
    let there = subst B c.deref.ensures.value (sym c.if-has_break.true ∙ c.has_break.ensures) in
    let P : SessionState → Type 0 = λ s. Leaves s order last s in
    let H : SessionState → Type 0 = λ s. has_cpu s.machine.store c.args.cpu ≡ true in
    let I : SessionState → Type 0 = λ s. IsPc s.machine.programs c.args.pc in
    subst P c.self.view_is (broken m.machine m.origin names breaks (option_map watched m.watch) m.course c.args.cpu c.args.pc breaks
    (string_bytes c.in_ok-out.out) last (subst H (sym c.self.view_is) c.requires.served)
    (subst I (sym c.self.view_is) c.requires.begins) (is_kept breaks c.args.cpu c.args.pc there) c.in_ok-out.ensures.empty c.put_break.ensures)

pub returns-clause-answered : goal.returns-clause-answered
returns-clause-answered c =
    let m = c.self.inside in
    let names : Names = names_of m.names in
    let breaks = m.breakpoints.items in
    let last = string_bytes c.put_break.new.out in
    let order = Break (Some c.args.cpu) (Some c.args.pc) in
    let B : List Breakpoint → Type 0 = λ bs. false ≡ has_break bs c.args.cpu c.args.pc in
    let absent = subst B c.deref.ensures.value (sym c.if-has_break.false ∙ c.has_break.ensures) in
    let more = c.push.new.self.items in
    let P : SessionState → Type 0 = λ s. Leaves s order last (record {
      machine = m.machine;
      first = first_of m.origin m.machine.programs;
      names = names;
      breaks = more;
      watch = option_map watched
          m.watch;
      course = m.course;
    }) in
    let H : SessionState → Type 0 = λ s. has_cpu s.machine.store c.args.cpu ≡ true in
    let I : SessionState → Type 0 = λ s. IsPc s.machine.programs c.args.pc in
    subst P c.self.view_is (broken m.machine m.origin names breaks (option_map watched m.watch) m.course c.args.cpu c.args.pc more
    (string_bytes c.in_ok-out.out) last (subst H (sym c.self.view_is) c.requires.served)
    (subst I (sym c.self.view_is) c.requires.begins) (c.in_ok-push.ensures.items ∙ is_added breaks c.args.cpu c.args.pc absent)
    c.in_ok-out.ensures.empty c.put_break.ensures)
