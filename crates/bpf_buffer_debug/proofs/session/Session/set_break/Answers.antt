use Rattle.std.proofs.Common.{◌≡◌, ◌∙◌, List, Some, refl, sym, subst}
use Rattle.std.specs.Prelude.{true, false, string_bytes, option_map}
use Rattle.bpf_names.specs.Names.{names_of}
use Rattle.bpf_buffer_debug.specs.Private.Kept.{first_of}
use Rattle.bpf_plain.specs.PlainStore.{has_cpu}
use Rattle.bpf_debug.specs.declared.breakpoint.Breakpoint.{Breakpoint}
use Rattle.bpf_debug.specs.Command.{Break}
use Rattle.bpf_debug.specs.Go.{has_break}
use Rattle.bpf_debug.specs.Session.{IsPc}
use Rattle.bpf_debug.proofs.SessionLaws.{is_added, is_kept}
use Rattle.bpf_buffer_debug.specs.Command.{Plain}
use Rattle.bpf_buffer_debug.specs.Session.{SessionState, Leaves}
use Rattle.bpf_buffer_debug.proofs.SessionLaws.{broken}
use Rattle.bpf_debug.specs.Watch.{watched}
use Rattle.bpf_buffer_debug.proofs.session.Session.set_break.Goals as goal

pub returns-then-has_break-clause-answered : goal.returns-then-has_break-clause-answered
returns-then-has_break-clause-answered c =
    let m = c.self.inside in
    let breaks = m.breakpoints.items in
    let last = string_bytes c.put_break.new.out in
    let s : SessionState = record {
      machine = m.album.machine;
      first = first_of m.album;
      names = names_of m.names;
      breaks = m.breakpoints.items;
      watch = option_map watched m.watch;
      course = m.course;
      lost = m.lost;
    } in
    let B : List Breakpoint → Type 0 = λ bs. true ≡ has_break bs c.args.cpu c.args.pc in
    let there = subst B c.deref.ensures.value (sym c.if-has_break.true ∙ c.has_break.ensures) in
    let H : SessionState → Type 0 = λ r. has_cpu r.machine.machine.store c.args.cpu ≡ true in
    let I : SessionState → Type 0 = λ r. IsPc r.machine.machine.programs c.args.pc in
    subst (λ (r : SessionState). Leaves r (Plain (Break (Some c.args.cpu) (Some c.args.pc))) last r) c.self.view_is
    (broken s s refl refl refl refl refl refl c.args.cpu c.args.pc (string_bytes c.in_ok-out.out) last
    (subst H (sym c.self.view_is) c.requires.served) (subst I (sym c.self.view_is) c.requires.begins)
    (is_kept breaks c.args.cpu c.args.pc there) c.in_ok-out.ensures.empty c.put_break.ensures)

pub returns-clause-answered : goal.returns-clause-answered
returns-clause-answered c =
    let m = c.self.inside in
    let breaks = m.breakpoints.items in
    let last = string_bytes c.put_break.new.out in
    let s : SessionState = record {
      machine = m.album.machine;
      first = first_of m.album;
      names = names_of m.names;
      breaks = m.breakpoints.items;
      watch = option_map watched m.watch;
      course = m.course;
      lost = m.lost;
    } in
    let t : SessionState = record s { breaks = c.push.new.self.items } in
    let B : List Breakpoint → Type 0 = λ bs. false ≡ has_break bs c.args.cpu c.args.pc in
    let absent = subst B c.deref.ensures.value (sym c.if-has_break.false ∙ c.has_break.ensures) in
    let H : SessionState → Type 0 = λ r. has_cpu r.machine.machine.store c.args.cpu ≡ true in
    let I : SessionState → Type 0 = λ r. IsPc r.machine.machine.programs c.args.pc in
    subst (λ (r : SessionState). Leaves r (Plain (Break (Some c.args.cpu) (Some c.args.pc))) last t) c.self.view_is
    (broken s t refl refl refl refl refl refl c.args.cpu c.args.pc (string_bytes c.in_ok-out.out) last
    (subst H (sym c.self.view_is) c.requires.served) (subst I (sym c.self.view_is) c.requires.begins)
    (c.in_ok-push.ensures.items ∙ is_added breaks c.args.cpu c.args.pc absent) c.in_ok-out.ensures.empty c.put_break.ensures)
