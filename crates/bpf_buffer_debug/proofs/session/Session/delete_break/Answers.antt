use Rattle.std.proofs.Common.{◌≡◌, Some, refl, sym, subst}
use Rattle.std.specs.Prelude.{true, string_bytes, option_map}
use Rattle.bpf_names.specs.Names.{names_of}
use Rattle.bpf_buffer_debug.specs.Private.Kept.{first_of}
use Rattle.bpf_plain.specs.PlainStore.{has_cpu}
use Rattle.bpf_debug.specs.Command.{Delete}
use Rattle.bpf_debug.specs.Session.{IsPc}
use Rattle.bpf_buffer_debug.specs.Command.{Plain}
use Rattle.bpf_buffer_debug.specs.Session.{SessionState, Leaves}
use Rattle.bpf_buffer_debug.proofs.SessionLaws.{unbroken}
use Rattle.bpf_debug.specs.Watch.{watched}
use Rattle.bpf_buffer_debug.proofs.session.Session.delete_break.Goals as goal

pub returns-clause-answered : goal.returns-clause-answered
returns-clause-answered c =
    let m = c.self.inside in
    let last = string_bytes c.put_deleted.new.out in
    let s : SessionState = record {
      machine = m.album.machine;
      first = first_of m.album;
      names = names_of m.names;
      breaks = m.breakpoints.items;
      watch = option_map watched m.watch;
      course = m.course;
      lost = m.lost;
    } in
    let t : SessionState = record s { breaks = c.remove_break.new.breakpoints.items } in
    let H : SessionState → Type 0 = λ r. has_cpu r.machine.machine.store c.args.cpu ≡ true in
    let I : SessionState → Type 0 = λ r. IsPc r.machine.machine.programs c.args.pc in
    subst (λ (r : SessionState). Leaves r (Plain (Delete (Some c.args.cpu) (Some c.args.pc))) last t) c.self.view_is
    (unbroken s t refl refl refl refl refl refl c.args.cpu c.args.pc (string_bytes c.in_ok-out.out) last
    (subst H (sym c.self.view_is) c.requires.served) (subst I (sym c.self.view_is) c.requires.begins) c.remove_break.ensures
    c.in_ok-out.ensures.empty c.put_deleted.ensures)
