use Rattle.std.proofs.Common.{◌≡◌, ℕ, ◌+◌, [], ◌∷◌, true, List, Option, Some, refl, sym, subst, map, String, Global}
use Rattle.std.specs.Prelude.{string_bytes, option_map}
use Rattle.bpf_names.specs.Names.{names_of}
use Rattle.bpf_buffer_debug.specs.Private.Kept.{first_of}
use Rattle.bpf_plain.specs.PlainStore.{has_cpu}
use Rattle.bpf_buffering.specs.Search.{BufferedState, buffer_at}
use Rattle.bpf_debug.specs.Course.{KeepsOn}
use Rattle.bpf_buffer_debug.specs.Command.{Flush}
use Rattle.bpf_buffer_debug.specs.Session.{SessionState, Leaves}
use Rattle.bpf_buffer_debug.specs.Waiting.{flush_text}
use Rattle.bpf_buffer_debug.proofs.SessionLaws.{GoesOn, first_still, flushed}
use Rattle.bpf_debug.specs.Watch.{watched}
use Rattle.bpf_buffer_debug.proofs.session.Session.flush_at.Goals as goal

pub returns-clause-answered : goal.returns-clause-answered
returns-clause-answered c =
    let m = c.self.inside in
    let cpu = c.args.cpu in
    let last = string_bytes c.in_ok-text.text in
    let s : SessionState = record {
      machine = m.album.machine;
      first = first_of m.album;
      names = names_of m.names;
      breaks = m.breakpoints.items;
      watch = option_map watched m.watch;
      course = m.course;
      lost = m.lost;
    } in
    let t : SessionState = record {
      machine = c.flush_alone.new.self.machine;
      first = first_of c.flush_alone.new.self;
      names = names_of m.names;
      breaks = m.breakpoints.items;
      watch = option_map watched m.watch;
      course = c.add.new.self;
      lost = m.lost;
    } in
    let on : GoesOn s t = record {
      first = first_still m.album c.flush_alone.new.self c.self.invariant.kept c.flush_alone.ensures.same;
      names = refl;
      breaks = refl;
      watch = refl;
      kept = λ lost. lost;
    } in
    let H : SessionState → Type 0 = λ r. has_cpu r.machine.machine.store cpu ≡ true in
    let N : Option (List (ℕ × ℕ)) → Type 0 = λ h. KeepsOn h ((128 + cpu) ∷ []) c.add.new.self in
    let M : BufferedState → Type 0 = λ b. last ≡ flush_text (map string_bytes c.deref.result.now) cpu (buffer_at b.buffers cpu) in
    let D : List (String Global) → Type 0 = λ ns. last ≡ flush_text (map string_bytes ns) cpu (buffer_at m.album.machine.buffers cpu) in
    let put = subst D c.deref.ensures.value (subst M c.machine.ensures c.in_ok-text.ensures) in
    subst (λ (r : SessionState). Leaves r (Flush (Some cpu)) last t) c.self.view_is
    (flushed s t on cpu c.flush_alone.result last (subst H (sym c.self.view_is) c.requires.served) c.flush_alone.ensures.flushed
    c.flush_alone.ensures.empty c.flush_alone.ensures.unchanged put (subst N c.reserve.ensures c.add.ensures))
