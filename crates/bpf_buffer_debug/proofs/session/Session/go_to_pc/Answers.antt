use Rattle.std.proofs.Common.{◌≡◌, ℕ, ◌+◌, [], ◌∷◌, false, true, List, Option, Some, refl, sym, subst}
use Rattle.std.specs.Prelude.{string_bytes, option_map}
use Rattle.bpf_names.specs.Names.{names_of}
use Rattle.bpf_buffer_debug.specs.Private.Kept.{first_of}
use Rattle.bpf_plain.specs.PlainStore.{has_cpu}
use Rattle.bpf_x86.specs.Machine.{X86}
use Rattle.bpf_buffering.specs.Search.{ShowsX86}
use Rattle.bpf_debug.specs.Command.{GoTo}
use Rattle.bpf_debug.specs.Course.{KeepsOn}
use Rattle.bpf_debug.specs.Session.{IsPc}
use Rattle.bpf_buffer_debug.specs.Command.{Plain}
use Rattle.bpf_buffer_debug.specs.Go.{Goes}
use Rattle.bpf_buffer_debug.specs.Session.{SessionState, Leaves}
use Rattle.bpf_buffer_debug.proofs.SessionLaws.{GoesOn, first_still, went_to}
use Rattle.bpf_debug.specs.Watch.{watched}
use Rattle.bpf_buffer_debug.proofs.session.Session.go_to_pc.Goals as goal

pub returns-clause-answered : goal.returns-clause-answered
returns-clause-answered c =
    let m = c.self.inside in
    let cpu = c.args.cpu in
    let pc = c.args.pc in
    let last = string_bytes c.in_ok-text.text in
    let s : SessionState = record {
      machine = m.album.machine;
      first = first_of m.album;
      names = names_of m.names;
      breaks = m.breakpoints.items;
      watch = option_map watched m.watch;
      course = m.course;
      lost = m.lost;
    } in
    let t : SessionState = record {
      machine = c.go.new.album.machine;
      first = first_of c.go.new.album;
      names = names_of m.names;
      breaks = m.breakpoints.items;
      watch = option_map watched m.watch;
      course = c.go.new.course;
      lost = false;
    } in
    let on : GoesOn s t = record {
      first = first_still m.album c.go.new.album c.self.invariant.kept c.go.ensures.kept;
      names = refl;
      breaks = refl;
      watch = refl;
      kept = λ lost. refl;
    } in
    let G : Option (List (ℕ × ℕ)) → Type 0 = λ h. (x : X86) → ShowsX86 m.album.machine x → (z : X86) × (moves : List ℕ)
    × Goes (record { cpu = cpu; pc = pc } ∷ []) (option_map watched m.watch) false cpu (cpu + 1) x cpu [] moves last z × ShowsX86 t.machine
    z × KeepsOn h moves t.course in
    let H : SessionState → Type 0 = λ r. has_cpu r.machine.machine.store cpu ≡ true in
    let I : SessionState → Type 0 = λ r. IsPc r.machine.machine.programs pc in
    subst (λ (r : SessionState). Leaves r (Plain (GoTo (Some cpu) (Some pc))) last t) c.self.view_is
    (went_to s t on cpu pc last (subst H (sym c.self.view_is) c.requires.served) (subst I (sym c.self.view_is) c.requires.begins)
    (subst G c.reserve.ensures c.in_ok-text.ensures.goes))
