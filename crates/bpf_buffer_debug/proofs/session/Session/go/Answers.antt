use Rattle.std.proofs.Common.{◌≡◌, ℕ, [], false, true, List, length, Option, refl, sym, subst}
use Rattle.std.specs.Prelude.{string_bytes, option_map}
use Rattle.bpf_names.specs.Names.{names_of}
use Rattle.bpf_buffer_debug.specs.Private.Kept.{first_of}
use Rattle.bpf_x86.specs.Machine.{X86}
use Rattle.bpf_buffering.specs.Search.{BufferedState, ShowsX86}
use Rattle.bpf_debug.specs.declared.breakpoint.Breakpoint.{Breakpoint}
use Rattle.bpf_debug.specs.Command.{Go}
use Rattle.bpf_debug.specs.Course.{KeepsOn}
use Rattle.bpf_debug.proofs.GoLaws.{count_is}
use Rattle.bpf_buffer_debug.specs.Command.{Plain}
use Rattle.bpf_buffer_debug.specs.Go.{Goes}
use Rattle.bpf_buffer_debug.specs.Session.{SessionState, Leaves}
use Rattle.bpf_buffer_debug.proofs.SessionLaws.{GoesOn, first_still, went}
use Rattle.bpf_debug.specs.Watch.{watched}
use Rattle.bpf_buffer_debug.proofs.session.Session.go.Goals as goal

pub returns-clause-answered : goal.returns-clause-answered
returns-clause-answered c =
    let m = c.self.inside in
    let cpus = c.cpus-high.result in
    let last = string_bytes c.in_ok-text.text in
    let s : SessionState = record {
      machine = m.album.machine;
      first = first_of m.album;
      names = names_of m.names;
      breaks = m.breakpoints.items;
      watch = option_map watched m.watch;
      course = m.course;
      lost = m.lost;
    } in
    let t : SessionState = record {
      machine = c.go.new.album.machine;
      first = first_of c.go.new.album;
      names = names_of m.names;
      breaks = m.breakpoints.items;
      watch = option_map watched m.watch;
      course = c.go.new.course;
      lost = false;
    } in
    let on : GoesOn s t = record {
      first = first_still m.album c.go.new.album c.self.invariant.kept c.go.ensures.kept;
      names = refl;
      breaks = refl;
      watch = refl;
      kept = λ lost. refl;
    } in
    let G : List Breakpoint → Option (List (ℕ × ℕ)) → Type 0 = λ bs h. (x : X86) → ShowsX86 m.album.machine x → (z : X86) × (moves : List ℕ)
    × Goes bs (option_map watched m.watch) true 0 cpus x 0 [] moves last z × ShowsX86 t.machine z × KeepsOn h moves t.course in
    let goes = subst (λ (bs : List Breakpoint). G bs m.course) c.deref.ensures.value
    (subst (G c.deref.result.now) c.reserve.ensures c.in_ok-text.ensures.goes) in
    let C : BufferedState → Type 0 = λ b. cpus ≡ length b.machine.store.maps.runs in
    let count = subst (λ (r : SessionState). C r.machine) (sym c.self.view_is)
    (subst C c.machine.ensures (count_is c.machine.result.now.machine cpus c.cpus-high.ensures.cpus)) in
    subst (λ (r : SessionState). Leaves r (Plain Go) last t) c.self.view_is (went s t on cpus last count goes)
