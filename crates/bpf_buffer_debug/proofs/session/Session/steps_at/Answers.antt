use Rattle.std.proofs.Common.{◌≡◌, ℕ, false, true, List, length, Option, refl, sym, subst}
use Rattle.std.specs.Prelude.{string_bytes, option_map}
use Rattle.bpf_machine.specs.Schedule.{unrolled}
use Rattle.bpf_names.specs.Names.{names_of}
use Rattle.bpf_buffer_debug.specs.Private.Kept.{first_of}
use Rattle.bpf_debug.specs.Command.{Steps}
use Rattle.bpf_debug.specs.Course.{KeepsOn}
use Rattle.bpf_buffer_debug.specs.Command.{Plain}
use Rattle.bpf_buffer_debug.specs.Session.{SessionState, Leaves, are_cpus}
use Rattle.bpf_buffer_debug.proofs.SessionLaws.{GoesOn, first_still, stepped}
use Rattle.bpf_debug.specs.Watch.{watched}
use Rattle.bpf_buffer_debug.proofs.session.Session.steps_at.Goals as goal

pub returns-clause-answered : goal.returns-clause-answered
returns-clause-answered c =
    let m = c.self.inside in
    let runs = c.args.runs.now in
    let last = string_bytes c.in_ok-text.text in
    let told = c.in_ok-text.ensures.told in
    let s : SessionState = record {
      machine = m.album.machine;
      first = first_of m.album;
      names = names_of m.names;
      breaks = m.breakpoints.items;
      watch = option_map watched m.watch;
      course = m.course;
      lost = m.lost;
    } in
    let t : SessionState = record {
      machine = c.take_runs.new.album.machine;
      first = first_of c.take_runs.new.album;
      names = names_of m.names;
      breaks = m.breakpoints.items;
      watch = option_map watched m.watch;
      course = c.add_runs.new.self;
      lost = false;
    } in
    let on : GoesOn s t = record {
      first = first_still m.album c.take_runs.new.album c.self.invariant.kept c.take_runs.ensures.kept;
      names = refl;
      breaks = refl;
      watch = refl;
      kept = λ lost. refl;
    } in
    let H : SessionState → Type 0 = λ r. are_cpus (length r.machine.machine.store.maps.runs) runs ≡ true in
    let N : Option (List (ℕ × ℕ)) → Type 0 = λ h. KeepsOn h (unrolled runs) c.add_runs.new.self in
    subst (λ (r : SessionState). Leaves r (Plain (Steps runs)) last t) c.self.view_is
    (stepped s t on runs told.0 last (subst H (sym c.self.view_is) c.requires.served) told.1 told.2
    (subst N c.reserve.ensures c.add_runs.ensures))
