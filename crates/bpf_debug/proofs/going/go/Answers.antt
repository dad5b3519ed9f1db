use Rattle.std.proofs.Common.{◌≡◌, ℕ, ◌+◌, true, false, List, get_or, ◌⊎◌, ◌++◌, refl, sym, ap, subst, ◌∙◌, arith}
use Rattle.std.specs.Prelude.{string_bytes, string_len, string_capacity, slice_set, option_map, Vec}
use Rattle.std.specs.declared.alloc.Global.{Global}
use Rattle.std.proofs.lemmas.List.{length-set}
use Rattle.bpf_plain.specs.PlainStore.{Contents}
use Rattle.bpf_debug.specs.Go.{AreIdle, StandsAt, has_break}
use Rattle.bpf_debug.specs.Watch.{ShowsOther, ShowsWatched, kept_values, watched}
use Rattle.bpf_machine.proofs.HostLaws.{same_host, same_host_still}
use Rattle.bpf_debug.specs.Answer.{changed_line}
use Rattle.bpf_debug.proofs.GoLaws.{Comes, Ends, Leads, changed, starts, turned, ended, stopped, falls, fewer, not_idle, room_left, none_is}
use Rattle.bpf_debug.proofs.going.go.Goals as goal

pub loop-cpu-init : goal.loop-cpu-init
loop-cpu-init c = record {
  comes = starts c.args.breakpoints.now (option_map watched c.args.watching.watch.now) c.args.cpus.low c.args.cpus.high c.args.course.now
      c.args.machine.now (string_bytes c.args.out.now);
  watched = c.requires.watched;
  same = same_host c.args.machine.now;
  room = c.requires.room;
  size = refl;
  above = omega arith;
}

pub returns-in-Some-stop_before-clause-goes : goal.returns-in-Some-stop_before-clause-goes
returns-in-Some-stop_before-clause-goes c =
    let breaks = c.args.breakpoints.now in
    let watch = option_map watched c.args.watching.watch.now in
    let low = c.args.cpus.low in
    let high = c.args.cpus.high in
    let noted = c.args.course.now in
    let notes = c.loop-cpu.course in
    let old = c.args.machine.now in
    let new = c.loop-cpu.machine in
    let before = string_bytes c.args.out.now in
    let after = string_bytes c.loop-cpu.out in
    let E : List ℕ → Type 0 = Ends breaks watch low high noted old new before c.loop-cpu.from c.loop-cpu.gone notes after c.loop-cpu.invariant.comes in
    let small = c.in-Some.ensures.few in
    subst E (sym c.put_stop.ensures) (stopped breaks watch low high noted old new before c.loop-cpu.from c.loop-cpu.gone notes after
    c.loop-cpu.invariant.comes c.in-Some.cpu c.in-Some-stop_before.pc (omega arith) c.in-Some.ensures.up
    c.in-Some-stop_before.ensures.stop.0 c.in-Some-stop_before.ensures.stop.1 c.in-Some-stop_before.ensures.stop.2)

pub loop-cpu-smaller : goal.loop-cpu-smaller
loop-cpu-smaller c =
    let breaks = c.args.breakpoints.now in
    let watch = option_map watched c.args.watching.watch.now in
    let low = c.args.cpus.low in
    let high = c.args.cpus.high in
    let noted = c.args.course.now in
    let notes = c.loop-cpu.course in
    let old = c.args.machine.now in
    let new = c.loop-cpu.machine in
    let next = c.turn-turn.new.self in
    let before = string_bytes c.args.out.now in
    let after = string_bytes c.loop-cpu.out in
    let w = c.requires.shown.0 in
    let shows = c.requires.shown.1 in
    fewer c.turn-turn.result new.jobs next.jobs
    (falls c.turns_fall.ensures breaks watch low high noted notes old new next before after c.loop-cpu.from c.loop-cpu.gone c.in-Some.cpu
    c.turn-turn.result w shows c.loop-cpu.invariant.comes c.turn-turn.ensures.turn)
    (not_idle breaks watch low high noted notes old new next before after c.loop-cpu.from c.loop-cpu.gone c.in-Some.cpu c.turn-turn.result w
    shows c.loop-cpu.invariant.comes c.in-Some.ensures.up.works c.turn-turn.ensures.turn)

pub loop-cpu-preserved : goal.loop-cpu-preserved
loop-cpu-preserved c =
    let breaks = c.args.breakpoints.now in
    let watch = option_map watched c.args.watching.watch.now in
    let low = c.args.cpus.low in
    let high = c.args.cpus.high in
    let noted = c.args.course.now in
    let notes = c.loop-cpu.course in
    let old = c.args.machine.now in
    let new = c.loop-cpu.machine in
    let next = c.turn-turn.new.self in
    let before = string_bytes c.args.out.now in
    let after = string_bytes c.loop-cpu.out in
    let cpu = c.in-Some.cpu in
    let marks = c.loop-cpu.gone in
    let w = c.requires.shown.0 in
    let shows = c.requires.shown.1 in
    let comes = c.loop-cpu.invariant.comes in
    let small = c.in-Some.ensures.few in
    let size = c.loop-cpu.invariant.size in
    let may : (get_or marks cpu false ≡ false) ⊎ ((p : ℕ) × StandsAt new.jobs cpu p × (has_break breaks cpu p ≡ false)) =
    none_is _ c.stop_before.result c.stop_before.ensures.free c.in_default-stop_before.not-Some
    in
    let fall = falls c.turns_fall.ensures breaks watch low high noted notes old new next before after c.loop-cpu.from marks cpu
    c.turn-turn.result w shows comes c.turn-turn.ensures.turn in
    let works = not_idle breaks watch low high noted notes old new next before after c.loop-cpu.from marks cpu c.turn-turn.result w shows
    comes c.in-Some.ensures.up.works c.turn-turn.ensures.turn in
    let values = kept_values c.args.watching.before.now in
    let now : ShowsWatched next.store watch values = subst (λ (p : Contents). ShowsWatched p watch values) c.store.ensures
    (c.has_changed.ensures.same c.if-has_changed.false) in
    let T : List ℕ → Type 0 = λ s. Comes breaks watch low high noted old before next (cpu + 1) (slice_set marks cpu true) c.add.new.self s in
    record {
      comes = subst T (sym c.put_ended.ensures.text) (turned breaks watch low high noted old new before c.loop-cpu.from marks notes after
          comes next cpu c.turn-turn.result c.add.new.self (omega arith) (omega arith) c.in-Some.ensures.up may c.turn-turn.ensures.turn
          c.add.ensures values c.loop-cpu.invariant.watched now);
      watched = now;
      same = same_host_still old new next c.loop-cpu.invariant.same c.turn-turn.ensures.same;
      room = room_left c.turn-turn.result new.jobs next.jobs (string_len c.loop-cpu.out) (string_len c.put_ended.new.out)
          (string_capacity c.loop-cpu.out) (string_capacity c.put_ended.new.out) fall works c.loop-cpu.invariant.room
          c.put_ended.ensures.room c.put_ended.ensures.size c.put_ended.ensures.none;
      size = length-set marks cpu true ∙ size;
      above = (let up = c.in-Some.ensures.up.above in omega arith);
    }

pub returns-clause-goes : goal.returns-clause-goes
returns-clause-goes c =
    let breaks = c.args.breakpoints.now in
    let watch = option_map watched c.args.watching.watch.now in
    let low = c.args.cpus.low in
    let high = c.args.cpus.high in
    let noted = c.args.course.now in
    let notes = c.loop-cpu.course in
    let old = c.args.machine.now in
    let new = c.loop-cpu.machine in
    let before = string_bytes c.args.out.now in
    let after = string_bytes c.loop-cpu.out in
    let comes = c.loop-cpu.invariant.comes in
    let E : List ℕ → Type 0 = Ends breaks watch low high noted old new before c.loop-cpu.from c.loop-cpu.gone notes after comes in
    let idle = none_is (AreIdle new.jobs low high) c.next_up.result c.next_up.ensures.idle c.in_default.not-Some in
    subst E (sym c.put.ensures.text) (ended breaks watch low high noted old new before c.loop-cpu.from c.loop-cpu.gone notes after comes idle)

-- the line that says who changed the value has the room that is kept for the last one
pub put_changed-requires : goal.put_changed-requires
put_changed-requires c =
    let breaks = c.args.breakpoints.now in
    let watch = option_map watched c.args.watching.watch.now in
    let low = c.args.cpus.low in
    let high = c.args.cpus.high in
    let noted = c.args.course.now in
    let notes = c.loop-cpu.course in
    let old = c.args.machine.now in
    let new = c.loop-cpu.machine in
    let next = c.turn-turn.new.self in
    let before = string_bytes c.args.out.now in
    let after = string_bytes c.loop-cpu.out in
    let cpu = c.in-Some.cpu in
    let marks = c.loop-cpu.gone in
    let w = c.requires.shown.0 in
    let shows = c.requires.shown.1 in
    let comes = c.loop-cpu.invariant.comes in
    let fall = falls c.turns_fall.ensures breaks watch low high noted notes old new next before after c.loop-cpu.from marks cpu
    c.turn-turn.result w shows comes c.turn-turn.ensures.turn in
    let works = not_idle breaks watch low high noted notes old new next before after c.loop-cpu.from marks cpu c.turn-turn.result w shows
    comes c.in-Some.ensures.up.works c.turn-turn.ensures.turn in
    let room = room_left c.turn-turn.result new.jobs next.jobs (string_len c.loop-cpu.out) (string_len c.put_ended.new.out)
    (string_capacity c.loop-cpu.out) (string_capacity c.put_ended.new.out) fall works c.loop-cpu.invariant.room
    c.put_ended.ensures.room c.put_ended.ensures.size c.put_ended.ensures.none in
    omega (arith, room)

pub returns-then-has_changed-clause-same : goal.returns-then-has_changed-clause-same
returns-then-has_changed-clause-same c = same_host_still c.args.machine.now c.loop-cpu.machine c.turn-turn.new.self
    c.loop-cpu.invariant.same c.turn-turn.ensures.same

pub returns-then-has_changed-clause-goes : goal.returns-then-has_changed-clause-goes
returns-then-has_changed-clause-goes c =
    let breaks = c.args.breakpoints.now in
    let watch = option_map watched c.args.watching.watch.now in
    let low = c.args.cpus.low in
    let high = c.args.cpus.high in
    let noted = c.args.course.now in
    let notes = c.loop-cpu.course in
    let old = c.args.machine.now in
    let new = c.loop-cpu.machine in
    let next = c.turn-turn.new.self in
    let before = string_bytes c.args.out.now in
    let after = string_bytes c.loop-cpu.out in
    let cpu = c.in-Some.cpu in
    let marks = c.loop-cpu.gone in
    let w = c.requires.shown.0 in
    let shows = c.requires.shown.1 in
    let comes = c.loop-cpu.invariant.comes in
    let small = c.in-Some.ensures.few in
    let may : (get_or marks cpu false ≡ false) ⊎ ((p : ℕ) × StandsAt new.jobs cpu p × (has_break breaks cpu p ≡ false)) =
    none_is _ c.stop_before.result c.stop_before.ensures.free c.in_default-stop_before.not-Some
    in
    let values = kept_values c.args.watching.before.now in
    let other : ShowsOther next.store watch values = subst (λ (p : Contents). ShowsOther p watch values) c.store.ensures
    (c.has_changed.ensures.changed c.if-has_changed.true) in
    let L : List ℕ → Type 0 = Leads breaks watch low high noted old new before c.loop-cpu.from marks notes after comes next c.add.new.self in
    let put = c.put_changed.ensures ∙ ap (λ (s : List ℕ). s ++ changed_line cpu) c.put_ended.ensures.text in
    subst L (sym put) (changed breaks watch low high noted old new before c.loop-cpu.from marks notes after comes next cpu
    c.turn-turn.result c.add.new.self (omega arith) c.in-Some.ensures.up may c.turn-turn.ensures.turn c.add.ensures values
    c.loop-cpu.invariant.watched other)
