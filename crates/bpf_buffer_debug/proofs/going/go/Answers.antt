use Rattle.std.proofs.Common.{◌≡◌, ◌∙◌, ℕ, true, false, get_or, ◌⊎◌, refl, sym, subst, arith}
use Rattle.std.specs.Prelude.{option_map, string_bytes}
use Rattle.std.proofs.lemmas.List.{length-set}
use Rattle.bpf_machine.proofs.HostLaws.{same_host, same_host_still}
use Rattle.bpf_buffering.specs.Search.{BufferedState}
use Rattle.bpf_debug.specs.Go.{AreIdle, HasWork, IsUp, StandsAt, has_break}
use Rattle.bpf_debug.specs.Watch.{ShowsOther, ShowsWatched, kept_values, watched}
use Rattle.bpf_debug.proofs.GoLaws.{none_is}
use Rattle.bpf_buffer_debug.proofs.GoLaws.{changed, ended, flush_changed, starts, stopped, turned}
use Rattle.bpf_buffer_debug.proofs.going.go.Goals as goal

pub loop-init : goal.loop-init
loop-init c = record {
  comes = starts c.args.breakpoints.now (option_map watched c.args.watching.watch.now) c.args.cpus.flushes c.args.cpus.low c.args.cpus.high
      c.args.course.now c.args.album.now.machine
      (string_bytes c.new-out.result) c.new-out.ensures.bytes;
  watched = c.requires.watched;
  host = same_host c.args.album.now.machine.machine;
  kept = refl;
  size = refl;
  above = omega arith;
}

pub returns-in_default-clause-goes : goal.returns-in_default-clause-goes
returns-in_default-clause-goes c =
    let new = c.loop.album.machine in
    let low = c.args.cpus.low in
    let high = c.args.cpus.high in
    let idle = none_is (AreIdle c.machine.result.now.machine.jobs low high) c.next_up.result c.next_up.ensures.idle c.in_default.not-Some in
    ended c.args.breakpoints.now (option_map watched c.args.watching.watch.now) c.args.cpus.flushes low high c.args.course.now
    c.args.album.now.machine new c.loop.from c.loop.gone c.loop.course
    (string_bytes c.loop.out) c.loop.invariant.comes (string_bytes c.push_str.new.self)
    (subst (λ (m : BufferedState). AreIdle m.machine.jobs low high) c.machine.ensures idle) c.in_ok-push_str.ensures.bytes

pub stop_before-requires : goal.stop_before-requires
stop_before-requires c =
    subst (λ (m : BufferedState). HasWork m.machine.jobs c.in-Some.cpu) (c.machine.ensures ∙ sym c.machine-in-loop.ensures) c.in-Some.ensures.up.works

pub returns-in-Some-stop_before-clause-goes : goal.returns-in-Some-stop_before-clause-goes
returns-in-Some-stop_before-clause-goes c =
    let low = c.args.cpus.low in
    let high = c.args.cpus.high in
    let cpu = c.in-Some.cpu in
    let pc = c.in-Some-stop_before.pc in
    let small = c.in-Some.ensures.few in
    let up = subst (λ (m : BufferedState). IsUp m.machine.jobs low high c.loop.from cpu) c.machine.ensures c.in-Some.ensures.up in
    let stands = subst (λ (m : BufferedState). StandsAt m.machine.jobs cpu pc) c.machine-in-loop.ensures c.in-Some-stop_before.ensures.stop.1 in
    stopped c.args.breakpoints.now (option_map watched c.args.watching.watch.now) c.args.cpus.flushes low high c.args.course.now
    c.args.album.now.machine c.loop.album.machine c.loop.from
    c.loop.gone c.loop.course (string_bytes c.loop.out) c.loop.invariant.comes cpu pc (string_bytes c.push_stop.new.out) (omega arith) up
    c.in-Some-stop_before.ensures.stop.0 stands c.in-Some-stop_before.ensures.stop.2 c.in_ok-push_stop.ensures

pub returns-then-differs-clause-goes : goal.returns-then-differs-clause-goes
returns-then-differs-clause-goes c =
    let breaks = c.args.breakpoints.now in
    let watch = option_map watched c.args.watching.watch.now in
    let values = kept_values c.args.watching.before.now in
    let low = c.args.cpus.low in
    let high = c.args.cpus.high in
    let cpu = c.in-Some.cpu in
    let marks = c.loop.gone in
    let old = c.args.album.now.machine in
    let new = c.loop.album.machine in
    let mid = c.take_turn.new.album.machine in
    let small = c.in-Some.ensures.few in
    let up = subst (λ (m : BufferedState). IsUp m.machine.jobs low high c.loop.from cpu) c.machine.ensures c.in-Some.ensures.up in
    let May : BufferedState → Type 0 = λ m. (get_or marks cpu false ≡ false)
    ⊎ ((p : ℕ) × StandsAt m.machine.jobs cpu p × (has_break breaks cpu p ≡ false)) in
    let may = subst May c.machine-in-loop.ensures
    (none_is (May c.machine-in-loop.result.now) c.stop_before.result c.stop_before.ensures.free c.in_default-stop_before.not-Some) in
    let turn = c.in_ok-take_turn.ensures.turns in
    let other = subst (λ (m : BufferedState). ShowsOther m.machine.store watch values) c.machine-in-loop-2.ensures
    (c.differs.ensures.changed c.if-differs.true) in
    changed breaks watch c.args.cpus.flushes low high c.args.course.now old new c.loop.from marks c.loop.course (string_bytes c.loop.out)
    c.loop.invariant.comes mid cpu turn.0 c.take_turn.new.course (string_bytes c.take_turn.new.out) (string_bytes c.push_changed.new.out) (omega arith)
    up may turn.1 c.in_ok-take_turn.ensures.course turn.2 c.in_ok-push_changed.ensures values c.loop.invariant.watched other

pub returns-then-differs-2-clause-goes : goal.returns-then-differs-2-clause-goes
returns-then-differs-2-clause-goes c =
    let breaks = c.args.breakpoints.now in
    let watch = option_map watched c.args.watching.watch.now in
    let values = kept_values c.args.watching.before.now in
    let low = c.args.cpus.low in
    let high = c.args.cpus.high in
    let cpu = c.in-Some.cpu in
    let marks = c.loop.gone in
    let old = c.args.album.now.machine in
    let new = c.loop.album.machine in
    let mid = c.take_turn.new.album.machine in
    let next = c.flush.new.album.machine in
    let small = c.in-Some.ensures.few in
    let up = subst (λ (m : BufferedState). IsUp m.machine.jobs low high c.loop.from cpu) c.machine.ensures c.in-Some.ensures.up in
    let May : BufferedState → Type 0 = λ m. (get_or marks cpu false ≡ false)
    ⊎ ((p : ℕ) × StandsAt m.machine.jobs cpu p × (has_break breaks cpu p ≡ false)) in
    let may = subst May c.machine-in-loop.ensures
    (none_is (May c.machine-in-loop.result.now) c.stop_before.result c.stop_before.ensures.free c.in_default-stop_before.not-Some) in
    let turn = c.in_ok-take_turn.ensures.turns in
    let then = subst (λ (m : BufferedState). ShowsWatched m.machine.store watch values) c.machine-in-loop-2.ensures
    (c.differs.ensures.same c.if-differs.false) in
    let other = subst (λ (m : BufferedState). ShowsOther m.machine.store watch values) c.machine-in-loop-3.ensures
    (c.differs-in-loop.ensures.changed c.if-differs-2.true) in
    flush_changed breaks watch c.args.cpus.flushes low high c.args.course.now old new c.loop.from marks c.loop.course (string_bytes c.loop.out)
    c.loop.invariant.comes mid next cpu turn.0 c.take_turn.new.course c.flush.new.course (string_bytes c.take_turn.new.out)
    (string_bytes c.push_flush_changed.new.out) (omega arith) up may turn.1 c.in_ok-take_turn.ensures.course turn.2 c.flush.ensures.flushed
    c.in_ok-push_flush_changed.ensures values c.loop.invariant.watched then other

pub loop-preserved : goal.loop-preserved
loop-preserved c =
    let breaks = c.args.breakpoints.now in
    let watch = option_map watched c.args.watching.watch.now in
    let values = kept_values c.args.watching.before.now in
    let low = c.args.cpus.low in
    let high = c.args.cpus.high in
    let cpu = c.in-Some.cpu in
    let marks = c.loop.gone in
    let old = c.args.album.now.machine in
    let new = c.loop.album.machine in
    let mid = c.take_turn.new.album.machine in
    let next = c.flush.new.album.machine in
    let small = c.in-Some.ensures.few in
    let size = c.loop.invariant.size in
    let up = subst (λ (m : BufferedState). IsUp m.machine.jobs low high c.loop.from cpu) c.machine.ensures c.in-Some.ensures.up in
    let May : BufferedState → Type 0 = λ m. (get_or marks cpu false ≡ false)
    ⊎ ((p : ℕ) × StandsAt m.machine.jobs cpu p × (has_break breaks cpu p ≡ false)) in
    let may = subst May c.machine-in-loop.ensures
    (none_is (May c.machine-in-loop.result.now) c.stop_before.result c.stop_before.ensures.free c.in_default-stop_before.not-Some) in
    let turn = c.in_ok-take_turn.ensures.turns in
    let then = subst (λ (m : BufferedState). ShowsWatched m.machine.store watch values) c.machine-in-loop-2.ensures
    (c.differs.ensures.same c.if-differs.false) in
    let now = subst (λ (m : BufferedState). ShowsWatched m.machine.store watch values) c.machine-in-loop-3.ensures
    (c.differs-in-loop.ensures.same c.if-differs-2.false) in
    record {
      comes = turned breaks watch c.args.cpus.flushes low high c.args.course.now old new c.loop.from marks c.loop.course (string_bytes c.loop.out)
          c.loop.invariant.comes mid next cpu turn.0 c.take_turn.new.course c.flush.new.course (string_bytes c.take_turn.new.out) (omega arith)
          (omega arith) up may turn.1 c.in_ok-take_turn.ensures.course turn.2 c.flush.ensures.flushed values c.loop.invariant.watched then now;
      watched = now;
      host = same_host_still old.machine mid.machine next.machine (same_host_still old.machine new.machine mid.machine c.loop.invariant.host
          c.take_turn.ensures.host) c.flush.ensures.host;
      kept = c.flush.ensures.kept ∙ c.take_turn.ensures.kept ∙ c.loop.invariant.kept;
      size = length-set marks cpu true ∙ size;
      above = (let above = up.above in omega arith);
    }
