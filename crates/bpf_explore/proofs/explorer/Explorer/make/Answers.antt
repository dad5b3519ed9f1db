use Rattle.std.proofs.Common.{◌∙◌, ◌<◌, false, List, length, sym, ap, subst, arith}
use Rattle.bpf_machine.specs.Machine.{MachineState}
use Rattle.bpf_alike.specs.Covers.{IsKeptAlike}
use Rattle.bpf_machine.specs.Schedule.{RunsSchedule}
use Rattle.bpf_explore.specs.declared.explorer.Origin.{Origin}
use Rattle.bpf_explore.specs.Album.{AlbumState, HasMore, Stock}
use Rattle.bpf_explore.specs.Search.{Extends}
use Rattle.bpf_explore.specs.Private.Album.{AddsOne}
use Rattle.bpf_explore.proofs.AlbumLaws.{turned, adds_extends, kept_somewhere}
use Rattle.bpf_explore.proofs.ScoutLaws.{IsExplorer, explorer_still, scouts_more}
use Rattle.bpf_explore.proofs.TrailLaws.{schedules_join, led_there, cut_origins}
use Rattle.bpf_explore.proofs.explorer.Explorer.make.Goals as goal

pub invariant_of-self-in_err-kept : goal.invariant_of-self-in_err-kept
invariant_of-self-in_err-kept c =
    let m = c.self.inside in
    let kept = c.turn_ahead-made.ensures.same ∙ c.restore.ensures.same in
    let stock = c.turn_ahead-made.ensures.stock ∙ c.restore.ensures.stock in
    let all = c.keep-kept.new.self.kept in
    let o : Origin = record { from = c.in_ok-from.from; ahead = c.in_ok-ahead.ahead; cpu = c.args.cpu } in
    let led = led_there RunsSchedule schedules_join m.album.kept c.restore.new.self.machine c.turn_ahead-made.new.self.machine c.args.place
    o c.turn_ahead-made.result c.in_ok-restore.ensures.ok c.in_ok-from.ensures c.in_ok-ahead.ensures c.turn_ahead-made.ensures.runs in
    let adds = subst (λ (ms : List MachineState). AddsOne ms c.turn_ahead-made.new.self.machine all) kept c.keep-kept.ensures.adds in
    let there = subst (λ (a : AlbumState). c.args.place < length a.kept) (sym c.self.view_is) c.requires in (
      cut_origins RunsSchedule schedules_join m.album.kept all c.turn_ahead-made.new.self.machine m.origins.items
          c.push.new.self.items c.truncate.new.self.items o c.len.result c.self.invariant.0 (omega (arith, c.in_ok-from.ensures, there)) led
          adds c.in_ok-push.ensures.items c.len.ensures c.truncate.ensures.items,
      scouts_more m.album.stock c.keep-kept.new.self.stock (subst (λ (s : Stock). HasMore s c.keep-kept.new.self.stock) stock c.keep-kept.ensures.more)
          m.album.kept all (adds_extends m.album.kept all c.turn_ahead-made.new.self.machine adds) false m.scouts.scouts.items c.self.invariant.1,
    )

pub invariant_of-self-2 : goal.invariant_of-self-2
invariant_of-self-2 c =
    let m = c.self.inside in
    let kept = c.turn_ahead-made.ensures.same ∙ c.restore.ensures.same in
    let stock = c.turn_ahead-made.ensures.stock ∙ c.restore.ensures.stock in
    let all = c.keep-kept.new.self.kept in
    let o : Origin = record { from = c.in_ok-from.from; ahead = c.in_ok-ahead.ahead; cpu = c.args.cpu } in
    let led = led_there RunsSchedule schedules_join m.album.kept c.restore.new.self.machine c.turn_ahead-made.new.self.machine c.args.place
    o c.turn_ahead-made.result c.in_ok-restore.ensures.ok c.in_ok-from.ensures c.in_ok-ahead.ensures c.turn_ahead-made.ensures.runs in
    let adds = subst (λ (ms : List MachineState). AddsOne ms c.turn_ahead-made.new.self.machine all) kept c.keep-kept.ensures.adds in
    let there = subst (λ (a : AlbumState). c.args.place < length a.kept) (sym c.self.view_is) c.requires in (
      cut_origins RunsSchedule schedules_join m.album.kept all c.turn_ahead-made.new.self.machine m.origins.items
          c.push.new.self.items c.truncate.new.self.items o c.len.result c.self.invariant.0 (omega (arith, c.in_ok-from.ensures, there)) led
          adds c.in_ok-push.ensures.items c.len.ensures c.truncate.ensures.items,
      scouts_more m.album.stock c.keep-kept.new.self.stock (subst (λ (s : Stock). HasMore s c.keep-kept.new.self.stock) stock c.keep-kept.ensures.more)
          m.album.kept all (adds_extends m.album.kept all c.turn_ahead-made.new.self.machine adds) false m.scouts.scouts.items c.self.invariant.1,
    )

pub returns-clause-turned : goal.returns-clause-turned
returns-clause-turned c =
    let m = c.self.inside in
    let all = c.keep-kept.new.self.kept in
    let after = c.turn_ahead-made.new.self.machine in
    let kept = c.turn_ahead-made.ensures.same ∙ c.restore.ensures.same in
    let more = subst (λ (ms : List MachineState). Extends ms all) kept (adds_extends c.turn_ahead-made.new.self.kept all after c.keep-kept.ensures.adds) in
    turned m.album.kept all c.args.place c.args.cpu c.restore.new.self.machine after c.in_ok-restore.ensures.ok more
    c.turn_ahead-made.ensures.turns (subst (IsKeptAlike all) c.keep-kept.ensures.same
    (kept_somewhere all c.in_ok-kept.field-0 c.keep-kept.new.self.machine c.in_ok-kept.ensures.kept))

pub returns-clause-width : goal.returns-clause-width
returns-clause-width c = c.keep-kept.ensures.cpus ∙ (c.turn_ahead-made.ensures.cpus ∙ (c.restore.ensures.cpus ∙ ap (λ (a : AlbumState). a.cpus) c.self.view_is))

pub invariant_of-self : goal.invariant_of-self
invariant_of-self c =
    let m = c.self.inside in
    let now = c.restore.new.self in
    explorer_still m.album.kept now.kept m.album.stock now.stock m.origins.items m.scouts.scouts.items (c.restore.ensures.same)
    (c.restore.ensures.stock) c.self.invariant

pub invariant_of-self-in_err-ahead : goal.invariant_of-self-in_err-ahead
invariant_of-self-in_err-ahead c =
    let m = c.self.inside in
    let now = c.turn_ahead-made.new.self in
    explorer_still m.album.kept now.kept m.album.stock now.stock m.origins.items m.scouts.scouts.items
    (c.turn_ahead-made.ensures.same ∙ c.restore.ensures.same) (c.turn_ahead-made.ensures.stock ∙ c.restore.ensures.stock) c.self.invariant

pub invariant_of-self-in_err-push : goal.invariant_of-self-in_err-push
invariant_of-self-in_err-push c =
    let m = c.self.inside in
    let now = c.turn_ahead-made.new.self in
    let same = c.turn_ahead-made.ensures.same ∙ c.restore.ensures.same in
    subst (λ (os : List Origin). IsExplorer now.kept now.stock os m.scouts.scouts.items) (sym c.in_err-push.ensures.items)
    (explorer_still m.album.kept now.kept m.album.stock now.stock m.origins.items m.scouts.scouts.items same
    (c.turn_ahead-made.ensures.stock ∙ c.restore.ensures.stock) c.self.invariant)
