use Rattle.std.proofs.Common.{◌∙◌, ◌<◌, false, length, refl, sym, ap, subst, arith}
use Rattle.bpf_machine.specs.Schedule.{RunsSchedule}
use Rattle.bpf_explore.specs.declared.explorer.Origin.{Origin}
use Rattle.bpf_explore.specs.Album.{AlbumState}
use Rattle.bpf_explore.specs.Scouts.{IsTurnAhead}
use Rattle.bpf_explore.specs.Search.{Extends}
use Rattle.bpf_explore.proofs.AlbumLaws.{turned, adds_extends, kept_somewhere}
use Rattle.bpf_explore.proofs.ScoutLaws.{leads_exactly, same_has_more, scouts_more}
use Rattle.bpf_explore.proofs.TrailLaws.{schedules_join, led_there, cut_origins}
use Rattle.bpf_explore.proofs.explorer.Explorer.keep_turn.Goals as goal

pub keep_numbered-kept-requires : goal.keep_numbered-kept-requires
keep_numbered-kept-requires c =
    let is = subst (λ (a : AlbumState). IsTurnAhead false a.kept a.stock c.args.place c.args.cpu c.args.ahead c.args.numbers.now)
    (sym c.self.view_is) c.requires.turn in
    (is.0, is.2)

pub invariant_of-self-in_err-number : goal.invariant_of-self-in_err-number
invariant_of-self-in_err-number c =
    let m = c.self.inside in
    let is = subst (λ (a : AlbumState). IsTurnAhead false a.kept a.stock c.args.place c.args.cpu c.args.ahead c.args.numbers.now)
    (sym c.self.view_is) c.requires.turn in
    let all = c.keep_numbered-kept.new.self.kept in
    let o : Origin = record { from = c.in_ok-from.from; ahead = c.args.ahead; cpu = c.args.cpu } in
    let leads = leads_exactly m.album.kept c.args.place c.args.cpu c.args.ahead is.0 is.1 in
    let led = led_there RunsSchedule schedules_join m.album.kept is.1.old is.0 c.args.place o c.args.ahead is.1.at c.in_ok-from.ensures refl leads.runs in
    let adds = c.keep_numbered-kept.ensures.adds is.0 is.2 in
    let there = subst (λ (a : AlbumState). c.args.place < length a.kept) (sym c.self.view_is) c.requires.place in (
      cut_origins RunsSchedule schedules_join m.album.kept all is.0 m.origins.items c.push.new.self.items c.truncate.new.self.items o
          c.len.result c.self.invariant.0 (omega (arith, c.in_ok-from.ensures, there)) led adds c.in_ok-push.ensures.items c.len.ensures
          c.truncate.ensures.items,
      scouts_more m.album.stock c.keep_numbered-kept.new.self.stock
          (same_has_more m.album.stock c.keep_numbered-kept.new.self.stock c.keep_numbered-kept.ensures.stock) m.album.kept all
          (adds_extends m.album.kept all is.0 adds) false m.scouts.scouts.items c.self.invariant.1,
    )

pub invariant_of-self-2 : goal.invariant_of-self-2
invariant_of-self-2 c =
    let m = c.self.inside in
    let is = subst (λ (a : AlbumState). IsTurnAhead false a.kept a.stock c.args.place c.args.cpu c.args.ahead c.args.numbers.now)
    (sym c.self.view_is) c.requires.turn in
    let all = c.keep_numbered-kept.new.self.kept in
    let o : Origin = record { from = c.in_ok-from.from; ahead = c.args.ahead; cpu = c.args.cpu } in
    let leads = leads_exactly m.album.kept c.args.place c.args.cpu c.args.ahead is.0 is.1 in
    let led = led_there RunsSchedule schedules_join m.album.kept is.1.old is.0 c.args.place o c.args.ahead is.1.at c.in_ok-from.ensures refl leads.runs in
    let adds = c.keep_numbered-kept.ensures.adds is.0 is.2 in
    let there = subst (λ (a : AlbumState). c.args.place < length a.kept) (sym c.self.view_is) c.requires.place in (
      cut_origins RunsSchedule schedules_join m.album.kept all is.0 m.origins.items c.push.new.self.items c.truncate.new.self.items o
          c.len.result c.self.invariant.0 (omega (arith, c.in_ok-from.ensures, there)) led adds c.in_ok-push.ensures.items c.len.ensures
          c.truncate.ensures.items,
      scouts_more m.album.stock c.keep_numbered-kept.new.self.stock
          (same_has_more m.album.stock c.keep_numbered-kept.new.self.stock c.keep_numbered-kept.ensures.stock) m.album.kept all
          (adds_extends m.album.kept all is.0 adds) false m.scouts.scouts.items c.self.invariant.1,
    )

pub returns-in_err-number-clause-extends : goal.returns-in_err-number-clause-extends
returns-in_err-number-clause-extends c =
    let m = c.self.inside in
    let is = subst (λ (a : AlbumState). IsTurnAhead false a.kept a.stock c.args.place c.args.cpu c.args.ahead c.args.numbers.now)
    (sym c.self.view_is) c.requires.turn in
    let all = c.keep_numbered-kept.new.self.kept in
    subst (λ (a : AlbumState). Extends a.kept all) c.self.view_is
    (adds_extends m.album.kept all is.0 (c.keep_numbered-kept.ensures.adds is.0 is.2))

pub returns-clause-extends : goal.returns-clause-extends
returns-clause-extends c =
    let m = c.self.inside in
    let is = subst (λ (a : AlbumState). IsTurnAhead false a.kept a.stock c.args.place c.args.cpu c.args.ahead c.args.numbers.now)
    (sym c.self.view_is) c.requires.turn in
    let all = c.keep_numbered-kept.new.self.kept in
    subst (λ (a : AlbumState). Extends a.kept all) c.self.view_is
    (adds_extends m.album.kept all is.0 (c.keep_numbered-kept.ensures.adds is.0 is.2))

pub returns-clause-turned : goal.returns-clause-turned
returns-clause-turned c =
    let m = c.self.inside in
    let is = subst (λ (a : AlbumState). IsTurnAhead false a.kept a.stock c.args.place c.args.cpu c.args.ahead c.args.numbers.now)
    (sym c.self.view_is) c.requires.turn in
    let all = c.keep_numbered-kept.new.self.kept in
    let more = adds_extends m.album.kept all is.0 (c.keep_numbered-kept.ensures.adds is.0 is.2) in
    let leads = leads_exactly m.album.kept c.args.place c.args.cpu c.args.ahead is.0 is.1 in
    turned m.album.kept all c.args.place c.args.cpu is.1.old is.0 is.1.at more leads.turns
    (kept_somewhere all c.in_ok-number.number is.0 (c.in_ok-number.ensures.kept is.0 is.2))

pub returns-clause-cpus : goal.returns-clause-cpus
returns-clause-cpus c = c.keep_numbered-kept.ensures.cpus ∙ ap (λ (a : AlbumState). a.cpus) c.self.view_is

pub returns-clause-stock : goal.returns-clause-stock
returns-clause-stock c = c.keep_numbered-kept.ensures.stock ∙ ap (λ (a : AlbumState). a.stock) c.self.view_is
