use Rattle.std.proofs.Common.{◌∙◌, ◌+◌, ◌<◌, Bool, ℕ, List, Option, length, map, replicate, sym, ap, subst}
use Rattle.std.specs.Prelude.{IfOk, IfSome}
use Rattle.std.proofs.lemmas.Result.{IfOk-weaker}
use Rattle.bpf_x86.specs.Machine.{TurnOf}
use Rattle.bpf_buffering.specs.Search.{BufferedState, RunsTo, move_of}
use Rattle.bpf_reorderings.specs.Private.Searching.{Searched, Extends, IsFoundAt, IsMovedTo}
use Rattle.bpf_reorderings.specs.Private.Trail.{IsLedFrom}
use Rattle.bpf_reorderings.proofs.Growing.{turn_numbers, filled_kept, filled_leads, led_from, idle_moved, kept_moved}
use Rattle.bpf_reorderings.proofs.explorer.Explorer.turn.Goals as goal

pub keep-requires : goal.keep-requires
keep-requires c =
    let m = c.self.inside in
    let same = c.fill.ensures.same ∙ c.turn_ahead.ensures.same ∙ c.restore.ensures.same in
    let count = c.in-Some.more + 1 in
    let turns : RunsTo c.restore.new.self.machine (replicate count (TurnOf c.args.cpu)) c.turn_ahead.new.self.machine =
    subst (λ (found : Option ℕ). IfSome found (λ n. RunsTo c.restore.new.self.machine (replicate (n + 1) (TurnOf c.args.cpu))
    c.turn_ahead.new.self.machine))
    c.in-Some.is c.in_ok-more.ensures.turns in
    record {
      inside = subst (λ (ms : List BufferedState). c.args.place < length ms) (sym same)
          (subst (λ (a : Searched). c.args.place < length a.kept) (sym c.self.view_is) c.requires.place);
      led = subst (λ (b : Bool). IsLedFrom b c.fill.new.self.kept c.args.place (map move_of (replicate count c.args.cpu))
          c.fill.new.self.machine) (sym c.fill.ensures.patient)
          (led_from m.patient m.album.kept c.fill.new.self.kept c.args.place (TurnOf c.args.cpu) c.restore.new.self.machine
          c.fill.new.self.machine same c.in_ok-restore.ensures.ok (map move_of (replicate count c.args.cpu))
          (replicate count (TurnOf c.args.cpu)) (turn_numbers count c.args.cpu c.requires.cpu)
          (filled_leads m.patient c.restore.new.self.machine (replicate count (TurnOf c.args.cpu)) c.turn_ahead.new.self.machine
          c.fill.new.self.machine c.args.cpu turns c.fill.ensures.filled));
    }

pub returns-in-None-clause-moved : goal.returns-in-None-clause-moved
returns-in-None-clause-moved c =
    let m = c.self.inside in
    let same = c.turn_ahead.ensures.same ∙ c.restore.ensures.same in
    subst (λ (a : Searched). IsMovedTo a.patient c.turn_ahead.new.self.kept c.args.place (TurnOf c.args.cpu) c.args.place) c.self.view_is
    (idle_moved m.patient m.album.kept c.turn_ahead.new.self.kept c.args.place (TurnOf c.args.cpu) c.restore.new.self.machine
    c.turn_ahead.new.self.machine same c.in_ok-restore.ensures.ok c.in_ok-more.ensures.moves (c.in_ok-more.ensures.idle c.in-None.is))

pub returns-in-Some-clause-moved : goal.returns-in-Some-clause-moved
returns-in-Some-clause-moved c =
    let m = c.self.inside in
    let same = c.turn_ahead.ensures.same ∙ c.restore.ensures.same in
    let extends = subst (λ (ms : List BufferedState). Extends ms c.keep.new.self.kept) c.fill.ensures.same c.keep.ensures.extends in
    subst (λ (a : Searched). IfOk c.keep.result (IsMovedTo a.patient c.keep.new.self.kept c.args.place (TurnOf c.args.cpu))) c.self.view_is
    (IfOk-weaker c.keep.result (λ (n : ℕ). IsFoundAt c.keep.new.self.kept n c.fill.new.self.machine)
    (λ (n : ℕ). IsMovedTo m.patient c.keep.new.self.kept c.args.place (TurnOf c.args.cpu) n) (λ n at.
    kept_moved m.patient m.album.kept c.turn_ahead.new.self.kept c.args.place (TurnOf c.args.cpu)
    c.restore.new.self.machine c.turn_ahead.new.self.machine same c.in_ok-restore.ensures.ok c.keep.new.self.kept n
    extends c.in_ok-more.ensures.moves at.0
    (filled_kept m.patient c.keep.new.self.kept n c.turn_ahead.new.self.machine c.fill.new.self.machine c.args.cpu c.fill.ensures.filled at.1))
    c.keep.ensures.kept)

pub returns-in-Some-clause-extends : goal.returns-in-Some-clause-extends
returns-in-Some-clause-extends c =
    let same = c.fill.ensures.same ∙ c.turn_ahead.ensures.same ∙ c.restore.ensures.same in
    subst (λ (ms : List BufferedState). Extends ms c.keep.new.self.kept) (same ∙ ap (λ (a : Searched). a.kept) c.self.view_is)
    c.keep.ensures.extends

pub returns-in-Some-clause-patient : goal.returns-in-Some-clause-patient
returns-in-Some-clause-patient c =
    c.keep.ensures.patient ∙ c.fill.ensures.patient ∙ ap (λ (a : Searched). a.patient) c.self.view_is
