use Rattle.std.proofs.Common.{◌∙◌, ap, sym, subst}
use Rattle.bpf_machine.specs.Machine.{MachineState, Shows}
use Rattle.bpf_machine.specs.Cover.{TurnsTo, TurnsAhead}
use Rattle.bpf_explore.specs.Private.Album.{AlbumState}
use Rattle.bpf_explore.proofs.AlbumLaws.{all_after, kept_with, stock_with}
use Rattle.bpf_explore.proofs.album.Album.turn_ahead.Goals as goal

pub invariant_of-self : goal.invariant_of-self
invariant_of-self c =
    let m = c.self.inside in
    all_after m.shape m.stores m.parts m.states.tuples m.states.tables m.machine c.turn_ahead.new.self c.turn_ahead.ensures.same c.self.invariant

pub returns-clause-turns : goal.returns-clause-turns
returns-clause-turns c =
    let machine = ap (λ (a : AlbumState). a.machine) c.self.view_is in
    subst (λ (old : MachineState). TurnsTo old c.args.cpu c.turn_ahead.new.self) machine c.turn_ahead.ensures.turns

pub returns-clause-same : goal.returns-clause-same
returns-clause-same c =
    let m = c.self.inside in
    kept_with m.shape m.stores m.parts m.states.tuples m.machine c.turn_ahead.new.self c.turn_ahead.ensures.same.programs ∙ ap
    (λ (a : AlbumState). a.kept) c.self.view_is

pub returns-clause-runs : goal.returns-clause-runs
returns-clause-runs c w shows =
    let machine = ap (λ (a : AlbumState). a.machine) c.self.view_is in
    c.turn_ahead.ensures.runs w (subst (λ (m : MachineState). Shows m w) (sym machine) shows)

pub returns-clause-ahead : goal.returns-clause-ahead
returns-clause-ahead c =
    let machine = ap (λ (a : AlbumState). a.machine) c.self.view_is in
    subst (λ (old : MachineState). TurnsAhead old c.args.cpu c.turn_ahead.result c.turn_ahead.new.self) machine c.turn_ahead.ensures.ahead

pub returns-clause-cpus : goal.returns-clause-cpus
returns-clause-cpus c = ap (λ (a : AlbumState). a.cpus) c.self.view_is

pub returns-clause-stock : goal.returns-clause-stock
returns-clause-stock c =
    let m = c.self.inside in
    stock_with m.shape m.stores m.parts m.states.tuples m.machine c.turn_ahead.new.self c.turn_ahead.ensures.same.programs ∙ ap
    (λ (a : AlbumState). a.stock) c.self.view_is
