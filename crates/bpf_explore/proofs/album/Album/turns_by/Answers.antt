use Rattle.std.proofs.Common.{◌∙◌, ap, subst, sym}
use Rattle.bpf_machine.specs.Machine.{MachineState, Shows}
use Rattle.bpf_explore.specs.Private.Album.{AlbumState}
use Rattle.bpf_explore.proofs.AlbumLaws.{all_after, kept_with, stock_with}
use Rattle.bpf_explore.proofs.album.Album.turns_by.Goals as goal

pub invariant_of-self : goal.invariant_of-self
invariant_of-self c =
    let m = c.self.inside in
    all_after m.shape m.stores m.parts m.states.tuples m.states.tables m.machine c.turns_by.new.self c.turns_by.ensures.same c.self.invariant

pub returns-clause-runs : goal.returns-clause-runs
returns-clause-runs c w shows =
    let machine = ap (λ (a : AlbumState). a.machine) c.self.view_is in
    c.turns_by.ensures.runs w (subst (λ (m : MachineState). Shows m w) (sym machine) shows)

pub returns-clause-same : goal.returns-clause-same
returns-clause-same c =
    let m = c.self.inside in
    kept_with m.shape m.stores m.parts m.states.tuples m.machine c.turns_by.new.self c.turns_by.ensures.same.programs ∙ ap
    (λ (a : AlbumState). a.kept) c.self.view_is

pub returns-clause-stock : goal.returns-clause-stock
returns-clause-stock c =
    let m = c.self.inside in
    stock_with m.shape m.stores m.parts m.states.tuples m.machine c.turns_by.new.self c.turns_by.ensures.same.programs ∙ ap
    (λ (a : AlbumState). a.stock) c.self.view_is
