use Rattle.std.proofs.Common.{◌∙◌, ap, subst}
use Rattle.bpf_machine.specs.Machine.{MachineState}
use Rattle.bpf_machine.specs.Patient.{IsRefilled}
use Rattle.bpf_explore.specs.Private.Album.{AlbumState}
use Rattle.bpf_explore.proofs.AlbumLaws.{all_after, kept_with, stock_with}
use Rattle.bpf_explore.proofs.album.Album.refill.Goals as goal

pub invariant_of-self : goal.invariant_of-self
invariant_of-self c =
    let m = c.self.inside in
    all_after m.shape m.stores m.parts m.states.tuples m.states.tables m.machine c.refill.new.self c.refill.ensures.same c.self.invariant

pub returns-clause-refills : goal.returns-clause-refills
returns-clause-refills c =
    let machine = ap (λ (a : AlbumState). a.machine) c.self.view_is in
    subst (λ (old : MachineState). IsRefilled old c.args.cpu c.refill.new.self) machine c.refill.ensures.refills

pub returns-clause-same : goal.returns-clause-same
returns-clause-same c =
    let m = c.self.inside in
    kept_with m.shape m.stores m.parts m.states.tuples m.machine c.refill.new.self c.refill.ensures.same.programs ∙ ap
    (λ (a : AlbumState). a.kept) c.self.view_is

pub returns-clause-cpus : goal.returns-clause-cpus
returns-clause-cpus c = ap (λ (a : AlbumState). a.cpus) c.self.view_is

pub returns-clause-stock : goal.returns-clause-stock
returns-clause-stock c =
    let m = c.self.inside in
    stock_with m.shape m.stores m.parts m.states.tuples m.machine c.refill.new.self c.refill.ensures.same.programs ∙ ap
    (λ (a : AlbumState). a.stock) c.self.view_is
