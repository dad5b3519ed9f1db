use Rattle.std.proofs.Common.{subst}
use Rattle.bpf_reorderings.specs.Private.Searching.{AreLed, Searched}
use Rattle.bpf_reorderings.proofs.Trails.{are_led}
use Rattle.bpf_reorderings.proofs.explorer.Explorer.leads.Goals as goal

pub returns : goal.returns
returns c =
    let m = c.self.inside in
    subst (λ (a : Searched). AreLed a.patient a.kept) c.self.view_is (are_led m.patient m.album.kept m.origins.items c.self.invariant)
