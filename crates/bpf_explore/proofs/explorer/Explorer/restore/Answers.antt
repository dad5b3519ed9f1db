use Rattle.bpf_explore.proofs.ScoutLaws.{explorer_still}
use Rattle.bpf_explore.proofs.explorer.Explorer.restore.Goals as goal

pub invariant_of-self : goal.invariant_of-self
invariant_of-self c =
    let m = c.self.inside in
    let now = c.restore.new.self in
    explorer_still m.album.kept now.kept m.album.stock now.stock m.origins.items m.scouts.scouts.items (c.restore.ensures.same)
    (c.restore.ensures.stock) c.self.invariant
