use Rattle.std.proofs.Common.{◌∙◌, ℕ, List, ◌∷◌, [], ◌++◌, ap}
use Rattle.bpf_explore.proofs.AlbumLaws.{numbered_under}
use Rattle.bpf_explore.proofs.album.find_machine.Goals as goal

pub returns : goal.returns
returns c =
    let store = c.in_ok-store.store in
    numbered_under c.args.stores.now c.args.parts.now c.args.machine.now c.push.new.self.items c.find_jobs.new.room.numbers.items store
    (c.in-Ok.ensures.items ∙ ap (λ (ns : List ℕ). ns ++ store ∷ []) c.clear_numbers.ensures) c.in_ok-store.ensures.within
    c.in_ok-store.ensures.alike c.in_ok-find_jobs.ensures
