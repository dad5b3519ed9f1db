use Rattle.std.proofs.Common.{◌∙◌, ℕ, List, ◌∷◌, [], ◌++◌, ap}
use Rattle.bpf_explore.proofs.AlbumLaws.{numbered_under}
use Rattle.bpf_explore.proofs.album.keep_machine.Goals as goal

pub returns-clause-numbers : goal.returns-clause-numbers
returns-clause-numbers c =
    let store = c.in_ok-store.store in
    numbered_under c.keep_store.new.stores c.keep_jobs.new.parts c.args.machine.now c.push.new.self.items c.keep_jobs.new.room.numbers.items store
    (c.in_ok-push.ensures.items ∙ ap (λ (ns : List ℕ). ns ++ store ∷ []) c.clear_numbers.ensures) c.in_ok-store.ensures.within
    c.in_ok-store.ensures.alike c.in_ok-keep_jobs.ensures.numbers
