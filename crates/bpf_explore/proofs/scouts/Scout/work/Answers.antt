use Rattle.bpf_explore.proofs.scouts.Scout.work.Goals as goal

pub loop-place-init : goal.loop-place-init
loop-place-init c = c.forget.ensures c.args.album.now.kept c.args.album.now.stock c.requires
