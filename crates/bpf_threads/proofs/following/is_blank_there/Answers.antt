use Rattle.bpf_threads.proofs.following.is_blank_there.Goals as goal

pub returns : goal.returns
returns c t = (c.in-Some.place, c.spot_at-spot.result.now, c.in-Some.is, c.spot_at-spot.ensures, c.stands_blank.ensures t)
