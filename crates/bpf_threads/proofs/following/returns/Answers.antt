use Rattle.std.proofs.Common.{◌∙◌, inr, sym}
use Rattle.bpf_threads.proofs.following.returns.Goals as goal

pub returns-in-Some : goal.returns-in-Some
returns-in-Some c t = inr (c.in-Some.others.now, c.in-Some.back.now, sym c.deref.ensures.value ∙ c.in-Some.ensures.cases.0, c.is_blank_there.ensures t)
