use Rattle.bpf_text.proofs.Comments.{comments_say_nothing}
use Rattle.bpf_text.proofs.laws.comments_say_nothing.Goals as goal

pub returns : goal.returns
returns c = comments_say_nothing
