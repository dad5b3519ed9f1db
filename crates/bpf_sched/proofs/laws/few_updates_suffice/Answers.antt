use Rattle.hop_words.proofs.Lacking.{few_updates_suffice as law}
use Rattle.bpf_sched.proofs.laws.few_updates_suffice.Goals as goal

pub returns : goal.returns
returns c = λ h version history last m leads few. law h version history last m leads.causes few
