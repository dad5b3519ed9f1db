use Rattle.std.proofs.Common.{[], ◌∷◌, refl}
use Rattle.std.proofs.lemmas.List.Elements.{All-nil, All-cons}
use Rattle.bpf_mem.specs.Saved.{IsWord}
use Rattle.bpf_mem.proofs.Fronts.{if_none}
use Rattle.bpf_cpu.proofs.saving.read_count.Goals as goal

pub returns-in_err-rest-clause-none : goal.returns-in_err-rest-clause-none
returns-in_err-rest-clause-none c =
    if_none c.from_residual.result (λ count rest word e. c.in_err-rest.ensures.none (count ∷ []) rest refl (All-cons IsWord count [] word (All-nil IsWord)) e)
