use Rattle.std.proofs.Common.{◌<◌, ℕ, List, length, subst}
use Rattle.bpf_plain.specs.PlainStore.{Contents, IsSavedAs}
use Rattle.bpf_explore.specs.Private.Kept.{store_at}
use Rattle.bpf_explore.proofs.stores.Stores.apart.Goals as goal

pub returns-clause-saved : goal.returns-clause-saved
returns-clause-saved c i less = subst (λ (ps : List Contents). (k : ℕ) → k < length ps → (bytes : List ℕ) × IsSavedAs (store_at ps k) bytes)
    c.self.view_is c.self.invariant.saved i less
