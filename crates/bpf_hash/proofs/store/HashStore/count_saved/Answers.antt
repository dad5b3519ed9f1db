use Rattle.std.proofs.Common.{◌≡◌, ◌∙◌, ◌++◌, List, ℕ, ap, subst, sym}
use Rattle.std.proofs.lemmas.Bool.Decides.{Decides-eqb}
use Rattle.std.proofs.lemmas.Slice.Eq.{starts_is}
use Rattle.bpf_hash.specs.Private.Saved.{IsSavedAs}
use Rattle.bpf_hash.proofs.Storing.{starts_otherwise}
use Rattle.bpf_hash.proofs.store.HashStore.count_saved.Goals as goal

pub returns-clause-none : goal.returns-clause-none
returns-clause-none c =
    let saved = c.in_ok-save.ensures.ok in
    let all : c.deref.result.now ≡ saved.0 = c.deref.ensures.value ∙ (saved.1 ∙ ap (λ (bs : List ℕ). bs ++ saved.0) c.new-saved.ensures.items) in
    starts_otherwise c.args.self.now c.args.bytes.now c.deref.result.now c.starts_with.result c.if-starts_with.false
    (starts_is Decides-eqb c.args.bytes.now c.deref.result.now c.starts_with.result c.starts_with.ensures.value).1
    (subst (IsSavedAs c.args.self.now) (sym all) saved.2)
