use Rattle.std.proofs.Common.{ℕ, List, refl, sym, subst}
use Rattle.std.specs.Prelude.{drop}
use Rattle.bpf_live.specs.Live.{Table}
use Rattle.bpf_alike.proofs.Like.{all_like}
use Rattle.bpf_machine.specs.Parts.{chosen}
use Rattle.bpf_explore.specs.Tuples.{tuple_at}
use Rattle.bpf_explore.specs.Private.States.{IsAlikeTuple}
use Rattle.bpf_explore.proofs.states.States.keep.Goals as goal

pub returns-in-Some-clause-alike : goal.returns-in-Some-clause-alike
returns-in-Some-clause-alike c =
    let parts = c.args.parts.now in
    let numbers = c.args.numbers.now in
    subst (λ (ts : List Table). IsAlikeTuple ts parts numbers (tuple_at c.learn.new.self.tuples c.in-Some.number)) c.learn.ensures.tables
    c.in-Some.ensures.alike

-- the machine itself
pub returns-clause-alike : goal.returns-clause-alike
returns-clause-alike c =
    let parts = c.args.parts.now in
    let numbers = c.args.numbers.now in
    subst (λ (t : List ℕ). IsAlikeTuple c.args.self.now.tables parts numbers t) (sym c.in_ok-number.ensures.found.1)
    (refl, λ programs right loaded. all_like programs (chosen parts (drop 1 numbers)))
