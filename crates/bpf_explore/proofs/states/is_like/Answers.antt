use Rattle.std.proofs.Common.{◌<◌, ℕ, List, length, sym, subst}
use Rattle.std.specs.Prelude.{All, drop}
use Rattle.bpf_explore.specs.Private.States.{AreAlikeBy}
use Rattle.bpf_explore.proofs.states.is_like.Goals as goal

pub all_alike-requires : goal.all_alike-requires
all_alike-requires c =
    let P : List ℕ → Type 0 = λ ns. All (λ n. n < length c.args.parts.now) ns in
    record { within = subst P (sym c.behind_first-jobs.ensures) c.requires.within; others = subst P (sym c.behind_first-others.ensures) c.requires.others }

pub returns-then-tuple-numbers-clause-alike : goal.returns-then-tuple-numbers-clause-alike
returns-then-tuple-numbers-clause-alike c is =
    let tables = c.args.tables.now in
    let parts = c.args.parts.now in
    let tuple = c.args.tuple.now in (
      c.if-tuple-numbers.true,
      subst (λ (ns : List ℕ). AreAlikeBy tables parts ns (drop 1 tuple)) c.behind_first-jobs.ensures
          (subst (λ (ns : List ℕ). AreAlikeBy tables parts c.behind_first-jobs.result.now ns) c.behind_first-others.ensures (c.all_alike.ensures.alike is)),
    )
