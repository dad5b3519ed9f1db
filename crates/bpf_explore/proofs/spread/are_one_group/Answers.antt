use Rattle.std.proofs.Common.{◌≡◌, ◌∙◌, true, false, eq-eqb, sym}
use Rattle.std.proofs.lemmas.Bool.{eqb-true}
use Rattle.bpf_explore.proofs.CloseLaws.{grouped, one_group}
use Rattle.bpf_explore.proofs.spread.are_one_group.Goals as goal

pub returns-clause-are : goal.returns-clause-are
returns-clause-are c is = grouped c.args.peers.now c.args.one c.args.other _ _ c.requires.one c.requires.other (eqb-true _ _ is)

pub returns-clause-apart : goal.returns-clause-apart
returns-clause-apart c is p q group =
    let no : false ≡ true = sym is ∙ eq-eqb _ _ (one_group c.args.peers.now c.args.one c.args.other _ _ p q group) in
    cc
