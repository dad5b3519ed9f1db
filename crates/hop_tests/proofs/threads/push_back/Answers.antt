use Rattle.std.proofs.Common.{All, sym, subst, [], ◌∷◌}
use Rattle.std.proofs.lemmas.List.Elements.{All-nil, All-cons, All-append}
use Rattle.hop_map.specs.Port.{IsPortOf}
use Rattle.hop_tests.specs.declared.threads.Back.{Back}
use Rattle.hop_tests.proofs.threads.push_back.Goals as goal

pub returns : goal.returns
returns c =
    let fits : Back → Type 0 = λ b. IsPortOf c.args.table.now b.port in
    let one : Back = record { port = c.args.port; noted = c.new-noted.result } in
    record {
      fit = subst (All fits) (sym c.in_ok-push.ensures.items)
          (All-append fits c.args.backs.now.items (one ∷ []) c.requires.fit (All-cons fits one [] c.requires.port (All-nil fits)));
    }
