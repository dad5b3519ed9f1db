use Rattle.std.proofs.Common.{All, sym, subst, [], ◌∷◌}
use Rattle.std.proofs.lemmas.List.Elements.{All-nil, All-cons, All-append}
use Rattle.hop_tests.specs.Trial.{IsIdlePort}
use Rattle.hop_tests.proofs.stores.push_port.Goals as goal

pub returns : goal.returns
returns c =
    let idle = IsIdlePort c.args.table.now in record {
      idle = subst (All idle) (sym c.in_ok-push.ensures.items)
          (All-append idle c.args.ports.now.items (c.args.port ∷ []) c.requires.idle (All-cons idle c.args.port [] c.requires.port (All-nil idle)));
    }
