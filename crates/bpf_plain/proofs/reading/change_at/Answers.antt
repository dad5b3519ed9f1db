use Rattle.std.proofs.Common.{refl, arith}
use Rattle.bpf_plain.proofs.Stepping.{change_found}
use Rattle.bpf_plain.proofs.reading.change_at.Goals as goal

pub returns-clause-found : goal.returns-clause-found
returns-clause-found c = change_found c.args.saved.now c.args.offset c.load_word.result _ c.if-saved-lt5.false
    (λ i. let f = c.type_inv.saved i in omega arith) c.load_word.ensures c.if-load_word-offset.false refl
