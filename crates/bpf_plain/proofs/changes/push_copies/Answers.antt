use Rattle.std.proofs.Common.{◌≡◌, ◌==◌, ◌∙◌, arith, length, sym, true}
use Rattle.std.proofs.lemmas.Bool.Decides.{nat_tests}
use Rattle.bpf_plain.proofs.Changed.{as_one_copy}
use Rattle.bpf_plain.proofs.changes.push_copies.Goals as goal

pub returns-then-is_empty-clause-ok : goal.returns-then-is_empty-clause-ok
returns-then-is_empty-clause-ok c =
    let none : (length c.args.first.now == 0) ≡ true = sym c.is_empty.ensures ∙ c.if-is_empty.true in
    as_one_copy c.push_changes.result c.args.first.now c.args.bytes.now c.args.out.now.items c.push_changes.new.out.items c.args.stride _
    (grind (arith, nat_tests)) c.push_changes.ensures.ok
