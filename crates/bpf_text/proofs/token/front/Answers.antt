use Rattle.std.proofs.Common.{arith, ap, length, ◌≡◌, Some}
use Rattle.bpf_spelling.specs.Signs.{sign_at}
use Rattle.bpf_text.proofs.Scanning.{length-sign_at}
use Rattle.bpf_text.proofs.token.front.Goals as goal

pub returns-in-Some-clause-bound : goal.returns-in-Some-clause-bound
returns-in-Some-clause-bound c =
    let found : sign_at c.args.text.now ≡ Some c.in-Some.sign = cc in
    omega (arith, length-sign_at c.args.text.now c.in-Some.sign found, ap length c.text.ensures)
