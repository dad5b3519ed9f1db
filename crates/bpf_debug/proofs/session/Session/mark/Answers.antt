use Rattle.std.specs.Prelude.{string_bytes}
use Rattle.bpf_debug.proofs.SessionLaws.{told_mark}
use Rattle.bpf_debug.proofs.session.Session.mark.Goals as goal

pub returns-clause-answered : goal.returns-clause-answered
returns-clause-answered c = told_mark c.args.self.now c.args.number (string_bytes c.in_ok-out.out) (string_bytes c.put_mark.new.out)
    c.in_ok-out.ensures.empty c.put_mark.ensures
