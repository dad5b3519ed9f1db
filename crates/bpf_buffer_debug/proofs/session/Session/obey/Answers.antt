use Rattle.std.proofs.Common.{◌≡◌, ℕ, List, ap, map, length, arith}
use Rattle.std.specs.Prelude.{string_bytes}
use Rattle.std.proofs.Common.{Bor}
use Rattle.std.proofs.lemmas.List.{nil_from_length}
use Rattle.bpf_buffer_debug.proofs.LineLaws.{no_line}
use Rattle.bpf_buffer_debug.proofs.session.Session.obey.Goals as goal

pub returns-in-empty-clause-answered : goal.returns-in-empty-clause-answered
returns-in-empty-clause-answered c =
    let none : length c.args.fields.now ≡ 0 = omega arith in
    no_line c.args.self.now (map (λ (f : Bor (List ℕ)). f.now) c.args.fields.now) (string_bytes c.new.result)
    (ap (map (λ (f : Bor (List ℕ)). f.now)) (nil_from_length c.args.fields.now none)) c.new.ensures.bytes
