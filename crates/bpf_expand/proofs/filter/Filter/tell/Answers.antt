use Rattle.std.proofs.Common.{string_bytes, sym}
use Rattle.bpf_plain.proofs.Options.{at_some}
use Rattle.bpf_expand.proofs.Answered.{told_too}
use Rattle.bpf_expand.proofs.filter.Filter.tell.Goals as goal

pub returns-clause-some : goal.returns-clause-some
returns-clause-some c =
    let bytes = c.args.bytes.now in
    let mid = c.tell_races.new.self in
    let new = c.tell_turns.new.self in
    let same = c.tell_turns.ensures.same in
    let before = string_bytes c.in-Some.before in (
      before,
      string_bytes c.in-Some-2.rest,
      told_too mid.races new.races mid.host new.host mid.names new.names bytes before (sym same.2) (sym same.0) (sym same.1)
          (at_some _ _ _ c.in-Some.is c.in_ok-before.ensures.some),
      at_some _ _ _ c.in-Some-2.is c.in_ok-rest.ensures.some,
      c.in_ok-text.ensures,
    )
