use Rattle.std.proofs.Common.{◌≡◌, true, false, is_some, ◌∙◌}
use Rattle.std.proofs.lemmas.Map.Text.{hash_map_updates_str}
use Rattle.bpf_text.specs.Private.Labels.{found}
use Rattle.bpf_text.proofs.LabelLemmas.{kept, added}
use Rattle.bpf_text.proofs.labels.note.Goals as goal

pub returns-then-is_some-clause-first : goal.returns-then-is_some-clause-first
returns-then-is_some-clause-first c = λ q.
    let there : is_some (found c.args.labels.now c.args.name.now) ≡ true = cc in
    kept (found c.args.labels.now) c.args.name.now q c.args.place there

pub returns-in-Ok-clause-first : goal.returns-in-Ok-clause-first
returns-in-Ok-clause-first c = λ q.
    let absent : is_some (found c.args.labels.now c.args.name.now) ≡ false = cc in
    hash_map_updates_str c.args.name.now c.args.labels.now c.insert.new.self _ c.in-Ok.ensures.updates q
    ∙ added (found c.args.labels.now) c.args.name.now q c.args.place absent
