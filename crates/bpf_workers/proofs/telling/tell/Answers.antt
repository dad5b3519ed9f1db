use Rattle.std.proofs.Common.{List, ℕ, String, Global, ◌++◌, ap, map, ◌∙◌}
use Rattle.std.specs.Prelude.{string_bytes}
use Rattle.bpf_names.specs.Names.{names_of}
use Rattle.bpf_jobs.specs.Printed.{list_lines}
use Rattle.bpf_sched.specs.Worked.{listed_by}
use Rattle.bpf_workers.proofs.Ends.{told}
use Rattle.bpf_workers.proofs.telling.tell.Goals as goal

pub returns : goal.returns
returns c last known same =
    let text = string_bytes c.in_ok-text.text in
    let both = string_bytes c.push_str.new.self in
    let names = names_of c.args.names.now in
    let lists = listed_by c.args.ended.now.lists.now in
    let cpus = c.args.left.shape.now.cpus in
    told c.args.ended.now.jobs.now c.args.ended.now.ends.now last names c.args.maps text (list_lines lists names.maps cpus)
    (string_bytes c.in_ok-keys.keys) (string_bytes c.in_ok-lines.lines) both (string_bytes c.push_str-2.new.self) c.has_stopped-stopped.result
    c.requires (c.in_ok-lines.ensures last known same) c.in_ok-text.ensures
    (c.in_ok-keys.ensures ∙ (ap (λ (ns : List (String Global)). list_lines lists (map string_bytes ns) c.cpus.result) c.deref.ensures.value
    ∙ ap (λ (n : ℕ). list_lines lists names.maps n) c.cpus.ensures.cpus))
    (c.in_ok-push_str.ensures.bytes ∙ ap (λ (more : List ℕ). text ++ more) c.as_str.ensures.value)
    (c.in_ok-push_str-2.ensures.bytes ∙ ap (λ (more : List ℕ). both ++ more) c.as_str-2.ensures.value)
    c.has_stopped-stopped.ensures
