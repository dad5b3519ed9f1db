use Rattle.std.proofs.Common.{◌∙◌, ◌++◌, ℕ, List, String, Global, ap, length, map, subst, sym}
use Rattle.std.specs.Prelude.{string_bytes}
use Rattle.bpf_names.specs.Names.{names_of}
use Rattle.bpf_plain.specs.PlainStore.{Contents, StandsFor}
use Rattle.bpf_cpu.specs.Task.{Task}
use Rattle.bpf_jobs.specs.Printed.{any_stopped, lines_of_lists}
use Rattle.bpf_jobs.proofs.Asked.{told_lines}
use Rattle.bpf_jobs.proofs.rounds.tell.Goals as goal

pub returns : goal.returns
returns c = λ w shows.
    let text = string_bytes c.in_ok-text.text in
    let lists = string_bytes c.in_ok-lists.lists in
    let lines = string_bytes c.in_ok-lines.lines in
    let both = string_bytes c.push_str.new.self in
    let names = names_of c.args.names.now in
    let stands = subst (λ (p : Contents). StandsFor p w.store) (sym c.store.ensures) shows.store in
    let listed = c.in_ok-lists.ensures w shows ∙ ap (λ (ns : List (String Global)). lines_of_lists w (map string_bytes ns)) c.deref.ensures.value in (
      lines,
      c.in_ok-lines.ensures w.store shows.sound stands,
      told_lines c.args.machine.now.jobs w.jobs text lists lines both (string_bytes c.push_str-2.new.self) (lines_of_lists w names.maps)
          shows.jobs c.in_ok-text.ensures listed
          (c.in_ok-push_str.ensures.bytes ∙ ap (λ (t : List ℕ). text ++ t) c.as_str.ensures.value)
          (c.in_ok-push_str-2.ensures.bytes ∙ ap (λ (t : List ℕ). both ++ t) c.as_str-2.ensures.value),
      c.has_any_stopped-stopped.ensures ∙ ap (λ (js : List Task). any_stopped (length js) js) (sym shows.jobs),
    )
