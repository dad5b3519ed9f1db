use Rattle.std.proofs.Common.{ℕ, ◌∙◌, ◌++◌, List, ap, subst}
use Rattle.std.specs.Prelude.{string_bytes}
use Rattle.bpf_buffering.specs.Search.{BufferedState}
use Rattle.bpf_debug.specs.Answer.{IsWhere}
use Rattle.bpf_buffer_debug.specs.Moves.{all_moves}
use Rattle.bpf_buffer_debug.proofs.MoveLaws.{with_place}
use Rattle.bpf_buffer_debug.proofs.moves.take_runs.Goals as goal

pub returns-clause-told : goal.returns-clause-told
returns-clause-told c =
    let old = c.args.album.now.machine in
    let new = c.make_runs.new.album.machine in
    let made = string_bytes c.make_runs.new.out in
    let place = string_bytes c.in_ok-place.place in
    let here = subst (λ (m : BufferedState). IsWhere m.machine.jobs c.last_cpu.result place) c.machine.ensures c.in_ok-place.ensures in
    let put = c.in_ok-push_str.ensures.bytes ∙ ap (λ (s : List ℕ). made ++ s) c.as_str.ensures.value in (
      place,
      subst (λ (n : ℕ). IsWhere new.machine.jobs n place) c.last_cpu.ensures here,
      with_place old new (all_moves c.args.runs.now) (string_bytes c.new-out.result) made place (string_bytes c.push_str.new.self)
          c.new-out.ensures.bytes c.in_ok-make_runs.ensures.told put,
    )
