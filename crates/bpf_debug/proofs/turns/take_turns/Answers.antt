use Rattle.std.proofs.Common.{ℕ, List, ◌++◌, ap, ◌∙◌}
use Rattle.bpf_debug.proofs.turns.take_turns.Goals as goal

pub returns-clause-made : goal.returns-clause-made
returns-clause-made c =
    let place = c.put_where.ensures.text in (
      place.0,
      place.1,
      λ w shows. (
          let made = c.make_turns.ensures.made w shows in
          (made.0, made.1, made.2, made.3, place.2 ∙ ap (λ (s : List ℕ). s ++ place.0) made.4)),
    )
