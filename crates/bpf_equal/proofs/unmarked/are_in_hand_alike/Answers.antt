use Rattle.std.proofs.Common.{◌∙◌, inr, refl, sym, ap, subst}
use Rattle.bpf_cpu.specs.Task.{Stage, InHand}
use Rattle.bpf_live.specs.Alike.{marked_as}
use Rattle.bpf_equal.specs.Worlds.{AreOneStage}
use Rattle.bpf_equal.proofs.unmarked.are_in_hand_alike.Goals as goal

pub returns-then-left-rest : goal.returns-then-left-rest
returns-then-left-rest c is =
    let mine = c.in-Some in
    let its = c.in-Some-state in
    let mid = marked_as its.later.now mine.state.now in (
      InHand mid mine.left,
      subst (λ (s : Stage). AreOneStage s (InHand mid mine.left)) (sym mine.ensures) (refl, refl),
      inr (mid, mine.left, its.later.now, refl, its.ensures ∙ ap (InHand its.later.now) (sym c.if-left-rest.true), c.are_states_unmarked.ensures is),
    )
