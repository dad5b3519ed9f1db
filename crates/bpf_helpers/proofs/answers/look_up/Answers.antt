use Rattle.std.proofs.Common.{◌≡◌, ℕ, Bool, true, sym, subst}
use Rattle.bpf_shared.specs.declared.events.Event.TheVariants.{Lookup}
use Rattle.bpf_shared.specs.declared.events.Span.{Span}
use Rattle.bpf_shared.proofs.Chains.{chain_one}
use Rattle.bpf_helpers.specs.Held.{AreHeld}
use Rattle.bpf_helpers.proofs.HeldLaws.{held_after, found_elements}
use Rattle.bpf_helpers.proofs.answers.look_up.Goals as goal

pub returns-clause-call : goal.returns-clause-call
returns-clause-call g c =
    let answer = c.lookup-answer.result in
    let event = Lookup c.args.map c.args.key.now answer in (
      answer,
      chain_one g.S.Shared.passes g.S.Shared.serves c.args.cpu c.args.shared.now c.lookup-answer.new.self event c.requires.serves
          c.lookup-answer.ensures.found c.lookup-answer.ensures.same.1,
      c.take_answer.ensures,
    )

pub returns-clause-held : goal.returns-clause-held
returns-clause-held g c =
    let cpu = c.args.cpu in
    let P : (ℕ → Span → Bool) → Type 0 = λ held. AreHeld (held cpu) c.take_answer.new.held in
    subst P (sym c.lookup-answer.ensures.held) (held_after (g.S.Shared.held c.args.shared.now) cpu c.lookup-answer.result c.args.held.now
    c.take_answer.new.held c.take_answer.result c.lookup-answer.ensures.in_range c.requires.held c.take_answer.ensures)

pub take_answer-requires : goal.take_answer-requires
take_answer-requires g c =
    let cpu = c.args.cpu in
    let held = g.S.Shared.held c.args.shared.now in
    record {
      elements = found_elements held cpu (g.S.Shared.shapes c.args.shared.now).maps c.lookup-answer.result c.args.held.now c.lookup-answer.ensures.maps
          (λ p h. c.lookup-answer.ensures.elements p (subst (λ (f : ℕ → Span → Bool). f cpu p ≡ true) (sym c.lookup-answer.ensures.held) h)) c.requires.held;
    }
