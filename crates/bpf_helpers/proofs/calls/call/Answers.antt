use Rattle.std.proofs.Common.{◌≡◌, ◌+◌, Ok, [], ◌∷◌, inl, inr, refl, sym, ap, slice_index, arith}
use Rattle.bpf_shared.specs.declared.events.Event.TheVariants.{Lookup, Update, Delete}
use Rattle.bpf_shared.proofs.Chains.{chain_one}
use Rattle.bpf_helpers.proofs.calls.call.Goals as goal

pub returns-in-1-clause-call : goal.returns-in-1-clause-call
returns-in-1-clause-call g c =
    let at : slice_index c.args.registers.now 1 ≡ 0x100000000 + c.in-Some.map = omega (arith, c.in-Some.ensures) in
    let key = c.in-Some-own_bytes.key.now in
    let call = c.look_up.ensures.call in (
      Lookup c.in-Some.map key call.0 ∷ [],
      call.1,
      inr (inr (inl (
        c.in-Some.map,
        c.in-Some-shape.shape,
        (at, sym c.in-Some-shape.ensures.shape),
        inl (c.in-1.is, inr (key, [], call.0, inl (c.in-Some-own_bytes.ensures.own, refl), refl, call.2)),
      ))),
    )

pub returns-in-Some-own_bytes-2-clause-call : goal.returns-in-Some-own_bytes-2-clause-call
returns-in-Some-own_bytes-2-clause-call g c =
    let at : slice_index c.args.registers.now 1 ≡ 0x100000000 + c.in-Some.map = omega (arith, c.in-Some.ensures) in
    let key = c.in-Some-own_bytes.key.now in
    let value = c.in-Some-own_bytes-2.value.now in
    let answer = c.update-answer.result in
    let event = Update c.in-Some.map key value (slice_index c.args.registers.now 4) answer in (
      event ∷ [],
      chain_one g.S.Shared.passes g.S.Shared.serves c.args.cpu c.args.shared.now c.update-answer.new.self event c.requires.serves
          c.update-answer.ensures.answered c.update-answer.ensures.same.1,
      inr (inr (inl (
        c.in-Some.map,
        c.in-Some-shape.shape,
        (at, sym c.in-Some-shape.ensures.shape),
        inr (inl (
          c.in-2.is,
          inr (
            key,
            value,
            [],
            [],
            answer,
            inl (c.in-Some-own_bytes.ensures.own, refl),
            inl
                (c.in-Some-own_bytes-2.ensures.own, refl),
            refl,
            ap Ok c.number_of_answer.ensures,
            refl,
          ),
        )),
      ))),
    )

pub returns-in_default-number-clause-call : goal.returns-in_default-number-clause-call
returns-in_default-number-clause-call g c =
    let at : slice_index c.args.registers.now 1 ≡ 0x100000000 + c.in-Some.map = omega (arith, c.in-Some.ensures) in
    let number : c.args.number ≡ 3 = elim c.requires.number [
      | inl e ↦ omega arith
      | inr (inl e) ↦ omega arith
      | inr (inr (inl e)) ↦ e
      | inr (inr (inr e)) ↦ omega arith
    ] in
    let key = c.in-Some-own_bytes.key.now in
    let answer = c.delete-answer.result in
    let event = Delete c.in-Some.map key answer in (
      event ∷ [],
      chain_one g.S.Shared.passes g.S.Shared.serves c.args.cpu c.args.shared.now c.delete-answer.new.self event c.requires.serves
          c.delete-answer.ensures.answered c.delete-answer.ensures.same.1,
      inr (inr (inl (
        c.in-Some.map,
        c.in-Some-shape.shape,
        (at, sym c.in-Some-shape.ensures.shape),
        inr (inr (number, inr (key, [], answer, inl (c.in-Some-own_bytes.ensures.own, refl), refl, ap Ok c.number_of_answer-in_default-number.ensures, refl))),
      ))),
    )
