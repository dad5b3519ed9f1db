use Rattle.std.proofs.Common.{◌≡◌, Ok, [], ◌∷◌, ◌++◌, inl, inr, refl, ap, subst, slice_index, arith}
use Rattle.bpf_shared.specs.declared.events.Event.TheVariants.{Lookup, Update, Delete}
use Rattle.bpf_shared.specs.Shape.{Shape}
use Rattle.bpf_helpers.specs.Reads.{Reads}
use Rattle.bpf_shared.proofs.Chains.{chain_nothing, chain_call, chain_join}
use Rattle.bpf_helpers.proofs.gathered.call_map.Goals as goal

pub returns-in_default-clause-call : goal.returns-in_default-clause-call
returns-in_default-clause-call g c = (
  [],
  chain_nothing g.S.Shared.passes g.S.Shared.serves c.args.cpu g.met.S.Shared.nothing c.args.shared.now,
  elim c.requires.number [
    | inl is ↦ inl (is, inl (c.in_default.ensures.missing, (refl, refl, refl)))
    | inr (inl is) ↦ inr (inl (is, inl (inl c.in_default.ensures.missing, (refl, refl, refl))))
    | inr (inr is) ↦ inr (inr (is, inl (c.in_default.ensures.missing, (refl, refl, refl))))
  ],
)

pub returns-in_default-find_source-clause-call : goal.returns-in_default-find_source-clause-call
returns-in_default-find_source-clause-call g c = (
  [],
  chain_nothing g.S.Shared.passes g.S.Shared.serves c.args.cpu g.met.S.Shared.nothing c.args.shared.now,
  inr (inl (c.if-number-eq-MAP_UPDATE_ELEM.true, inl (inr c.in_default-find_source.ensures.missing, (refl, refl, refl)))),
)

pub returns-then-number-eq-MAP_UPDATE_ELEM-clause-call : goal.returns-then-number-eq-MAP_UPDATE_ELEM-clause-call
returns-then-number-eq-MAP_UPDATE_ELEM-clause-call g c =
    let first = c.read-key.ensures.read in
    let second = c.read-value.ensures.read in
    let key = c.read-key.result.now in
    let value = c.read-value.result.now in
    let answer = c.update-answer.result in
    let event = Update c.args.map key value (slice_index c.args.registers.now 4) answer in
    let P : Shape → Type 0 = λ h. Reads h c.args.memory.now c.args.held.now (slice_index c.args.registers.now 3) c.args.shape.value value second.0 in
    let passes = g.S.Shared.passes in
    let serves = g.S.Shared.serves in
    let cpu = c.args.cpu in
    let old = c.args.shared.now in
    let read = chain_join passes serves cpu g.met.S.Shared.follows old c.read-key.new.shared c.read-value.new.shared first.0 second.0 first.2 second.2 in (
      (first.0 ++ second.0) ++ event ∷ [],
      chain_call passes serves cpu g.met.S.Shared.follows old c.read-value.new.shared c.update-answer.new.self (first.0 ++ second.0) event
          c.requires.serves read c.update-answer.ensures.answered c.update-answer.ensures.same.1,
      inr (inl (
        c.if-number-eq-MAP_UPDATE_ELEM.true,
        inr (
          key,
          value,
          first.0,
          second.0,
          answer,
          first.1,
          subst P c.read-key.ensures.shapes
              second.1,
          refl,
          ap Ok c.number_of_answer.ensures,
          refl,
        ),
      )),
    )

pub returns-then-number-eq-MAP_LOOKUP_ELEM-clause-call : goal.returns-then-number-eq-MAP_LOOKUP_ELEM-clause-call
returns-then-number-eq-MAP_LOOKUP_ELEM-clause-call g c =
    let read = c.read-key-2.ensures.read in
    let key = c.read-key-2.result.now in
    let call = c.look_up.ensures.call in
    let event = Lookup c.args.map key call.0 in (
      read.0 ++ event ∷ [],
      chain_join g.S.Shared.passes g.S.Shared.serves c.args.cpu g.met.S.Shared.follows c.args.shared.now c.read-key-2.new.shared
          c.look_up.new.shared read.0 (event ∷ []) read.2 call.1,
      inl (c.if-number-eq-MAP_LOOKUP_ELEM.true, inr (key, read.0, call.0, read.1, refl, call.2)),
    )

pub returns-clause-call : goal.returns-clause-call
returns-clause-call g c =
    let read = c.read-key-2.ensures.read in
    let key = c.read-key-2.result.now in
    let answer = c.delete-answer.result in
    let event = Delete c.args.map key answer in
    let number : c.args.number ≡ 3 = elim c.requires.number [
      | inl is ↦ omega arith
      | inr (inl is) ↦ omega arith
      | inr (inr is) ↦ is
    ] in (
      read.0 ++ event ∷ [],
      chain_call g.S.Shared.passes g.S.Shared.serves c.args.cpu g.met.S.Shared.follows c.args.shared.now c.read-key-2.new.shared
          c.delete-answer.new.self read.0 event c.requires.serves read.2 c.delete-answer.ensures.answered c.delete-answer.ensures.same.1,
      inr (inr (number, inr (key, read.0, answer, read.1, refl, ap Ok c.number_of_answer-2.ensures, refl))),
    )
