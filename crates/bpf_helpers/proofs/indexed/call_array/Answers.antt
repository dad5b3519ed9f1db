use Rattle.std.proofs.Common.{◌≡◌, ◌+◌, [], inl, inr, refl, sym, slice_index, arith}
use Rattle.bpf_shared.proofs.Chains.{chain_nothing}
use Rattle.bpf_helpers.proofs.IndexCalls.{no_array, no_map}
use Rattle.bpf_helpers.proofs.indexed.call_array.Goals as goal

pub returns-in_default-array-clause-call : goal.returns-in_default-array-clause-call
returns-in_default-array-clause-call g c =
    let shape = g.S.Shared.shapes c.args.shared.now in
    let is : c.args.map ≡ 16 + c.in-Some.area = omega (arith, c.in-Some.ensures) in (
      [],
      chain_nothing g.S.Shared.passes g.S.Shared.serves c.args.cpu g.met.S.Shared.nothing c.args.shared.now,
      inr (inl (
        λ e. elim c.requires.number [ inl a ↦ omega arith | inr (inl a) ↦ omega arith | inr (inr a) ↦ omega arith ],
        no_map c.args.registers.now c.args.map c.requires.map shape.maps c.requires.other,
        no_array c.args.registers.now c.args.map c.requires.map shape.arrays c.in-Some.area is (sym c.in_default-array.ensures.array),
        (refl, refl, refl),
      )),
    )

pub returns-in-1-clause-call : goal.returns-in-1-clause-call
returns-in-1-clause-call g c =
    let shape = g.S.Shared.shapes c.args.shared.now in
    let map = c.requires.map in
    let at : slice_index c.args.registers.now 1 ≡ 0x100000000 + (16 + c.in-Some.area) = omega (arith, c.in-Some.ensures) in
    let other = no_map c.args.registers.now c.args.map c.requires.map shape.maps c.requires.other in
    let call = c.look_up_index.ensures.call in (
      call.0,
      call.1,
      inr (inr (inr (c.in-Some.area, c.in-Some-array.array, (at, sym c.in-Some-array.ensures.array), other, inl (c.in-1.is, call.2)))),
    )

pub returns-in-2-clause-call : goal.returns-in-2-clause-call
returns-in-2-clause-call g c =
    let shape = g.S.Shared.shapes c.args.shared.now in
    let map = c.requires.map in
    let at : slice_index c.args.registers.now 1 ≡ 0x100000000 + (16 + c.in-Some.area) = omega (arith, c.in-Some.ensures) in
    let other = no_map c.args.registers.now c.args.map c.requires.map shape.maps c.requires.other in
    let call = c.update_index.ensures.call in (
      call.0,
      call.1,
      inr (inr (inr (c.in-Some.area, c.in-Some-array.array, (at, sym c.in-Some-array.ensures.array), other, inr (inl (c.in-2.is, call.2))))),
    )

pub returns-in_default-number-clause-call : goal.returns-in_default-number-clause-call
returns-in_default-number-clause-call g c =
    let shape = g.S.Shared.shapes c.args.shared.now in
    let map = c.requires.map in
    let at : slice_index c.args.registers.now 1 ≡ 0x100000000 + (16 + c.in-Some.area) = omega (arith, c.in-Some.ensures) in
    let other = no_map c.args.registers.now c.args.map c.requires.map shape.maps c.requires.other in
    let number : c.args.number ≡ 3 = elim c.requires.number [ inl a ↦ omega arith | inr (inl a) ↦ omega arith | inr (inr a) ↦ a ] in (
      [],
      chain_nothing g.S.Shared.passes g.S.Shared.serves c.args.cpu g.met.S.Shared.nothing c.args.shared.now,
      inr (inr (inr (c.in-Some.area, c.in-Some-array.array, (at, sym c.in-Some-array.ensures.array), other, inr (inr (number, c.delete_index.ensures))))),
    )
