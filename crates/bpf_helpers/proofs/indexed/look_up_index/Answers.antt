use Rattle.std.proofs.Common.{◌≡◌, [], take, Ok, inl, inr, refl, ap, ◌∙◌, slice_index, arith}
use Rattle.std.proofs.lemmas.List.{take_all}
use Rattle.bpf_base.specs.Bytes.{little_endian}
use Rattle.bpf_shared.proofs.Chains.{chain_nothing}
use Rattle.bpf_helpers.proofs.IndexCalls.{odd_key}
use Rattle.bpf_helpers.proofs.indexed.look_up_index.Goals as goal

pub returns-in-Some-clause-call : goal.returns-in-Some-clause-call
returns-in-Some-clause-call g c =
    let key = c.in-Some.key.now in
    let size = c.in-Some.ensures.count in
    let whole : take 4 key ≡ key = take_all 4 key (omega arith) in
    let number : c.from-index.result ≡ little_endian key = c.from-index.ensures ∙ (c.load_word.ensures ∙ ap little_endian whole) in (
      [],
      chain_nothing g.S.Shared.passes g.S.Shared.serves c.args.cpu g.met.S.Shared.nothing c.args.shared.now,
      inr (c.from-index.result, inl (key, c.in-Some.ensures.own, number, refl), ap Ok c.answer_for.ensures, refl),
    )

pub returns-in_default-find_source-clause-call : goal.returns-in_default-find_source-clause-call
returns-in_default-find_source-clause-call g c = (
  [],
  chain_nothing g.S.Shared.passes g.S.Shared.serves c.args.cpu g.met.S.Shared.nothing c.args.shared.now,
  inl (inl (c.in_default-find_source.ensures.missing, (refl, refl, refl))),
)

pub returns-then-is_odd-clause-call : goal.returns-then-is_odd-clause-call
returns-then-is_odd-clause-call g c =
    let odd = odd_key (g.S.Shared.shapes c.args.shared.now) c.args.memory.now c.args.held.now (slice_index c.args.registers.now 2)
    c.in-Some-find_source.source c.in-Some-find_source.ensures.found (c.if-is_odd.ensures.0 refl) in (
      [],
      chain_nothing g.S.Shared.passes g.S.Shared.serves c.args.cpu g.met.S.Shared.nothing c.args.shared.now,
      inl (inr (odd, (refl, refl, refl))),
    )
