use Rattle.std.proofs.Common.{ℕ, [], ◌++◌, Option, Ok, inl, inr, refl, sym, subst, ◌∙◌, slice_index}
use Rattle.std.proofs.lemmas.List.{append-nil}
use Rattle.bpf_shared.specs.Shape.{fixed_span}
use Rattle.bpf_shared.proofs.Chains.{chain_join, chain_nothing}
use Rattle.bpf_helpers.specs.Calls.{Answers, Copies, copy_for}
use Rattle.bpf_helpers.proofs.IndexCalls.{odd_key, source_readable}
use Rattle.bpf_helpers.proofs.indexed.update_index.Goals as goal

pub returns-in_default-clause-call : goal.returns-in_default-clause-call
returns-in_default-clause-call g c = (
  [],
  chain_nothing g.S.Shared.passes g.S.Shared.serves c.args.cpu g.met.S.Shared.nothing c.args.shared.now,
  inl (inl c.in_default.ensures.missing, (refl, refl, refl)),
)

pub returns-in_default-find_source-clause-call : goal.returns-in_default-find_source-clause-call
returns-in_default-find_source-clause-call g c = (
  [],
  chain_nothing g.S.Shared.passes g.S.Shared.serves c.args.cpu g.met.S.Shared.nothing c.args.shared.now,
  inl (inr c.in_default-find_source.ensures.missing, (refl, refl, refl)),
)

pub returns-then-is_odd-clause-call : goal.returns-then-is_odd-clause-call
returns-then-is_odd-clause-call g c =
    let h = g.S.Shared.shapes c.args.shared.now in
    let odd = odd_key h c.args.memory.now c.args.held.now (slice_index c.args.registers.now 2) c.in-Some.key c.in-Some.ensures.found
    (c.if-is_odd.ensures.0 refl) in
    let readable = source_readable h c.args.memory.now c.args.held.now (slice_index c.args.registers.now 3) c.args.array.value
    c.in-Some-find_source.value c.in-Some-find_source.ensures.found in (
      [],
      chain_nothing g.S.Shared.passes g.S.Shared.serves c.args.cpu g.met.S.Shared.nothing c.args.shared.now,
      inr (inl (readable, odd, (refl, refl, refl))),
    )

pub returns-in-Some-refusal-clause-call : goal.returns-in-Some-refusal-clause-call
returns-in-Some-refusal-clause-call g c =
    let h = g.S.Shared.shapes c.args.shared.now in
    let array = c.args.array in
    let index = c.read_index-index.result in
    let readable = source_readable h c.args.memory.now c.args.held.now (slice_index c.args.registers.now 3) array.value
    c.in-Some-find_source.value c.in-Some-find_source.ensures.found in
    let read = c.read_index-index.ensures.read in
    let P : Option ℕ → Type 0 = λ o. Answers h c.args.memory.now c.args.registers.now c.args.held.now
    (fixed_span c.args.number array (copy_for c.args.cpu array) index).at array.value o [] (Ok c.in-Some-refusal.answer) in
    let refused = subst P (sym c.in-Some-refusal.is ∙ c.refusal.ensures) (refl, refl) in (
      read.0,
      read.2,
      inr (inr (index, read.0, [], readable, read.1, sym (append-nil read.0), refused, refl)),
    )

pub returns-clause-call : goal.returns-clause-call
returns-clause-call g c =
    let h = g.S.Shared.shapes c.args.shared.now in
    let array = c.args.array in
    let index = c.read_index-index.result in
    let readable = source_readable h c.args.memory.now c.args.held.now (slice_index c.args.registers.now 3) array.value
    c.in-Some-find_source.value c.in-Some-find_source.ensures.found in
    let read = c.read_index-index.ensures.read in
    let copied = c.copy_value.ensures.copied in
    let Q : ℕ → Type 0 = λ to. Copies c.args.memory.now (slice_index c.args.registers.now 3) to array.value copied.0 in
    let P : Option ℕ → Type 0 = λ o. Answers h c.args.memory.now c.args.registers.now c.args.held.now
    (fixed_span c.args.number array (copy_for c.args.cpu array) index).at array.value o copied.0 (Ok 0) in
    let done = subst P (sym c.in_default-refusal.is ∙ c.refusal.ensures) (refl, subst Q c.address_of-to.ensures.address copied.2) in (
      read.0 ++ copied.0,
      chain_join g.S.Shared.passes g.S.Shared.serves c.args.cpu g.met.S.Shared.follows c.args.shared.now c.read_index-index.new.shared
          c.copy_value.new.shared read.0 copied.0 read.2 copied.1,
      inr (inr (index, read.0, copied.0, readable, read.1, refl, done, refl)),
    )
